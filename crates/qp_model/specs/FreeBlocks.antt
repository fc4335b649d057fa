-- The free blocks of a pool.
use Rattle.std.specs.Prelude.{ℕ, ◌+◌, ◌==◌, nat_lt, nat_le, Bool, false, not, ◌&&◌, List, length}
use Rattle.qp_model.specs.declared.bodies.Body.{Body}
use Rattle.qp_model.specs.declared.bodies.Body.TheVariants.{New, Back, Short, NoBlock}
use Rattle.qp_chart.specs.StateTree.{has}
use Rattle.qp_model.specs.Lists.{count_up, without_all, with_number, is_first}
use Rattle.qp_model.specs.Machine.{Machine}

pub record Pool : Type 0 where
  pub count : ℕ
  -- ascending
  pub free : List ℕ

-- `new` takes a block out, `back` puts one in
abbrev pub pool_next : Pool → Body → Pool
pool_next s (New p n b from sig pars) = record { count = s.count + 1; free = without_all b s.free }
pool_next s (Back p n b to) = record { count = s.count + 1; free = with_number b s.free }
pool_next s _ = s

-- the block taken out is the least free one; the one put in is a block of the pool that isn't free
abbrev pub pool_may : ℕ → Pool → Body → Bool
pool_may blocks s (New p n b from sig pars) = (n == s.count) && is_first b s.free
pool_may blocks s (Back p n b to) = (n == s.count) && nat_lt b blocks && not (has s.free b)
pool_may blocks s _ = false

-- `short` states the free blocks, which are at most its reserve; assertion 2 states them too, and stands where there are none
abbrev pub pool_says : Pool → Body → Bool
pool_says s (Short p n free reserve) = (length s.free == free) && nat_le free reserve
pool_says s (NoBlock p n free) = (length s.free == free) && (free == 0)
pool_says s _ = false

-- a pool of so many blocks, which are all free at first
abbrev pub free_blocks : ℕ → Machine Pool
free_blocks blocks = record {
  first = record { count = 0; free = count_up 0 blocks };
  next = λ s i. pool_next s i.body;
  may = λ s i. pool_may blocks s i.body;
  count = λ s. s.count;
  says = pool_says;
}
