-- The lives of a block: from each time that it is given out to the time that it comes back.
use Rattle.std.specs.Prelude.{ℕ, ◌==◌, nat_lt, nat_le, Bool, true, false, not, ◌&&◌, ◌||◌, List, [], ◌∷◌, length, take, if◌then◌else◌, IsTrue, Some, None}
use Rattle.std.specs.declared.option.Option.{Option}
use Rattle.std.specs.List.{list_all, filter_map}
use Rattle.qp_model.specs.declared.bodies.Body.{Body}
use Rattle.qp_model.specs.declared.bodies.Body.TheVariants.{New, Back}
use Rattle.qp_model.specs.Record.{Item}
use Rattle.qp_chart.specs.StateTree.{has}
use Rattle.qp_model.specs.Lists.{all_below}
use Rattle.qp_model.specs.Machine.{Machine, after, is_allowed}
use Rattle.qp_model.specs.References.{references}

-- whether the block is given out, and the `from` or `to` that was stated last
pub record Life : Type 0 where
  pub out : Bool
  pub edge : ℕ

abbrev pub life_next : ℕ → Life → Body → Life
life_next b s (New p n c from sig pars) = if c == b then record { out = true; edge = from } else s
life_next b s (Back p n c to) = if c == b then record { out = false; edge = to } else s
life_next b s _ = s

-- `new` and `back` alternate, `new` first; each `from` is the `to` before it, the first is 0, and each `to` is above its `from`
abbrev pub life_may : ℕ → Life → Body → Bool
life_may b s (New p n c from sig pars) = not (c == b) || (not s.out && (from == s.edge))
life_may b s (Back p n c to) = not (c == b) || (s.out && nat_lt s.edge to)
life_may b s _ = true

-- the lives of block b, read off its pool's operations
abbrev pub life_of : ℕ → Machine Life
life_of b = record {
  first = record { out = false; edge = 0 };
  next = λ s i. life_next b s i.body;
  may = λ s i. life_may b s i.body;
  count = λ s. s.edge;
  says = λ s c. false;
}

abbrev pub edge_of : ℕ → Body → Option ℕ
edge_of b (New p n c from sig pars) = if c == b then Some from else None
edge_of b (Back p n c to) = if c == b then Some to else None
edge_of b _ = None

-- where lives of block b begin and end, by its own operations
unfoldable pub edges : ℕ → List Item → List ℕ
edges b pool = filter_map (λ i. edge_of b i.body) pool

abbrev pub is_empty : List ℕ → Bool
is_empty [] = true
is_empty (x ∷ xs) = false

-- the references that stand after the block's first n operations
unfoldable pub refs_at : ℕ → List Item → List ℕ
unfolding after
refs_at n block = (after references (take n block)).names

-- a life begins and ends within the block's history, where no reference stands
unfoldable pub edges_empty : ℕ → List Item → List Item → Bool
unfolding edges refs_at
edges_empty b pool block = list_all (λ n. nat_le n (length block) && is_empty (refs_at n block)) (edges b pool)

-- each operation of the block lies in a life: the last one is still open, or ends with the history
unfoldable pub lives_cover : ℕ → List Item → List Item → Bool
unfolding after
lives_cover b pool block = (after (life_of b) pool).out || ((after (life_of b) pool).edge == length block)

-- strictly inside a life a reference stands; a life that is still open may have none at its very end
unfoldable pub lives_referred : ℕ → List Item → List Item → Bool
unfolding all_below edges refs_at
lives_referred b pool block = all_below (length block) (λ n. has (edges b pool) n || not (is_empty (refs_at n block)))

-- what is asked of the lives of block b, whose pool and word have these histories
pub record HasLives (b : ℕ) (pool block : List Item) : Type 0 where
  pub alternate : IsTrue (is_allowed (life_of b) pool)
  pub empty : IsTrue (edges_empty b pool block)
  pub cover : IsTrue (lives_cover b pool block)
  pub referred : IsTrue (lives_referred b pool block)

-- the same as a test
unfoldable pub has_lives : ℕ → List Item → List Item → Bool
unfolding edges_empty is_allowed lives_cover lives_referred
has_lives b pool block = is_allowed (life_of b) pool && edges_empty b pool block && lives_cover b pool block && lives_referred b pool block
