-- The free blocks of a pool, after any of its operations, ascend.
use Rattle.std.proofs.Common.{◌≡◌, ℕ, ◌+◌, ◌<◌, ◌==◌, nat_lt, List, [], ◌∷◌, Bool, true, false, not, cond, ◌&&◌, arith}
use Rattle.std.proofs.lemmas.Bool.{and_parts}
use Rattle.std.proofs.lemmas.Bool.Decides.{nat_tests}
use Rattle.qp_chart.specs.StateTree.{has}
use Rattle.qp_model.specs.declared.bodies.Body.{Body}
use Rattle.qp_model.specs.declared.bodies.Body.TheVariants.{New, Back}
use Rattle.qp_model.specs.Record.{Item}
use Rattle.qp_model.specs.Lists.{without_all}
use Rattle.qp_model.specs.Machine.{after, is_allowed}
use Rattle.qp_model.specs.FreeBlocks.{Pool, pool_next, pool_may, free_blocks}
use Rattle.qp_model.proofs.MachineLemmas.{after-keeps}
use Rattle.qp_table.proofs.Bounds.{Ascends, ascends-up, ascends-less, with-ascends}

without-ascends : (b lo n : ℕ) (xs : List ℕ) → Ascends lo n xs → Ascends lo n (without_all b xs)
without-ascends b lo n [] a = a
without-ascends b lo n (x ∷ xs) a = let l = a.0 in go (x == b) (without-ascends b (x + 1) n xs a.2)
  where
    go : (t : Bool) → Ascends (x + 1) n (without_all b xs) → Ascends lo n (cond t (without_all b xs) (x ∷ without_all b xs))
    go true r = ascends-less lo (x + 1) n (without_all b xs) (omega arith) r
    go false r = (a.0, a.1, r)

pool-step : (n : ℕ) (s : Pool) (b : Body) → pool_may n s b ≡ true → Ascends 0 n s.free → Ascends 0 n (pool_next s b).free
pool-step n s (New p k b from sig pars) m a = without-ascends b 0 n s.free a
pool-step n s (Back p k b to) m a =
    let t : nat_lt b n ≡ true = (and_parts (k == s.count) (nat_lt b n) (and_parts ((k == s.count) && nat_lt b n) (not (has s.free b)) m).0).1 in let lt : b < n = grind (arith, nat_tests) in with-ascends b 0 n s.free (omega arith) lt a
pool-step n s _ m a = absurd (cc)

pub free-ascend : (blocks : ℕ) (history : List Item) → is_allowed (free_blocks blocks) history ≡ true → Ascends 0 blocks (after (free_blocks blocks) history).free
free-ascend blocks history h = after-keeps (free_blocks blocks) (λ (s : Pool). Ascends 0 blocks s.free) (λ s i m a. pool-step blocks s i.body m a) (ascends-up 0 blocks blocks (omega arith)) history h
