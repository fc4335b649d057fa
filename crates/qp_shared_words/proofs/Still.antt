-- Looks that need no law of their own.
use Rattle.std.proofs.Common.{◌≡◌, ℕ, ◌+◌, ◌<◌, ◌&&◌, List, [], ◌∷◌, Bool, true, false, cond, get_or, IsTrue, refl, sym, ap, subst, ◌∙◌, arith, eqb, eq-eqb}
use lib.Seq.{set-get_or}
use Rattle.atomic_table.proofs.Lists.{set_again}
use Rattle.qp_model.specs.declared.systems.System.{System}
use Rattle.qp_table.specs.Counting.{many}
use Rattle.qp_model.specs.Sites.{blocks_of}
use Rattle.qp_model.specs.WordLaw.{is_pool}
use Rattle.qp_table.specs.Rule.{pool_at, block_at, is_spot, is_spot_at, Holds}
use Rattle.qp_table.specs.After.{WordSteps}
use Rattle.qp_table.specs.declared.view.Spot.{Spot}
use Rattle.qp_table.specs.declared.view.View.{View}
use Rattle.qp_table.proofs.Bounds.{pool-ascends, pool-count, map-small}
use Rattle.qp_table.specs.Told.{FromTold}
use Rattle.qp_table.proofs.StepLawLemmas.{beginnings_tell}

-- a look that tells nothing
pub still : (sys : System) (id : ℕ) (v : View) (w : ℕ) → WordSteps sys id v w (λ n. n) (λ n u. u ≡ v)
still sys id v w words views holds at small = (
  v,
  subst (λ (z : List ℕ × List View). Holds sys z.0 z.1) (λ i. (sym (set-get_or words w 0) i, sym (set_again views id v at) i)) holds,
  refl,
)

spot-at : (p b : ℕ) (xs : List Spot) → 0 < many (is_spot p b) xs → (m : ℕ) × (0 < many (is_spot_at p b m) xs)
spot-at p b [] h = absurd (omega arith)
spot-at p b (s ∷ ss) h = go (is_spot p b s) refl h (spot-at p b ss)
  where
    go : (t : Bool) → is_spot p b s ≡ t → 0 < cond {A = ℕ} t 1 0 + many (is_spot p b) ss → (0 < many (is_spot p b) ss → (m : ℕ) × (0 < many (is_spot_at p b m) ss)) → (m : ℕ) × (0 < many (is_spot_at p b m) (s ∷ ss))
    go true e h rest = (s.at, subst (λ (u : Bool). 0 < cond {A = ℕ} u 1 0 + many (is_spot_at p b s.at) ss) (sym (ap (λ (t : Bool). t && eqb s.at s.at) e ∙ eq-eqb s.at s.at refl)) (omega arith))
    go false e h rest = let r = rest (omega (arith, h)) in let some = r.1 in (r.0, omega arith)

-- the word of a fresh block tells of each number at which the lane has it that the life begins there
pub begins : (sys : System) (id : ℕ) (v : View) (p b : ℕ) → 0 < many (is_spot p b) v.fresh → WordSteps sys id v (block_at p b) (λ n. n) (λ n u. (m : ℕ) → 0 < many (is_spot_at p b m) v.fresh → FromTold sys p b m v n u)
begins sys id v p b mine words views holds at small =
    let m = spot-at p b v.fresh mine in
    let z = beginnings_tell sys id v p b m.0 m.1 words views holds at small in (
      z.0,
      z.1,
      λ k there. let y = beginnings_tell sys id v p b k there words views holds at small in
          subst (FromTold sys p b k v (get_or words (block_at p b) 0)) (y.2.0 ∙ sym z.2.0) y.2,
    )

-- a pool's word is far below the end of its range
pub with-few : (sys : System) (id : ℕ) (v : View) (p : ℕ) (f : ℕ → ℕ) (T : ℕ → View → Type 0) → IsTrue (is_pool sys p) → WordSteps sys id v (pool_at p) f T → WordSteps sys id v (pool_at p) f (λ n u. T n u × (n < 9223372036854775808))
with-few sys id v p f T pool steps words views holds at small =
    let z = steps words views holds at small in
    let few : get_or words (pool_at p) 0 < 9223372036854775808 =
    let s = holds.shows.pools p pool in
    let c = pool-count sys holds.lanes holds.now holds.leaves holds.logs.count holds.logs.room p pool in
    let m = map-small (blocks_of sys p) (holds.now.pool p).free (holds.fitting.small p pool).1 (pool-ascends sys holds.lanes holds.now holds.leaves holds.logs.count holds.logs.room p pool) in
    omega arith in
    (z.0, z.1, (z.2, few))
