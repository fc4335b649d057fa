-- What a lane remembers of its used blocks, after a step.
use Rattle.std.proofs.Common.{◌≡◌, ◌≢◌, ℕ, ◌+◌, ◌*◌, ◌<◌, ◌≤◌, ◌&&◌, List, [], ◌∷◌, ◌++◌, Bool, true, false, cond, slice_index, refl, sym, ap, subst, ◌∙◌, arith, eqb, eqb-true}
use Rattle.std.proofs.lemmas.Bool.{and_parts}
use mathlib.Core.Logic.{dite}
use native.Mathlib.Decide.{ℕ_discrete}
use Rattle.qp_table.specs.Counting.{many, without}
use Rattle.qp_table.specs.Rule.{is_spot, is_spot_at}
use Rattle.qp_table.specs.After.{spot}
use Rattle.qp_table.specs.declared.view.Spot.{Spot}
use Rattle.qp_table.specs.declared.view.View.{View}
use Rattle.qp_table.proofs.Counting.{many-snoc}
use Rattle.qp_table.proofs.Tokens.{at-le}
use Rattle.qp_shared_lane.specs.Used.{HasEnds}

-- the same blocks are used
pub ends-same : (at : List ℕ) (v u : View) → u.used ≡ v.used → HasEnds at v.used → HasEnds at u.used
ends-same at v u same has = subst (HasEnds at) (sym same) has

-- no block is used
pub ends-none : (at : List ℕ) → HasEnds at []
ends-none at p b n pool block h = absurd (omega arith)

without-le : (f g : Spot → Bool) (xs : List Spot) → many g (without f xs) ≤ many g xs
without-le f g [] = omega arith
without-le f g (x ∷ xs) = go (f x) (without-le f g xs)
  where
    go : (t : Bool) → many g (without f xs) ≤ many g xs → many g (cond t xs (x ∷ without f xs)) ≤ cond (g x) 1 0 + many g xs
    go true h = omega arith
    go false h = omega arith

-- a used block comes back
pub ends-fewer : (at : List ℕ) (f : Spot → Bool) (used : List Spot) → HasEnds at used → HasEnds at (without f used)
ends-fewer at f used has p b n pool block h = has p b n pool block (let l = without-le f (is_spot_at p b n) used in omega arith)

spot-is : (q c n p b k : ℕ) → is_spot_at q c n (spot p b k) ≡ true → (p ≡ q) × (b ≡ c) × (k ≡ n)
spot-is q c n p b k h =
    let t = and_parts (eqb p q && eqb b c) (eqb k n) h in let u = and_parts (eqb p q) (eqb b c) t.0 in (eqb-true p q u.0, eqb-true b c u.1, eqb-true k n t.1)

-- the life of a block ended, no other of whose place is used
pub ends-more : (at more : List ℕ) (p b k : ℕ) (used : List Spot) → p < 16 → b < 32 → many (is_spot p b) used ≡ 0 → slice_index more (32 * p + b) ≡ k → ((i : ℕ) → i ≢ 32 * p + b → slice_index more i ≡ slice_index at i)
    → HasEnds at used → HasEnds more (used ++ spot p b k ∷ [])
ends-more at more p b k used pool block none here others has q c n low small h =
    let s = many-snoc (is_spot_at q c n) used (spot p b k) in
    dite (ℕ_discrete (32 * q + c) (32 * p + b)) (λ same. at-place (omega arith) (omega arith) (is_spot_at q c n (spot p b k)) refl (omega arith)) (λ other. elsewhere other (is_spot_at q c n (spot p b k)) refl (omega arith))
  where
    at-place : q ≡ p → c ≡ b → (t : Bool) → is_spot_at q c n (spot p b k) ≡ t → 0 < many (is_spot_at q c n) used + cond {A = ℕ} t 1 0 → slice_index more (32 * q + c) ≡ n
    at-place x y true is m = ap (λ i. slice_index more i) (ap (λ (z : ℕ × ℕ). 32 * z.0 + z.1) (λ i. (x i, y i))) ∙ (here ∙ (spot-is q c n p b k is).2)
    at-place x y false is m = let l = at-le q c n used in let z : many (is_spot q c) used ≡ 0 = (λ i. many (is_spot (x i) (y i)) used) ∙ none in absurd (omega arith)

    elsewhere : 32 * q + c ≢ 32 * p + b → (t : Bool) → is_spot_at q c n (spot p b k) ≡ t → 0 < many (is_spot_at q c n) used + cond {A = ℕ} t 1 0 → slice_index more (32 * q + c) ≡ n
    elsewhere ne true is m = let z = spot-is q c n p b k is in let x = z.0 in let y = z.1 in absurd (omega arith)
    elsewhere ne false is m = others (32 * q + c) ne ∙ has q c n low small (omega arith)
