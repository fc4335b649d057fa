-- Steps that are told, one row behind another.
use Rattle.std.proofs.Common.{◌≡◌, ℕ, zero, suc, ◌+◌, List, ◌∷◌, ◌++◌, refl, sym, ◌∙◌, ap, arith, append_assoc}
use Rattle.qp_told.specs.Steps.{TellsSteps, steps_behind}

pub tells-same : (a b : ℕ) (old new : List ℕ) → b ≡ a → new ≡ old → TellsSteps a b old new
tells-same a b old new same told = record { k = 0; counted = omega (arith, same); told = told }

pub tells-none : (a : ℕ) (old : List ℕ) → TellsSteps a a old old
tells-none a old = tells-same a a old old refl refl

-- one step more
pub tells-more : (a b c : ℕ) (old mid new : List ℕ) → TellsSteps a b old mid → c ≡ b + 1 → new ≡ c ∷ mid → TellsSteps a c old new
tells-more a b c old mid new h next told =
    let counted = h.counted in
    let is : c ≡ a + suc h.k = omega (arith, next, counted) in
    record { k = suc h.k; counted = is; told = told ∙ ap (λ n. n ∷ mid) is ∙ ap (λ xs. (a + suc h.k) ∷ xs) h.told }

pub tells-one : (a b : ℕ) (old new : List ℕ) → b ≡ a + 1 → new ≡ b ∷ old → TellsSteps a b old new
tells-one a b old new next told = tells-more a a b old old new (tells-none a old) next told

steps-append : (a k m n : ℕ) → n ≡ m + k → steps_behind a n ≡ steps_behind (a + k) m ++ steps_behind a k
steps-append a k zero n is = ap (steps_behind a) (omega (arith, is))
steps-append a k (suc m) zero is = absurd (omega (arith, is))
steps-append a k (suc m) (suc n) is =
    let same : a + suc n ≡ (a + k) + suc m = omega (arith, is) in
    ap (λ x. x ∷ steps_behind a n) same ∙ ap (λ xs. ((a + k) + suc m) ∷ xs) (steps-append a k m n (omega (arith, is)))

pub tells-then : (a b c : ℕ) (old mid new : List ℕ) → TellsSteps a b old mid → TellsSteps b c mid new → TellsSteps a c old new
tells-then a b c old mid new one two =
    let first = one.counted in
    let second = two.counted in
    record {
      k = two.k + one.k;
      counted = omega (arith, first, second);
      told =
          two.told ∙ ap (λ n. steps_behind n two.k ++ mid) first ∙ ap (λ xs. steps_behind (a + one.k) two.k ++ xs) one.told
          ∙ sym (append_assoc (steps_behind (a + one.k) two.k) (steps_behind a one.k) old)
          ∙ ap (λ xs. xs ++ old) (sym (steps-append a one.k two.k (two.k + one.k) refl));
    }

-- no step began since
pub tells-kept : (a b c : ℕ) (old new : List ℕ) → TellsSteps a b old new → c ≡ b → TellsSteps a c old new
tells-kept a b c old new h same = record { k = h.k; counted = same ∙ h.counted; told = h.told }

pub tells-step : (a b c : ℕ) (old new : List ℕ) → TellsSteps a b old new → c ≡ b + 0 → TellsSteps a c old new
tells-step a b c old new h same = tells-kept a b c old new h (omega (arith, same))
