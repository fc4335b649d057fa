-- Where objects show that they rest.
use Rattle.std.proofs.Common.{◌≡◌, ℕ, zero, suc, ◌<◌, List, [], ◌∷◌, ◌++◌, length, get_or, Option, Some, inl, inr, sym, subst, arith}
use Rattle.std.specs.Option.{IfSome}
use Rattle.qp_model.proofs.HomeLemmas.{All-snoc}
use Rattle.qp_kernel_end.specs.declared.rest.Rest.{Rest}
use Rattle.qp_port.specs.declared.job.Job.{Job}
use Rattle.qp_port.specs.Resting.{AreShown, IsShownBy, IsShownIn}

shown-at : {T : Type 0} (work : T → Job) (ws : List T) (i : ℕ) (w : T) (r : Rest) → i < length ws → w ≡ get_or ws i w → IsShownBy (work w) r → IsShownIn work ws r
shown-at work [] i w r within is shown = absurd (omega (arith, within))
shown-at work (x ∷ xs) zero w r within is shown = inl (subst (λ y. IsShownBy (work y) r) is shown)
shown-at work (x ∷ xs) (suc i) w r within is shown = inr (shown-at work xs i w r (omega (arith, within)) is shown)

pub shown-more : {T : Type 0} (work : T → Job) (ws : List T) (i : ℕ) (w : T) (found : Option Rest) (r : Rest) (xs ys : List Rest) → i < length ws → w ≡ get_or ws i w
    → IfSome found (IsShownBy (work w)) → found ≡ Some r → ys ≡ xs ++ r ∷ [] → AreShown work ws xs → AreShown work ws ys
shown-more work ws i w found r xs ys within is some here grown all =
    subst (AreShown work ws) (sym grown) (All-snoc (IsShownIn work ws) xs r all (shown-at work ws i w r within is (subst (λ o. IfSome o (IsShownBy (work w))) here some)))
