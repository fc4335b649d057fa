-- A journal has one verdict.
use Rattle.std.proofs.Common.{◌≡◌, ℕ, inl, inr, List, [], ◌∷◌, refl, sym, ◌∙◌}
use Rattle.qp_check_words.specs.declared.verdict.Site.{Site}
use Rattle.qp_check_words.specs.declared.verdict.Verdict.{Verdict}
use Rattle.qp_check_words.specs.declared.verdict.Verdict.TheVariants as verdict
use Rattle.qp_check.specs.Judged.{Trial, AllHold, FailsFirst, IsVerdict, trials}
use Rattle.qp_check.specs.Law.{VerdictsAreOne}

-- a list of trials has one verdict
fails-not-all : (ts : List Trial) (d : ℕ) (s : Site) → AllHold ts → FailsFirst ts d s → ⊥
fails-not-all [] d s h f = f
fails-not-all (t ∷ ts) d s h (inl f) = f.0 h.0
fails-not-all (t ∷ ts) d s h (inr f) = fails-not-all ts d s h.1 f.1

fails-one : (ts : List Trial) (d e : ℕ) (s t : Site) → FailsFirst ts d s → FailsFirst ts e t → (d ≡ e) × (s ≡ t)
fails-one [] d e s t f g = absurd f
fails-one (x ∷ xs) d e s t (inl f) (inl g) = (sym f.1 ∙ g.1, sym f.2 ∙ g.2)
fails-one (x ∷ xs) d e s t (inl f) (inr g) = absurd (f.0 g.0)
fails-one (x ∷ xs) d e s t (inr f) (inl g) = absurd (g.0 f.0)
fails-one (x ∷ xs) d e s t (inr f) (inr g) = fails-one xs d e s t f.1 g.1

verdict-one : (ts : List Trial) (v w : Verdict) → IsVerdict ts v → IsVerdict ts w → v ≡ w
verdict-one ts verdict.Lawful verdict.Lawful h k = refl
verdict-one ts verdict.Lawful (verdict.Broken e t) h k = absurd (fails-not-all ts e t h k)
verdict-one ts (verdict.Broken d s) verdict.Lawful h k = absurd (fails-not-all ts d s k h)
verdict-one ts (verdict.Broken d s) (verdict.Broken e t) h k = let same = fails-one ts d e s t h k in λ i. verdict.Broken (same.0 i) (same.1 i)

pub verdicts_are_one : VerdictsAreOne
verdicts_are_one sys stimuli j v w is are = verdict-one (trials sys stimuli j) v w is are
