-- Actions that a system with room for eight parameters is able to do have events of at most eight.
use Rattle.std.proofs.Common.{◌≡◌, ℕ, ◌≤◌, nat_le, Bool, true, false, ◌&&◌, ◌||◌, length, refl, arith}
use Rattle.std.proofs.lemmas.Bool.Decides.{nat_tests}
use Rattle.qp_chart.specs.declared.actions.Plain.{Plain}
use Rattle.qp_chart.specs.declared.actions.Plain.TheVariants as action
use Rattle.qp_model.specs.Able.{has_pool, is_able}
use Rattle.qp_model.specs.Parts.{is_static, sizes_of, first_pool}
use Rattle.qp_check_course.specs.Followable.{with_eight}
use Rattle.qp_check_course.specs.Few.{MakesFew}

none : (s : Bool) → ((s && false) || false) ≡ true → ⊥
none true h = cc
none false h = cc

eight : (sig n : ℕ) → has_pool with_eight sig n ≡ true → n ≤ 8
unfolding has_pool first_pool is_static sizes_of
eight sig n h = by (nat_le n 8) refl
  where
    by : (b : Bool) → nat_le n 8 ≡ b → n ≤ 8
    by true is = grind (arith, nat_tests, is)
    by false is = absurd (none (nat_le 4 sig) (rw is at h))

pub makes-few : (at_hand : Bool) (p : Plain) → is_able with_eight at_hand p ≡ true → MakesFew p
unfolding is_able
makes-few at_hand (action.Post to sig pars margin reserve) h = eight sig (length pars) h
makes-few at_hand (action.Lifo sig pars reserve) h = eight sig (length pars) h
makes-few at_hand (action.Publish sig pars reserve) h = eight sig (length pars) h
makes-few at_hand _ h = tt
