use Rattle.std.proofs.Common.{◌≡◌, ◌+◌, ◌∙◌, sym, ap, subst, arith, Option}
use Rattle.qp_model.specs.Ends.{is_turn_mark}
use Rattle.qp_model.specs.OutputSummary.{is_took}
use Rattle.qp_model.specs.Told.{Told}
use Rattle.qp_check_course.specs.Reading.{ReadsOn}
use Rattle.qp_check_course.specs.declared.reading.CourseReading.{CourseReading}
use Rattle.qp_summary.proofs.ComingLemmas.{on-mark, on-step, on-none}
use Rattle.qp_check_course.proofs.DoneLemmas.{one_if}
use Rattle.qp_summary.proofs.objects.told_next.Goals as goal
use Rattle.qp_summary.proofs.objects.told_next.Goals.{then-is_took, else-is_took}

pub returns-then-is_turn_mark-clause-comes : goal.returns-then-is_turn_mark-clause-comes
returns-then-is_turn_mark-clause-comes c =
    let mark = ap (λ (t : Told). is_turn_mark t.body) (sym c.told.view_is) ∙ (sym c.is_turn_mark.ensures ∙ c.if-is_turn_mark.true) in
    λ sys d left all on. on-mark c.args.told.now left sys d all c.args.came on mark

pub returns-in-Some-clause-comes : goal.returns-in-Some-clause-comes
returns-in-Some-clause-comes c =
    let t = c.args.told.now in
    let taken = c.args.came.taken in
    let step = ap (λ (t : Told). is_turn_mark t.body) (sym c.told.view_is) ∙ (sym c.is_turn_mark.ensures ∙ c.if-is_turn_mark.false) in
    let more : c.if-is_took.count ≡ taken + one_if (is_took t.body) =
    elim c.if-is_took.branch [
      | then-is_took w ↦ w.count-is ∙ ap (λ b. taken + one_if b) (sym w.if-is_took.true ∙ c.is_took.ensures)
      | else-is_took w ↦
          let same : taken ≡ taken + 0 = omega arith in
          w.count-is ∙ same ∙ ap (λ b. taken + one_if b) (sym w.if-is_took.false ∙ c.is_took.ensures)
    ] in
    let reads = subst (λ (o : Option CourseReading). ReadsOn c.args.came.course t o) c.in-Some.is c.in_ok-next.ensures in
    λ sys d left all on. on-step t left sys d all c.args.came on step (record { taken = c.if-is_took.count; course = c.in-Some.course }) more reads

pub returns-in-None-clause-comes : goal.returns-in-None-clause-comes
returns-in-None-clause-comes c =
    let t = c.args.told.now in
    let step = ap (λ (t : Told). is_turn_mark t.body) (sym c.told.view_is) ∙ (sym c.is_turn_mark.ensures ∙ c.if-is_turn_mark.false) in
    let reads = subst (λ (o : Option CourseReading). ReadsOn c.args.came.course t o) c.in-None.is c.in_ok-next.ensures in
    λ sys d left all on f follow. on-none t left sys d all c.args.came on step reads f follow
