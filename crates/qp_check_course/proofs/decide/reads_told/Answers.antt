use Rattle.std.proofs.Common.{sym, ◌∙◌, ap, subst, Option}
use Rattle.std.specs.Option.{option_map}
use Rattle.qp_check_calls.specs.AsPiece.{as_cut}
use Rattle.qp_check_course.specs.declared.states.State.{State}
use Rattle.qp_check_course.specs.Machine as machine
use Rattle.qp_check_course.specs.Passing.{is_none_told, run_told, may_end_told, told_well}
use Rattle.qp_check_course.specs.Runs.{Leads}
use Rattle.qp_check_course.specs.AsState.{as_actor, as_state}
use Rattle.qp_check_course.proofs.AnswerLemmas.{begun-can, none-told}
use Rattle.qp_check_course.proofs.decide.reads_told.Goals as goal

pub run_told-requires-clause-can : goal.run_told-requires-clause-can
run_told-requires-clause-can c = begun-can c.args.who.now.sys.now (as_actor c.args.who.now) c.args.d.now (as_state c.in_ok-first.first) c.requires c.in_ok-first.ensures

pub may_end_told-requires-clause-can : goal.may_end_told-requires-clause-can
may_end_told-requires-clause-can c =
    let sys = c.args.who.now.sys.now in
    let a = as_actor c.args.who.now in
    let led = subst (λ (o : Option State). Leads sys a (run_told sys a (as_state c.in_ok-first.first) c.args.told.now) (option_map as_state o)) c.in-Some.is c.in_ok-read.ensures in
    led.1

pub returns-in-Some : goal.returns-in-Some
returns-in-Some c =
    let sys = c.args.who.now.sys.now in
    let a = as_actor c.args.who.now in
    let g = c.args.told.now in
    let led = subst (λ (o : Option State). Leads sys a (run_told sys a (as_state c.in_ok-first.first) g) (option_map as_state o)) c.in-Some.is c.in_ok-read.ensures in
    c.may_end_told.ensures
    ∙ ap (λ n. may_end_told a (as_cut c.args.cut) n (as_state c.in-Some.last)) (none-told g _ c.is_empty.ensures)
    ∙ sym (ap (told_well a (as_cut c.args.cut) (is_none_told g)) (ap (λ (s : machine.State). run_told sys a s g) (sym c.in_ok-first.ensures) ∙ led.0))

pub returns-in-None : goal.returns-in-None
returns-in-None c =
    let sys = c.args.who.now.sys.now in
    let a = as_actor c.args.who.now in
    let g = c.args.told.now in
    let led = subst (λ (o : Option State). Leads sys a (run_told sys a (as_state c.in_ok-first.first) g) (option_map as_state o)) c.in-None.is c.in_ok-read.ensures in
    sym (ap (told_well a (as_cut c.args.cut) (is_none_told g)) (ap (λ (s : machine.State). run_told sys a s g) (sym c.in_ok-first.ensures) ∙ led))
