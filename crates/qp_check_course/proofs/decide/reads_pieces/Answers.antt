use Rattle.std.proofs.Common.{sym, ◌∙◌, ap, Option, map}
use Rattle.std.specs.Option.{option_map}
use Rattle.qp_model.specs.Pieces.{ends_at_point}
use Rattle.qp_check_calls.specs.AsPiece.{as_piece, as_cut}
use Rattle.qp_check_course.specs.declared.states.State.{State}
use Rattle.qp_check_course.specs.Machine as machine
use Rattle.qp_check_course.specs.Machine.{state_after}
use Rattle.qp_check_course.specs.Decided.{may_be_cut, ends_well}
use Rattle.qp_check_course.specs.AsState.{as_actor, as_state}
use Rattle.qp_check_course.proofs.AnswerLemmas.{begun-can}
use Rattle.qp_check_course.proofs.decide.reads_pieces.Goals as goal

pub run-requires-clause-can : goal.run-requires-clause-can
run-requires-clause-can c = begun-can c.args.who.now.sys.now (as_actor c.args.who.now) c.args.d.now (as_state c.in_ok-first.first) c.requires c.in_ok-first.ensures

pub returns-in-Some : goal.returns-in-Some
returns-in-Some c =
    let sys = c.args.who.now.sys.now in
    let a = as_actor c.args.who.now in
    let ps = map as_piece c.args.pieces.now in
    c.may_end.ensures
    ∙ ap (λ n. may_be_cut (as_cut c.args.cut) n (as_state c.in-Some.last)) c.ends_at_point.ensures
    ∙ ap (ends_well (as_cut c.args.cut) (ends_at_point ps)) (sym (ap (λ (o : Option State). option_map as_state o) c.in-Some.is) ∙ c.in_ok-read.ensures
    ∙ ap (λ (s : machine.State). state_after sys a s ps) c.in_ok-first.ensures)

pub returns-in-None : goal.returns-in-None
returns-in-None c =
    let sys = c.args.who.now.sys.now in
    let a = as_actor c.args.who.now in
    let ps = map as_piece c.args.pieces.now in
    ap (ends_well (as_cut c.args.cut) (ends_at_point ps)) (sym (ap (λ (o : Option State). option_map as_state o) c.in-None.is) ∙ c.in_ok-read.ensures
    ∙ ap (λ (s : machine.State). state_after sys a s ps) c.in_ok-first.ensures)
