use Rattle.std.proofs.Common.{◌≡◌, sym, ◌∙◌, ap, Option, Some}
use Rattle.std.specs.Option.{option_map}
use Rattle.qp_check_calls.specs.AsPiece.{as_piece}
use Rattle.qp_check_course.specs.declared.states.State.{State}
use Rattle.qp_check_course.specs.Machine.{state_next}
use Rattle.qp_check_course.specs.AsState.{as_actor, as_state}
use Rattle.qp_check_course.proofs.CanLemmas.{run-next}
use Rattle.qp_check_course.proofs.LoopLemmas.{piece-on, piece-off, piece-end}
use Rattle.qp_check_course.proofs.runs.run.Goals as goal

pub returns-in-None : goal.returns-in-None
returns-in-None c =
    let sys = c.args.who.now.sys.now in
    let a = as_actor c.args.who.now in
    piece-off sys a c.loop-piece.piece-index c.args.pieces.now c.piece-item.result (as_state c.loop-piece.state) _ c.loop-piece-test.true c.piece-item.is
    (sym (ap (λ (o : Option State). option_map as_state o) c.in-None.is) ∙ c.in_ok-next.ensures) c.loop-piece.invariant.0

pub loop-piece-preserved : goal.loop-piece-preserved
loop-piece-preserved c =
    let sys = c.args.who.now.sys.now in
    let a = as_actor c.args.who.now in
    let read : Some (as_state c.in-Some.later) ≡ state_next sys a (as_state c.loop-piece.state) (as_piece c.piece-item.result) =
    sym (ap (λ (o : Option State). option_map as_state o) c.in-Some.is) ∙ c.in_ok-next.ensures in (
      piece-on sys a c.loop-piece.piece-index c.args.pieces.now c.piece-item.result (as_state c.loop-piece.state) (as_state c.in-Some.later) _ c.loop-piece-test.true c.piece-item.is
          read c.loop-piece.invariant.0,
      run-next sys a c.requires.able (as_state c.loop-piece.state) (as_piece c.piece-item.result) (as_state c.in-Some.later) (sym read) c.loop-piece.invariant.1,
    )

pub returns : goal.returns
returns c =
    let sys = c.args.who.now.sys.now in
    let a = as_actor c.args.who.now in
    piece-end sys a c.loop-piece.piece-index c.args.pieces.now (as_state c.loop-piece.state) _ c.loop-piece-test.false c.loop-piece.invariant.0
