use Rattle.std.proofs.Common.{◌≡◌, sym, ◌∙◌, ap, Option, Some}
use Rattle.std.specs.Option.{option_map}
use Rattle.qp_check_course.specs.declared.states.State.{State}
use Rattle.qp_check_course.specs.Machine as machine
use Rattle.qp_check_course.specs.Machine.{tell_next}
use Rattle.qp_check_course.specs.AsState.{as_actor, as_state}
use Rattle.qp_check_course.proofs.LoopLemmas.{tell-can, told-on, told-off, told-end}
use Rattle.qp_check_course.proofs.runs.run_told.Goals as goal

pub returns-in-None : goal.returns-in-None
returns-in-None c =
    let sys = c.args.who.now.sys.now in
    let a = as_actor c.args.who.now in
    told-off sys a c.loop-told.told-index c.args.records.now c.told-item.result (as_state c.loop-told.state) _ c.loop-told-test.true c.told-item.is
    (sym (ap (λ (o : Option State). option_map as_state o) c.in-None.is) ∙ c.in_ok-next.ensures ∙ ap (λ (s : machine.State). tell_next sys a s c.told-item.result) c.passed-here.ensures.is)
    c.loop-told.invariant.0

pub loop-told-preserved : goal.loop-told-preserved
loop-told-preserved c =
    let sys = c.args.who.now.sys.now in
    let a = as_actor c.args.who.now in
    let told : Some (as_state c.in-Some.later) ≡ tell_next sys a (as_state c.passed-here.result) c.told-item.result =
    sym (ap (λ (o : Option State). option_map as_state o) c.in-Some.is) ∙ c.in_ok-next.ensures in (
      told-on sys a c.loop-told.told-index c.args.records.now c.told-item.result (as_state c.loop-told.state) (as_state c.in-Some.later) _ c.loop-told-test.true c.told-item.is
          (told ∙ ap (λ (s : machine.State). tell_next sys a s c.told-item.result) c.passed-here.ensures.is) c.loop-told.invariant.0,
      tell-can sys a c.requires.able (as_state c.passed-here.result) (as_state c.in-Some.later) c.told-item.result told c.passed-here.ensures.can,
    )

pub returns : goal.returns
returns c =
    let sys = c.args.who.now.sys.now in
    let a = as_actor c.args.who.now in
    (told-end sys a c.loop-told.told-index c.args.records.now (as_state c.loop-told.state) _ c.loop-told-test.false c.loop-told.invariant.0, c.loop-told.invariant.1)
