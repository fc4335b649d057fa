use Rattle.std.proofs.Common.{sym, subst, take}
use Rattle.qp_model.specs.Record.{item_of}
use Rattle.qp_check_lanes.proofs.WalkLemmas.{front_seen}
use Rattle.qp_check_knowledge.specs.KnownSteps.{AreSteps}
use Rattle.qp_check_knowledge.proofs.KnownEventLemmas.{steps-none}
use Rattle.qp_check_knowledge.proofs.known_steps.steps_of.Goals as goal

pub loop-r-init : goal.loop-r-init
loop-r-init c = subst (λ l. AreSteps _ l) (sym c.new-steps.ensures) steps-none

pub loop-r-preserved : goal.loop-r-preserved
loop-r-preserved c =
    let grows = front_seen (λ r. item_of r.now) c.given.view_is c.deref-r-items.ensures.value c.loop-r.r-index c.r-item.result c.loop-r-test.true c.r-item.is in
    subst (λ l. AreSteps l c.put_step.new.steps) (sym grows) (c.in_ok-put_step.ensures.steps (take c.loop-r.r-index c.args.given.now) c.loop-r.invariant)
