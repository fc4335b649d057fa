use Rattle.std.proofs.Common.{◌∙◌, sym}
use Rattle.qp_check_kernel.proofs.AboveLemmas.{above_among-last, above_among-front, above_among-none}
use Rattle.qp_check_kernel.proofs.lane_state.last_above.Goals as goal

pub returns-then-from-floor : goal.returns-then-from-floor
returns-then-from-floor c =
    sym (above_among-last c.args.floor c.loop-d.left.now c.in-Some.rest.now c.in-Some.d.now c.in-Some.ensures.cases.0 (rw (← c.from.ensures) c.if-from-floor.true))
    ∙ c.loop-d.invariant

pub loop-d-preserved : goal.loop-d-preserved
loop-d-preserved c =
    sym (above_among-front c.args.floor c.loop-d.left.now c.in-Some.rest.now c.in-Some.d.now c.in-Some.ensures.cases.0 (rw (← c.from.ensures) c.if-from-floor.false))
    ∙ c.loop-d.invariant

pub returns : goal.returns
returns c = sym (above_among-none c.args.floor c.loop-d.left.now c.in_default.ensures.cases) ∙ c.loop-d.invariant
