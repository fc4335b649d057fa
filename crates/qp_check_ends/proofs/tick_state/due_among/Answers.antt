use Rattle.std.proofs.Common.{◌∙◌}
use Rattle.qp_check_ends.proofs.PlaceLemmas.{dues-at, dues-over, dues-past}
use Rattle.qp_check_ends.proofs.tick_state.due_among.Goals as goal

pub loop-place-preserved : goal.loop-place-preserved
loop-place-preserved c = c.loop-place.invariant ∙ dues-over c.args.rate c.loop-place.place c.args.timers.now _ c.loop-place-test.true c.if-d-rate.false

pub returns-clause-first : goal.returns-clause-first
returns-clause-first c = c.loop-place.invariant ∙ dues-past c.args.rate _ c.loop-place.place c.args.timers.now c.loop-place-test.false

pub returns-then-d-rate-clause-first : goal.returns-then-d-rate-clause-first
returns-then-d-rate-clause-first c = c.loop-place.invariant ∙ dues-at c.args.rate c.loop-place.place c.args.timers.now _ c.loop-place-test.true c.if-d-rate.true
