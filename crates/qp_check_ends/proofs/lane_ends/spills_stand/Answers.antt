use Rattle.std.proofs.Common.{◌∙◌, ◌&&◌, ◌+◌, sym, ap, drop}
use Rattle.qp_model.specs.History.{lane_items}
use Rattle.qp_model.specs.End.{spills_state}
use Rattle.qp_check_lanes.proofs.EndLemmas.{spills_state-one, spills_state-end}
use Rattle.qp_check_ends.proofs.lane_ends.spills_stand.Goals as goal

pub returns-then-not-states : goal.returns-then-not-states
returns-then-not-states c =
    sym (spills_state-one c.args.lane.now c.loop-n.n c.index-lane-n.result c.loop-n-test.true c.index-lane-n.is c.loop-n.n
    ∙ ap (λ b. b && spills_state (c.loop-n.n + 1) (lane_items (drop (c.loop-n.n + 1) c.args.lane.now))) (sym c.states.ensures ∙ c.if-not-states.true))
    ∙ c.loop-n.invariant

pub loop-n-preserved : goal.loop-n-preserved
loop-n-preserved c =
    sym (spills_state-one c.args.lane.now c.loop-n.n c.index-lane-n.result c.loop-n-test.true c.index-lane-n.is c.loop-n.n
    ∙ ap (λ b. b && spills_state (c.loop-n.n + 1) (lane_items (drop (c.loop-n.n + 1) c.args.lane.now))) (sym c.states.ensures ∙ c.if-not-states.false))
    ∙ c.loop-n.invariant

pub returns : goal.returns
returns c = sym (spills_state-end c.loop-n.n c.args.lane.now c.loop-n.n c.loop-n-test.false) ∙ c.loop-n.invariant
