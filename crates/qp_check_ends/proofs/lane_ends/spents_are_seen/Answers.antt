use Rattle.std.proofs.Common.{◌∙◌, ◌&&◌, ◌+◌, sym, ap, drop}
use Rattle.qp_model.specs.Record.{item_of}
use Rattle.qp_model.specs.History.{lane_items}
use Rattle.qp_model.specs.End.{spents_follow, shown_entry}
use Rattle.qp_check_lanes.proofs.EndLemmas.{spents_follow-one, spents_follow-end}
use Rattle.qp_check_ends.proofs.lane_ends.spents_are_seen.Goals as goal

pub returns-then-not-follows : goal.returns-then-not-follows
returns-then-not-follows c =
    sym (spents_follow-one c.args.lane.now c.loop-r.r-index c.r-item.result c.loop-r-test.true c.r-item.is c.loop-r.seen
    ∙ ap (λ b. b && spents_follow (shown_entry (item_of c.r-item.result)) (lane_items (drop (c.loop-r.r-index + 1) c.args.lane.now))) (sym c.follows.ensures ∙ c.if-not-follows.true))
    ∙ c.loop-r.invariant

pub loop-r-preserved : goal.loop-r-preserved
loop-r-preserved c =
    ap (λ shown. spents_follow shown (lane_items (drop (c.loop-r.r-index + 1) c.args.lane.now))) c.shown-seen.ensures
    ∙ sym (spents_follow-one c.args.lane.now c.loop-r.r-index c.r-item.result c.loop-r-test.true c.r-item.is c.loop-r.seen
    ∙ ap (λ b. b && spents_follow (shown_entry (item_of c.r-item.result)) (lane_items (drop (c.loop-r.r-index + 1) c.args.lane.now))) (sym c.follows.ensures ∙ c.if-not-follows.false))
    ∙ c.loop-r.invariant

pub returns : goal.returns
returns c = sym (spents_follow-end c.loop-r.seen c.args.lane.now c.loop-r.r-index c.loop-r-test.false) ∙ c.loop-r.invariant
