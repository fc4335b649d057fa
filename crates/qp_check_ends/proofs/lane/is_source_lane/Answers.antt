use Rattle.std.proofs.Common.{◌∙◌, sym, ap, subst}
use Rattle.qp_model.specs.History.{lane_items}
use Rattle.qp_model.specs.Sources.{IsSourceLane}
use Rattle.qp_check_calls.specs.Decides.{Decides}
use Rattle.qp_check_ends.specs.AsSource.{some_may_end}
use Rattle.qp_check_ends.proofs.LaneLemmas.{lane-of, lane-spills, lane-twice, lane-decides}
use Rattle.qp_check_ends.proofs.lane.is_source_lane.Goals as goal

pub returns-then-not-are_of_none : goal.returns-then-not-are_of_none
unfolding Decides
returns-then-not-are_of_none c = λ w same records.
    lane-of w c.args.kernel c.args.end c.args.stimuli.now (lane_items c.args.lane.now) c.args.told.now c.args.sys.now same records
    (sym c.are_of_none.ensures ∙ c.if-not-are_of_none.true)

pub returns-then-not-spills_cut : goal.returns-then-not-spills_cut
unfolding Decides
returns-then-not-spills_cut c = λ w same records.
    lane-spills w c.args.kernel c.args.end c.args.stimuli.now (lane_items c.args.lane.now) c.args.told.now c.args.sys.now same records
    (sym c.spills_cut.ensures ∙ c.if-not-spills_cut.true)

pub returns-then-not-branch : goal.returns-then-not-branch
unfolding Decides
returns-then-not-branch c = λ w same records.
    lane-twice w c.args.kernel c.args.end c.args.stimuli.now (lane_items c.args.lane.now) c.args.told.now c.args.sys.now same records
    (sym c.in_ok-tries_differ.ensures ∙ c.if-not-branch.true)

pub returns : goal.returns
returns c = λ w same records.
    subst (λ b. Decides b (IsSourceLane w c.args.kernel c.args.end c.args.stimuli.now (lane_items c.args.lane.now)))
    (sym (c.some_may_end.ensures ∙ ap (some_may_end c.in_ok-stops.stops c.args.end) c.spills_in.ensures))
    (lane-decides w c.args.kernel c.args.end c.args.stimuli.now (lane_items c.args.lane.now) c.args.told.now c.args.sys.now same records
    (sym c.are_of_none.ensures ∙ c.if-not-are_of_none.false) (sym c.spills_cut.ensures ∙ c.if-not-spills_cut.false) (sym c.in_ok-tries_differ.ensures ∙ c.if-not-branch.false) c.in_ok-stops.stops c.in_ok-stops.ensures)
