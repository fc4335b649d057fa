use Rattle.std.proofs.Common.{◌∙◌, sym}
use Rattle.qp_model.specs.Ends.{spills_in}
use Rattle.qp_model.specs.History.{lane_items}
use Rattle.qp_model.specs.Lawful.{SpillStands}
use Rattle.qp_check.proofs.RunPartLemmas.{unasked, when-asked}
use Rattle.qp_check.proofs.run_parts.may_spill.Goals as goal

pub returns-then-not-spills_in : goal.returns-then-not-spills_in
returns-then-not-spills_in c =
    unasked (SpillStands c.args.sys.now c.args.j.now c.args.cuts c.args.source.now (lane_items c.args.lane.now)) (spills_in (lane_items c.args.lane.now)) (sym c.spills_in.ensures ∙ c.if-not-spills_in.true)

pub returns : goal.returns
returns c =
    when-asked (SpillStands c.args.sys.now c.args.j.now c.args.cuts c.args.source.now (lane_items c.args.lane.now)) (spills_in (lane_items c.args.lane.now)) (sym c.spills_in.ensures ∙ c.if-not-spills_in.false)
    c.in_ok-stands.stands c.in_ok-stands.ensures
