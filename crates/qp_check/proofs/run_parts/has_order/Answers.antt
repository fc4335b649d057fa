use Rattle.qp_model.specs.Lawful.{SpillsStand, one_thread}
use Rattle.qp_model.specs.OneOrder.{IsOneOrder}
use Rattle.qp_check.proofs.RunPartLemmas.{both-as, both-not, ordered-as}
use Rattle.qp_check_shapes.proofs.GroupsDecideLemmas.{denied, decided}
use Rattle.qp_check.proofs.run_parts.has_order.Goals as goal

pub returns-then-not-branch : goal.returns-then-not-branch
returns-then-not-branch c =
    let P = SpillsStand c.args.sys.now c.args.j.now c.args.cuts 1 c.args.stim.now in
    both-not P (IsOneOrder (one_thread c.args.sys.now c.args.stim.now c.args.j.now c.args.cuts)) (denied P c.in_ok-spills_stand.field-0 c.in_ok-spills_stand.ensures c.if-not-branch.true)

pub returns : goal.returns
returns c =
    let P = SpillsStand c.args.sys.now c.args.j.now c.args.cuts 1 c.args.stim.now in
    both-as P (IsOneOrder (one_thread c.args.sys.now c.args.stim.now c.args.j.now c.args.cuts)) (decided P c.in_ok-spills_stand.field-0 c.in_ok-spills_stand.ensures c.if-not-branch.false)
    c.in_ok-ordered.ordered
    (ordered-as c.args.sys.now c.args.stim.now c.args.j.now c.args.cuts c.lane_at.result.now c.source_lanes.result.now c.lane_at.ensures c.source_lanes.ensures c.in_ok-ordered.ordered c.in_ok-ordered.ensures)
