use Rattle.std.proofs.Common.{true}
use Rattle.qp_check.proofs.RunPartLemmas.{order-behind, order-found}
use Rattle.qp_model.specs.Lawful.{SpillsStand, one_thread}
use Rattle.qp_model.specs.OneOrder.{IsOneOrder}
use Rattle.qp_check_shapes.proofs.GroupsDecideLemmas.{denied, decided}
use Rattle.qp_check.proofs.run_parts.order_holds.Goals as goal

pub returns-then-branch : goal.returns-then-branch
returns-then-branch c =
    let P = SpillsStand c.args.sys.now c.args.j.now true 1 c.args.stim.now × IsOneOrder (one_thread c.args.sys.now c.args.stim.now c.args.j.now true) in
    order-found c.args.sys.now c.args.stim.now c.args.j.now (decided P c.in_ok-has_order.field-0 c.in_ok-has_order.ensures c.if-branch.true)

pub returns : goal.returns
returns c =
    let P = SpillsStand c.args.sys.now c.args.j.now true 1 c.args.stim.now × IsOneOrder (one_thread c.args.sys.now c.args.stim.now c.args.j.now true) in
    order-behind c.args.sys.now c.args.stim.now c.args.j.now (denied P c.in_ok-has_order.field-0 c.in_ok-has_order.ensures c.if-branch.false) c.in_ok-behind.behind c.in_ok-behind.ensures
