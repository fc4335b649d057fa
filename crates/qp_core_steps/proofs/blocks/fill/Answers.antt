use Rattle.std.proofs.Common.{rules, ◌≡◌, true}
use Rattle.qp_table.specs.Rule.{fills_with}
use Rattle.qp_core_steps.specs.Blocks.{may_fill}
use Rattle.qp_core_steps.proofs.ListLemmas.{without_position}
use Rattle.qp_core_steps.proofs.blocks.fill.Goals as goal

pub returns : goal.returns
returns c =
    let at = without_position (fills_with c.args.p c.args.b c.args.j c.args.value) c.args.seat.now.fills in
    let may : true ≡ may_fill c.args.lanes c.args.seat.now c.args.p c.args.b c.args.j c.args.value = search rules in
    (may, (search rules, cc at))
