use Rattle.qp_core_steps.proofs.ListLemmas.{without_position}
use Rattle.qp_table.specs.Rule.{is_spot}
use Rattle.qp_core_steps.proofs.seats.drop_spot.Goals as goal

pub returns : goal.returns
returns c =
    let at = without_position (is_spot c.args.p c.args.b) (c.args.spots.now) in
    cc at
