use Rattle.qp_core_steps.proofs.ListLemmas.{without_position}
use Rattle.qp_table.specs.Rule.{is_place}
use Rattle.qp_core_steps.proofs.queues.drop_place.Goals as goal

pub returns : goal.returns
returns c =
    let at = without_position (is_place c.args.a c.args.cell c.args.e) (c.args.places.now) in
    cc at
