use Rattle.qp_core_steps.proofs.ListLemmas.{without_position}
use Rattle.qp_table.specs.Rule.{gives_of}
use Rattle.qp_core_steps.proofs.seats.drop_give.Goals as goal

pub returns : goal.returns
returns c =
    let at = without_position (gives_of c.args.p c.args.b) (c.args.gives.now) in
    cc at
