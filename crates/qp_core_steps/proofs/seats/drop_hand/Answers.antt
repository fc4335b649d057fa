use Rattle.qp_core_steps.proofs.ListLemmas.{without_position}
use Rattle.qp_table.specs.Rule.{is_ref}
use Rattle.qp_core_steps.proofs.seats.drop_hand.Goals as goal

pub returns : goal.returns
returns c =
    let at = without_position (is_ref c.args.p c.args.b c.args.name) (c.args.hands.now) in
    cc at
