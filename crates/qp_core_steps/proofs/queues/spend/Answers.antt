use Rattle.std.proofs.Common.{ne_eqb}
use Rattle.qp_core_steps.proofs.ListLemmas.{without_position}
use Rattle.qp_table.specs.Rule.{is_entry}
use Rattle.qp_core_steps.proofs.queues.spend.Goals as goal

pub returns-then-e-ne0 : goal.returns-then-e-ne0
returns-then-e-ne0 c =
    let at = without_position (is_entry c.args.e) c.args.hands.now in
    rw (ne_eqb c.args.e.pool 0 c.if-e-ne0.true) (cc at)
