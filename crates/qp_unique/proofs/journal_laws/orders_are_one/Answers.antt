use Rattle.qp_unique.proofs.LowestLemmas.{one-order}
use Rattle.qp_unique.proofs.journal_laws.orders_are_one.Goals as goal

pub returns : goal.returns
returns c = one-order
