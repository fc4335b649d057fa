use Rattle.qp_model.proofs.KindLemmas.{sorts_hold}
use Rattle.qp_model.proofs.kinds.records_are_of_their_sort.Goals as goal

pub returns : goal.returns
returns c = sorts_hold
