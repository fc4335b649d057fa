use Rattle.qp_model.proofs.PromiseLemmas.{dropped_once, dropped_stood}
use Rattle.qp_model.proofs.promises.references_are_dropped_once.Goals as goal

pub returns : goal.returns
returns c = record { once = dropped_once; stood = dropped_stood }
