use Rattle.qp_model.proofs.TellingKindLemmas.{kinds_tell}
use Rattle.qp_model.proofs.telling.kinds_tell.Goals as goal

pub returns : goal.returns
returns c = kinds_tell
