use Rattle.qp_text.proofs.TextRead.{texts_are_one_to_one as law}
use Rattle.qp_text.proofs.laws.texts_are_one_to_one.Goals as goal

pub returns : goal.returns
returns c = law
