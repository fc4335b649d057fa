use Rattle.qp_text.proofs.TextRead.{reading_is_exact as law}
use Rattle.qp_text.proofs.laws.reading_is_exact.Goals as goal

pub returns : goal.returns
returns c = law
