use Rattle.qp_system.proofs.LawLemmas.{systems_have_no_fault as law}
use Rattle.qp_system.proofs.laws.systems_have_no_fault.Goals as goal

pub returns : goal.returns
returns c = law
