use Rattle.qp_table.proofs.ViewLawLemmas.{gives_gain as law}
use Rattle.qp_table.proofs.view_laws.gives_gain.Goals as goal

pub returns : goal.returns
returns c = law
