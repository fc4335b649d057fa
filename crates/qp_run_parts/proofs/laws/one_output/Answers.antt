use Rattle.qp_run_parts.proofs.OutputLaw.{one-output}
use Rattle.qp_run_parts.proofs.laws.one_output.Goals as goal

pub returns : goal.returns
returns c = one-output
