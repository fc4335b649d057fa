use Rattle.qp_commands.proofs.WordCalls.{run-names}
use Rattle.qp_commands.proofs.laws.a_run_of_two_names.Goals as goal

pub returns : goal.returns
returns c = run-names
