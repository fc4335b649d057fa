use Rattle.qp_commands.proofs.WordCalls.{run-full}
use Rattle.qp_commands.proofs.laws.a_run_in_full.Goals as goal

pub returns : goal.returns
returns c = run-full
