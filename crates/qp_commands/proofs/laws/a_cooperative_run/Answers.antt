use Rattle.qp_commands.proofs.WordCalls.{cooperative-words}
use Rattle.qp_commands.proofs.laws.a_cooperative_run.Goals as goal

pub returns : goal.returns
returns c = cooperative-words
