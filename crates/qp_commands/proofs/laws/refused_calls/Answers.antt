use Rattle.qp_commands.proofs.WordCalls.{calls-refused}
use Rattle.qp_commands.proofs.laws.refused_calls.Goals as goal

pub returns : goal.returns
returns c = calls-refused
