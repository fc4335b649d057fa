use Rattle.qp_commands.proofs.WordCalls.{check-names}
use Rattle.qp_commands.proofs.laws.three_names_are_judged.Goals as goal

pub returns : goal.returns
returns c = check-names
