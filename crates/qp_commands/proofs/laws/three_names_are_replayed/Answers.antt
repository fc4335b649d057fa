use Rattle.qp_commands.proofs.WordCalls.{replay-names}
use Rattle.qp_commands.proofs.laws.three_names_are_replayed.Goals as goal

pub returns : goal.returns
returns c = replay-names
