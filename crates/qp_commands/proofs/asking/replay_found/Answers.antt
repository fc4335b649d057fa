use Rattle.std.proofs.Common.{ap, option_map}
use Rattle.qp_commands.specs.WordTable.{replay}
use Rattle.qp_commands.proofs.asking.replay_found.Goals as goal

pub returns-in-Some : goal.returns-in-Some
returns-in-Some c = ap (option_map replay) (rw c.in-Some.is at c.files_found.ensures)

pub returns-in-None : goal.returns-in-None
returns-in-None c = ap (option_map replay) (rw c.in-None.is at c.files_found.ensures)
