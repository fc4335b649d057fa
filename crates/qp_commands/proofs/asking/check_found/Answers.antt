use Rattle.std.proofs.Common.{ap, option_map}
use Rattle.qp_commands.specs.WordTable.{check}
use Rattle.qp_commands.proofs.asking.check_found.Goals as goal

pub returns-in-Some : goal.returns-in-Some
returns-in-Some c = ap (option_map check) (rw c.in-Some.is at c.files_found.ensures)

pub returns-in-None : goal.returns-in-None
returns-in-None c = ap (option_map check) (rw c.in-None.is at c.files_found.ensures)
