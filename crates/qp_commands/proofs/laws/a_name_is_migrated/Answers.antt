use Rattle.qp_commands.proofs.WordCalls.{migrate-name}
use Rattle.qp_commands.proofs.laws.a_name_is_migrated.Goals as goal

pub returns : goal.returns
returns c = migrate-name
