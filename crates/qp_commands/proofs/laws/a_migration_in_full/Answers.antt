use Rattle.qp_commands.proofs.WordCalls.{migrate-full}
use Rattle.qp_commands.proofs.laws.a_migration_in_full.Goals as goal

pub returns : goal.returns
returns c = migrate-full
