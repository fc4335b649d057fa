use Rattle.std.proofs.Common.{refl}
use Rattle.qp_commands.specs.WordTable.{decode_app, files_app, generate_app, migrate_app, run_app}
use Rattle.qp_commands.proofs.apps.arguments_of.Goals as goal

pub returns-in-Run : goal.returns-in-Run
unfolding run_app
returns-in-Run c = rw c.in-Run.is refl

pub returns-in-Decode : goal.returns-in-Decode
unfolding decode_app
returns-in-Decode c = rw c.in-Decode.is refl

pub returns-in-Migrate : goal.returns-in-Migrate
unfolding migrate_app
returns-in-Migrate c = rw c.in-Migrate.is refl

pub returns-in-Check : goal.returns-in-Check
unfolding files_app
returns-in-Check c = rw c.in-Check.is refl

pub returns-in-Replay : goal.returns-in-Replay
unfolding files_app
returns-in-Replay c = rw c.in-Replay.is refl

pub returns-in-Generate : goal.returns-in-Generate
unfolding generate_app
returns-in-Generate c = rw c.in-Generate.is refl
