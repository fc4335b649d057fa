use Rattle.qp_commands.proofs.asking.command_found.Goals as goal

pub returns-in-Run : goal.returns-in-Run
returns-in-Run c = rw c.in-Run.is c.run_found.ensures

pub returns-in-Decode : goal.returns-in-Decode
returns-in-Decode c = rw c.in-Decode.is c.decode_found.ensures

pub returns-in-Migrate : goal.returns-in-Migrate
returns-in-Migrate c = rw c.in-Migrate.is c.migrate_found.ensures

pub returns-in-Check : goal.returns-in-Check
returns-in-Check c = rw c.in-Check.is c.check_found.ensures

pub returns-in-Replay : goal.returns-in-Replay
returns-in-Replay c = rw c.in-Replay.is c.replay_found.ensures

pub returns-in-Generate : goal.returns-in-Generate
returns-in-Generate c = rw c.in-Generate.is c.generate_found.ensures
