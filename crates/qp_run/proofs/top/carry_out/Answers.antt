use Rattle.std.proofs.Common.{refl}
use Rattle.std.proofs.lemmas.Bool.{and_parts}
use Rattle.qp_commands.proofs.LimitLemmas.{limit-few, limit-some}
use Rattle.qp_run_parts.proofs.VerdictLemmas.{agrees-check, agrees-decode, agrees-generate, agrees-migrate, agrees-replay, agrees-run}
use Rattle.qp_run.proofs.top.carry_out.Goals as goal

pub returns-in-Run-clause-told : goal.returns-in-Run-clause-told
returns-in-Run-clause-told g c = rw c.in-Run.is (agrees-run _ _ _ c.run_files.ensures.told)

pub returns-in-Decode-clause-told : goal.returns-in-Decode-clause-told
returns-in-Decode-clause-told g c = rw c.in-Decode.is (agrees-decode _ _ _ c.decode.ensures.told)

pub returns-in-Migrate-clause-told : goal.returns-in-Migrate-clause-told
returns-in-Migrate-clause-told g c = rw c.in-Migrate.is (agrees-migrate _ _ _ c.migrate.ensures.told)

pub returns-in-Check-clause-told : goal.returns-in-Check-clause-told
returns-in-Check-clause-told g c = rw c.in-Check.is (agrees-check _ _ _ c.check_files.ensures.told)

pub run_files-requires-clause-some : goal.run_files-requires-clause-some
run_files-requires-clause-some g c κs within = limit-some 1000000 _ (and_parts _ _ (rw c.in-Run.is at c.requires.limits)).0

pub run_files-requires-clause-few : goal.run_files-requires-clause-few
run_files-requires-clause-few g c κs within = limit-few 1000000 _ (and_parts _ _ (rw c.in-Run.is at c.requires.limits)).0

pub run_files-requires-clause-form : goal.run_files-requires-clause-form
run_files-requires-clause-form g c κs within = (and_parts _ _ (rw c.in-Run.is at c.requires.limits)).1

pub returns-in-Run-clause-out : goal.returns-in-Run-clause-out
returns-in-Run-clause-out g c = rw c.in-Run.is c.run_files.ensures.out

pub returns-in-Decode-clause-out : goal.returns-in-Decode-clause-out
returns-in-Decode-clause-out g c = rw c.in-Decode.is c.decode.ensures.out

pub returns-in-Migrate-clause-out : goal.returns-in-Migrate-clause-out
returns-in-Migrate-clause-out g c = rw c.in-Migrate.is c.migrate.ensures.out

pub returns-in-Check-clause-out : goal.returns-in-Check-clause-out
returns-in-Check-clause-out g c = rw c.in-Check.is c.check_files.ensures.out

pub returns-in-Replay-clause-told : goal.returns-in-Replay-clause-told
returns-in-Replay-clause-told g c = rw c.in-Replay.is (agrees-replay _ _ _ c.replay_files.ensures.told)

pub returns-in-Replay-clause-out : goal.returns-in-Replay-clause-out
returns-in-Replay-clause-out g c = rw c.in-Replay.is c.replay_files.ensures.out

pub run_made-requires-clause-some : goal.run_made-requires-clause-some
run_made-requires-clause-some g c = limit-some 1000 _ (rw c.in-Generate.is at c.requires.limits)

pub run_made-requires-clause-few : goal.run_made-requires-clause-few
run_made-requires-clause-few g c = limit-few 1000 _ (rw c.in-Generate.is at c.requires.limits)

pub returns-in-Generate-clause-told : goal.returns-in-Generate-clause-told
returns-in-Generate-clause-told g c = rw c.in-Generate.is (agrees-generate _ _ _ c.run_made.ensures.told)

pub returns-in-Generate-clause-cause : goal.returns-in-Generate-clause-cause
returns-in-Generate-clause-cause g c = c.run_made.ensures.cause _ _

pub returns-in-Generate-clause-out : goal.returns-in-Generate-clause-out
returns-in-Generate-clause-out g c = rw c.in-Generate.is c.run_made.ensures.out

pub returns-in-Run-clause-seal : goal.returns-in-Run-clause-seal
returns-in-Run-clause-seal g c = rw c.in-Run.is c.run_files.ensures.seal

pub returns-in-Decode-clause-seal : goal.returns-in-Decode-clause-seal
returns-in-Decode-clause-seal g c = rw c.in-Decode.is refl

pub returns-in-Migrate-clause-seal : goal.returns-in-Migrate-clause-seal
returns-in-Migrate-clause-seal g c = rw c.in-Migrate.is refl

pub returns-in-Check-clause-seal : goal.returns-in-Check-clause-seal
returns-in-Check-clause-seal g c = rw c.in-Check.is refl

pub returns-in-Replay-clause-seal : goal.returns-in-Replay-clause-seal
returns-in-Replay-clause-seal g c = rw c.in-Replay.is refl

pub returns-in-Generate-clause-seal : goal.returns-in-Generate-clause-seal
returns-in-Generate-clause-seal g c = rw c.in-Generate.is refl
