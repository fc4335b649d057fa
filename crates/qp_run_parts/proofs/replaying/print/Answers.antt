use Rattle.std.proofs.Common.{inl, inr, refl}
use Rattle.qp_run_parts.specs.declared.status.Status.TheVariants.{Done, WriteFault}
use Rattle.qp_replay.proofs.ReplayedLemmas.{replay-stands}
use Rattle.qp_run_parts.proofs.PrintedLemmas.{memory-printed}
use Rattle.qp_run_parts.proofs.ReplayLemmas.{replay-written}
use Rattle.qp_run_parts.proofs.replaying.print.Goals as goal

pub write_replayed-requires-clause-stand : goal.write_replayed-requires-clause-stand
write_replayed-requires-clause-stand g c = replay-stands c.args.judged.now.found.journal.lanes c.in-Ok.replayed c.in-Ok.ensures

pub returns-in_default : goal.returns-in_default
returns-in_default g c = memory-printed _ _ _

pub returns-then-is_err : goal.returns-then-is_err
returns-then-is_err g c = memory-printed _ _ _

pub returns-in-Ok-write_replayed : goal.returns-in-Ok-write_replayed
returns-in-Ok-write_replayed g c =
    replay-written c.args.judged.now.found.form c.args.judged.now.found.journal c.in-Ok.replayed c.in-Ok.ensures _ _ _ _ Done
    (inl (refl, c.in-Ok-write_replayed.ensures.0))

pub returns : goal.returns
returns g c =
    replay-written c.args.judged.now.found.form c.args.judged.now.found.journal c.in-Ok.replayed c.in-Ok.ensures _ _ _ _ WriteFault
    (inr (refl, c.in-Err.ensures.0, c.in-Err.ensures.1))
