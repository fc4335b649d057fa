use Rattle.qp_commands.specs.WordTable.{check_words}
use Rattle.qp_run_parts.specs.Replays.{IsReplayed, IsReplayText}
use Rattle.qp_run_parts.proofs.ReplayLemmas.{files-replayed, replay-about, replay-cause, replay-prints, replay-told}
use Rattle.qp_run_parts.proofs.replaying.replay_files.Goals as goal

pub returns-in-Ok-clause-told : goal.returns-in-Ok-clause-told
returns-in-Ok-clause-told g c =
    replay-told (IsReplayText c.in-Ok.judged.found.form c.in-Ok.judged.found.journal) _ _ _ _ c.print.result c.print.ensures
    _ (check_words c.args.system.now c.args.stimuli.now c.args.journal.now) c.in-Ok.ensures.done

pub returns-in-Ok-clause-about : goal.returns-in-Ok-clause-about
returns-in-Ok-clause-about g c =
    replay-about (IsReplayText c.in-Ok.judged.found.form c.in-Ok.judged.found.journal) _ _ _ _ c.print.result c.print.ensures

pub returns-in-Ok-clause-cause : goal.returns-in-Ok-clause-cause
returns-in-Ok-clause-cause g c =
    replay-cause (IsReplayText c.in-Ok.judged.found.form c.in-Ok.judged.found.journal) _ _ _ _ c.print.result c.print.ensures _ _

pub returns-in-Ok-clause-out : goal.returns-in-Ok-clause-out
returns-in-Ok-clause-out g c =
    let words = check_words c.args.system.now c.args.stimuli.now c.args.journal.now in
    replay-prints (IsReplayText c.in-Ok.judged.found.form c.in-Ok.judged.found.journal) _ _ _ _ c.print.result c.print.ensures
    (IsReplayed (g.F.Shelf.holds c.args.files.now) words)
    (files-replayed _ words c.in-Ok.judged.system c.in-Ok.judged.stimuli c.in-Ok.judged.found.form c.in-Ok.judged.found.journal c.in-Ok.ensures.lawful)
