use Rattle.qp_commands.specs.WordTable.{command_in, texts}
use Rattle.qp_run_parts.specs.Verdict.{count_over, stream_of, writes_of}
use Rattle.qp_run_parts.proofs.CallLemmas.{call-stands}
use Rattle.qp_run_parts.proofs.SealLemmas.{seals-stand}
use Rattle.qp_run.proofs.top.qp_main.Goals as goal

pub returns-clause-call : goal.returns-clause-call
returns-clause-call g c =
    call-stands (g.F.Shelf.holds c.args.files.now) (command_in (texts c.args.words.now))
    (record (writes_of g.F.Shelf.faults g.F.Shelf.misses g.O.Sink.faults c.args.files.now c.answer-status.new.files c.args.out.now c.answer-status.new.out) {
      notes = count_over g.E.Sink.faults c.args.notes.now c.report-status.new.notes;
    })
    _ _ _ _ c.answer-status.ensures.told c.answer-status.ensures.words_told c.answer-status.ensures.cause c.answer-status.ensures.out
    c.report-status.ensures.answer (c.report-status.ensures.notes (command_in (texts c.args.words.now)) c.answer-status.ensures.name)

pub returns-clause-seal : goal.returns-clause-seal
returns-clause-seal g c =
    rw c.kept_seal.ensures (seals-stand (count_over g.E.Sink.faults c.args.notes.now c.report-status.new.notes) _ c.report-status.result c.report-status.ensures.answer
    (g.F.Shelf.holds c.args.files.now) (command_in (texts c.args.words.now)) (stream_of g.O.Sink.written c.args.out.now c.answer-status.new.out) _ c.answer-status.ensures.seal)
