use Rattle.std.proofs.Common.{◌+◌, ◌∙◌, ap, refl, subst, sym}
use Rattle.qp_base.specs.Counts.{Rose}
use Rattle.qp_base.specs.Gathering.{IsBegun, sink_told}
use Rattle.qp_run_parts.specs.Verdict.{Count, Stream}
use Rattle.qp_commands.specs.WordTable.{command_in, texts}
use Rattle.qp_run_parts.proofs.CallLemmas.{memory-call}
use Rattle.qp_run_parts.proofs.SealLemmas.{failed-seals, whole-seals}
use Rattle.qp_process.proofs.PieceLemmas.{first-told, part-call, whole-call}
use Rattle.qp_process.proofs.pieces.gathered.Goals as goal

pub returns-in-Err-clause-call : goal.returns-in-Err-clause-call
returns-in-Err-clause-call g c =
    let asked = command_in (texts c.args.words.texts.now) in
    rw c.in-Err.ensures.back (memory-call _ asked _ _ _ _ c.tell-status.ensures.answer (c.tell-status.ensures.notes asked))

pub returns-in-Ok-flush-clause-call : goal.returns-in-Ok-flush-clause-call
returns-in-Ok-flush-clause-call g c =
    let asked = command_in (texts c.args.words.texts.now) in
    let written = g.O.Sink.written in
    let first = g.B.Beginning.first_length in
    let p = c.in-Ok.pieces in
    let q = c.answer-status.new.out in
    let put : Stream = record {
      before = sink_told p.course (first + p.gone) p.held.items (written p.inner);
      after = sink_told q.course (first + q.gone) q.held.items (written q.inner);
    } in
    let out : Count = record { before = p.faults; after = q.faults } in
    let a = c.answer-status.ensures in
    whole-call (g.F.Shelf.holds c.args.files.now) asked _ _ _ c.answer-status.result.status c.report-status.result put out
    (first-told p.course (first + p.gone) p.held.items (written p.inner) c.in-Ok.ensures.going c.in-Ok.ensures.held ∙ ap written c.in-Ok.ensures.inner)
    (ap written c.into_inner-out.ensures.inner ∙ c.in-Ok-flush.ensures.ok)
    c.in-Ok.ensures.faults
    (sym c.in-Ok-flush.ensures.faults ∙ c.into_inner-out.ensures.none c.in-Ok-flush.ensures.going)
    a.told a.words_told a.cause a.out c.report-status.ensures.answer (c.report-status.ensures.notes asked a.name)

pub returns-in-Err-flush-clause-call : goal.returns-in-Err-flush-clause-call
returns-in-Err-flush-clause-call g c =
    let asked = command_in (texts c.args.words.texts.now) in
    let written = g.O.Sink.written in
    let first = g.B.Beginning.first_length in
    let p = c.in-Ok.pieces in
    let q = c.answer-status.new.out in
    let r = c.flush.new.self in
    let below = c.into_inner-out-in-Err-flush.result in
    let b = c.into_inner-out-in-Err-flush.ensures in
    let put : Stream = record {
      before = sink_told p.course (first + p.gone) p.held.items (written p.inner);
      after = sink_told q.course (first + q.gone) q.held.items (written q.inner);
    } in
    part-call (g.F.Shelf.holds c.args.files.now) asked _ _ _ c.answer-status.result.status c.tell-status-in-Err-flush.result put
    first r.course (first + r.gone) r.held.items
    (first-told p.course (first + p.gone) p.held.items (written p.inner) c.in-Ok.ensures.going c.in-Ok.ensures.held ∙ ap written c.in-Ok.ensures.inner)
    c.requires.first_length b.grown
    (ap (λ o. sink_told r.course (first + r.gone) r.held.items (written o)) b.inner ∙ c.flush.ensures.told)
    (subst (λ w. IsBegun (written below) w) c.flush.ensures.told b.begun)
    (subst (λ n. Rose n (g.O.Sink.faults below)) (sym c.requires.first_faults) (b.rose c.in-Err-flush.ensures.err))
    c.answer-status.ensures.out c.tell-status-in-Err-flush.ensures.answer (c.tell-status-in-Err-flush.ensures.notes asked)

pub returns-in-Err-clause-seal : goal.returns-in-Err-clause-seal
returns-in-Err-clause-seal g c = failed-seals _ _ _ _ _ _ refl c.tell-status.ensures.answer

pub returns-in-Ok-flush-clause-seal : goal.returns-in-Ok-flush-clause-seal
returns-in-Ok-flush-clause-seal g c =
    let asked = command_in (texts c.args.words.texts.now) in
    let written = g.O.Sink.written in
    let first = g.B.Beginning.first_length in
    let p = c.in-Ok.pieces in
    let q = c.answer-status.new.out in
    let put : Stream = record {
      before = sink_told p.course (first + p.gone) p.held.items (written p.inner);
      after = sink_told q.course (first + q.gone) q.held.items (written q.inner);
    } in
    rw c.kept_seal.ensures (whole-seals (g.F.Shelf.holds c.args.files.now) asked _ put _ c.answer-status.result.status c.report-status.result _
    (first-told p.course (first + p.gone) p.held.items (written p.inner) c.in-Ok.ensures.going c.in-Ok.ensures.held ∙ ap written c.in-Ok.ensures.inner)
    (ap written c.into_inner-out.ensures.inner ∙ c.in-Ok-flush.ensures.ok)
    c.report-status.ensures.answer c.answer-status.ensures.seal)

pub returns-in-Err-flush-clause-seal : goal.returns-in-Err-flush-clause-seal
returns-in-Err-flush-clause-seal g c = failed-seals _ _ _ _ _ _ refl c.tell-status-in-Err-flush.ensures.answer
