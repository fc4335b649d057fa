use Rattle.std.proofs.Common.{◌∙◌, sym}
use Rattle.qp_run_parts.proofs.VerdictLemmas.{noted-put, noted-done, not-done}
use Rattle.qp_run.proofs.top.tell.Goals as goal

pub returns-then-is_done-clause-notes : goal.returns-then-is_done-clause-notes
returns-then-is_done-clause-notes g c = λ asked. noted-done asked _ _ _ c.args.status (sym c.is_done.ensures ∙ c.if-is_done.true)

pub returns-clause-notes : goal.returns-clause-notes
returns-clause-notes g c = λ asked.
    noted-put asked _ _ _ c.args.status _ c.as_bytes.result.now (not-done c.args.status (sym c.is_done.ensures ∙ c.if-is_done.false))
    (c.as_bytes.ensures.value ∙ (c.as_str.ensures.value ∙ c.plain_line-line.ensures asked)) c.put_line.ensures
