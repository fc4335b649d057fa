use Rattle.std.proofs.Common.{◌∙◌, ap, sym}
use Rattle.std.proofs.lemmas.Bool.{false≢true}
use Rattle.qp_run_parts.specs.Notes.{names_file}
use Rattle.qp_run_parts.specs.Verdict.{IsPutFor}
use Rattle.qp_run_parts.specs.declared.status.Status.TheVariants.{Memory}
use Rattle.qp_run_parts.proofs.CallLemmas.{memory-put, stands-memory}
use Rattle.qp_run_parts.proofs.VerdictLemmas.{noted-put, noted-wider}
use Rattle.qp_run.proofs.top.report.Goals as goal

pub returns-in-Ok-clause-notes : goal.returns-in-Ok-clause-notes
returns-in-Ok-clause-notes g c = λ asked named.
    let names = sym c.names_file.ensures ∙ c.if-not-names_file.false in
    noted-put asked _ _ _ c.args.status _ c.as_bytes.result.now (λ done. false≢true (ap names_file (sym done) ∙ names))
    (c.as_bytes.ensures.value ∙ (c.as_str.ensures.value ∙ c.in-Ok.ensures asked (named names))) c.put_line.ensures

pub returns-in-Err-clause-notes : goal.returns-in-Err-clause-notes
returns-in-Err-clause-notes g c = λ asked named.
    noted-wider asked (IsPutFor Memory) _ _ _ (IsPutFor c.args.status) (λ put is. memory-put c.args.status put (sym c.names_file.ensures ∙ c.if-not-names_file.false) is) _
    (c.tell-in-Err.ensures.notes asked)

pub returns-in-Err-clause-answer : goal.returns-in-Err-clause-answer
returns-in-Err-clause-answer g c = stands-memory _ c.args.status _ (sym c.names_file.ensures ∙ c.if-not-names_file.false) c.tell-in-Err.ensures.answer
