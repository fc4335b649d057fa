use Rattle.std.proofs.Common.{[], ◌∷◌, ◌∙◌, sym}
use Rattle.qp_model.specs.Kinds.{END_LINE}
use Rattle.qp_model.specs.Output.{item}
use Rattle.qp_text_scan.proofs.ScanLemmas.{end-front}
use Rattle.qp_text_scan.proofs.scan.read_end.Goals as goal

pub returns-then-is_end_status-clause-text : goal.returns-then-is_end_status-clause-text
returns-then-is_end_status-clause-text c =
    λ form. end-front form (item END_LINE (c.in_ok-status.status ∷ [])) c.args.text.now c.in_ok-status.rest.now (c.in_ok-status.ensures form)
    (sym c.is_empty.ensures ∙ c.if-is_empty.true)
