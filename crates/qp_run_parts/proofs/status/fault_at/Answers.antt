use Rattle.std.proofs.Common.{◌∷◌, [], ◌∙◌, sym, decimal, append_assoc}
use Rattle.qp_run_parts.specs.Notes.{place_text}
use Rattle.std.proofs.lemmas.Result.{IfOk-weaker}
use Rattle.qp_run_parts.proofs.status.fault_at.Goals as goal

pub returns : goal.returns
returns c = IfOk-weaker c.format.result _ _ (λ s h. h ∙ sym (append_assoc (decimal c.args.code) (32 ∷ []) (place_text c.args.place.now))) c.format.ensures.ok
