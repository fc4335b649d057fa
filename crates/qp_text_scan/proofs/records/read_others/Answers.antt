use Rattle.std.proofs.Common.{◌∙◌, sym}
use Rattle.std.proofs.lemmas.Option.{IfSome_then}
use Rattle.qp_text_scan.proofs.LineLemmas.{others-front, signs-front}
use Rattle.qp_text_scan.proofs.records.read_others.Goals as goal

pub returns-then-has_signs : goal.returns-then-has_signs
returns-then-has_signs c =
    IfSome_then c.read_said.result c.read_said.ensures
    (λ rest read first. signs-front c.args.form c.args.id first _ _ rest.now (sym c.has_signs.ensures ∙ c.if-has_signs.true) (read first))

pub returns-else-has_signs : goal.returns-else-has_signs
returns-else-has_signs c =
    IfSome_then c.read_numbers.result c.read_numbers.ensures
    (λ rest read first. others-front c.args.form c.args.id first _ _ _ rest.now (sym c.has_signs.ensures ∙ c.if-has_signs.false) c.requires read)
