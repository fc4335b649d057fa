use Rattle.std.proofs.Common.{◌∙◌, ◌∷◌, ap}
use Rattle.qp_text_scan.proofs.numbers.spaced.Goals as goal

pub returns-clause-text : goal.returns-clause-text
returns-clause-text c = c.in_ok-digits.ensures.text ∙ ap (λ t. 32 ∷ t) c.in_ok-n.ensures.text
