use Rattle.std.proofs.Common.{◌∙◌, sym, ap, arith}
use Rattle.qp_chart_text.specs.Tokens.{number_within}
use Rattle.qp_chart_text.proofs.TokenLemmas.{large}
use Rattle.qp_chart_text.proofs.tokens.number.Goals as goal

pub returns-in-None : goal.returns-in-None
returns-in-None c =
    sym (ap number_within c.loop-d.invariant ∙ large c.loop-d.value c.loop-d.d-index c.args.digits.now (omega arith) c.in-None.ensures.large)
