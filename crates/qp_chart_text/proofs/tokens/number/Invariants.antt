use Rattle.std.proofs.Common.{◌≡◌, drop}
use Rattle.qp_chart_text.specs.Tokens.{value_after}
use Rattle.qp_chart_text.proofs.tokens.number.Given as goal

abbrev pub invariant-loop-d : goal.invariant-loop-d
invariant-loop-d l = value_after 0 l.digits ≡ value_after l.value (drop l.d-index l.digits)
