use Rattle.std.proofs.Common.{◌≡◌, ◌<◌, ◌^◌, drop}
use Rattle.qp_chart_text.specs.Tokens.{value_after}
use Rattle.qp_text.proofs.numbers.value.Given as goal

abbrev pub invariant-loop-digit : goal.invariant-loop-digit
invariant-loop-digit l = record {
  so_far : value_after l.n (drop l.digit-index l.digits) ≡ value_after 0 l.digits;
  low : l.n < 2 ^ 64;
}
