use Rattle.std.proofs.Common.{◌≡◌, ◌<◌, ◌^◌, IsTrue, drop}
use Rattle.std.specs.List.{list_all}
use Rattle.std.specs.Char.{is_ascii_digit}
use Rattle.qp_chart_text.specs.Tokens.{value_after}
use Rattle.qp_stim.proofs.numbers.value.Given as goal

abbrev pub invariant-loop-b : goal.invariant-loop-b
invariant-loop-b l = record {
  digits : IsTrue (list_all is_ascii_digit (drop l.b-index l.digits));
  fits : l.value < 2 ^ 64;
  same : value_after l.value (drop l.b-index l.digits) ≡ value_after 0 l.digits;
}
