use Rattle.std.proofs.Common.{◌≡◌, ◌≤◌, ◌++◌, decimal, length}
use Rattle.qp_text_scan.proofs.numbers.number_behind.Given as goal

abbrev pub invariant-loop-more : goal.invariant-loop-more
invariant-loop-more l = record {
  so_far : decimal l.first ++ l.text ≡ decimal l.n ++ l.rest;
  some : 1 ≤ l.n;
  shorter : length l.rest ≤ length l.text;
}

abbrev pub decreases-loop-more : goal.decreases-loop-more
decreases-loop-more l = length l.rest
