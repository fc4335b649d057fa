use Rattle.std.proofs.Common.{◌≡◌, ◌≤◌, ◌+◌, ◌*◌, ◌++◌, length, map, decimal, drop, take}
use Rattle.qp_model.specs.OutputText.{after_spaces}
use Rattle.qp_text.proofs.lines.Line.put_numbers.Given as goal

abbrev pub invariant-loop-left : goal.invariant-loop-left
invariant-loop-left l = record {
  few : length l.left ≤ length l.nums;
  front : l.left ≡ take (length l.left) l.nums;
  bytes : l.self ≡ after_spaces (map decimal (drop (length l.left) l.nums)) ++ l.initial.self;
  len : length l.self + 21 * length l.left ≤ length l.initial.self + 21 * length l.nums;
}

abbrev pub decreases-loop-left : goal.decreases-loop-left
decreases-loop-left l = length l.left
