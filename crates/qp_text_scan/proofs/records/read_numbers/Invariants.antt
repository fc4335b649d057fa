use Rattle.std.proofs.Common.{◌≡◌, ◌++◌, map, decimal, length}
use Rattle.qp_model.specs.OutputText.{after_spaces}
use Rattle.qp_text_scan.proofs.records.read_numbers.Given as goal

abbrev pub invariant-loop-n : goal.invariant-loop-n
invariant-loop-n l = record {
  so_far : after_spaces (map decimal l.initial.nums.items) ++ l.text ≡ after_spaces (map decimal l.nums.items) ++ l.rest;
}

abbrev pub decreases-loop-n : goal.decreases-loop-n
decreases-loop-n l = length l.rest
