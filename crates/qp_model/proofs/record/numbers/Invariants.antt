use Rattle.std.proofs.Common.{◌≡◌, take}
use Rattle.qp_model.proofs.record.numbers.Given as goal

-- the numbers so far
abbrev pub invariant-loop-x : goal.invariant-loop-x
invariant-loop-x l = l.nums.items ≡ take l.x-index l.xs
