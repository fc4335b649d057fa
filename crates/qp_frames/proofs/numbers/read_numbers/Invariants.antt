use Rattle.std.proofs.Common.{◌≡◌, length}
use Rattle.qp_frames.specs.Parts.{IsPart, numbers_from}
use Rattle.qp_frames.proofs.NumberLemmas.{behind}
use Rattle.qp_frames.proofs.numbers.read_numbers.Given as goal

abbrev pub invariant-loop-rest : goal.invariant-loop-rest
invariant-loop-rest l = record {
  so_far : behind l.nums.items (numbers_from l.form l.place l.value l.rest) ≡ numbers_from l.form 0 0 l.fn.bytes;
  goes_on : IsPart l.form l.place l.value;
}

abbrev pub decreases-loop-rest : goal.decreases-loop-rest
decreases-loop-rest l = length l.rest
