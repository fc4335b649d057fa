use Rattle.std.proofs.Common.{◌≡◌, ◌+◌, ◌*◌, ◌≤◌, ◌++◌, take}
use Rattle.std.specs.Vec.{vec_capacity, vec_len}
use Rattle.qp_packed.specs.Packing.{spread}
use Rattle.qp_packed.proofs.pushing.add_numbers.Given as goal

abbrev pub invariant-loop-x : goal.invariant-loop-x
invariant-loop-x l = record {
  items : l.words.items ≡ l.fn.words.items ++ spread (take l.x-index l.xs);
  capacity : vec_capacity l.words ≡ vec_capacity l.fn.words;
  len : vec_len l.words ≤ vec_len l.fn.words + 2 * l.x-index;
}
