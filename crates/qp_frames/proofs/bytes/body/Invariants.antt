use Rattle.std.proofs.Common.{◌≡◌, ◌≤◌, ◌+◌, ◌*◌, ◌∷◌, length, take}
use Rattle.std.specs.List.{flat_map}
use Rattle.qp_model.specs.OutputFrames.{number_bytes}
use Rattle.qp_frames.proofs.bytes.body.Given as goal

abbrev pub invariant-loop-n : goal.invariant-loop-n
invariant-loop-n l = record {
  bytes : l.body.items ≡ l.sequence ∷ l.id ∷ flat_map (number_bytes l.form) (take l.n-index l.nums);
  len : length l.body.items ≤ 2 + 10 * l.n-index;
}
