use Rattle.std.proofs.Common.{◌≡◌, ◌≤◌, ◌+◌, ◌*◌, ◌++◌, length, take}
use Rattle.std.specs.List.{flat_map}
use Rattle.qp_model.specs.OutputFrames.{escaped}
use Rattle.qp_frames.proofs.bytes.push_escaped.Given as goal

abbrev pub invariant-loop-b : goal.invariant-loop-b
invariant-loop-b l = record {
  bytes : l.frame.items ≡ l.initial.frame.items ++ flat_map escaped (take l.b-index l.bytes);
  len : length l.frame.items ≤ length l.initial.frame.items + 2 * l.b-index;
}
