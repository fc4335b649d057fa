use Rattle.std.proofs.Common.{◌≡◌, ◌≤◌, ◌+◌, ◌-◌, ◌++◌, length}
use Rattle.qp_model.specs.OutputFrames.{groups}
use Rattle.qp_frames.proofs.bytes.push_groups.Given as goal

abbrev pub invariant-loop-place : goal.invariant-loop-place
invariant-loop-place l = record {
  bytes : l.body.items ++ groups (10 - l.place) l.rest ≡ l.initial.body.items ++ groups 10 l.n;
  len : length l.body.items ≤ length l.initial.body.items + l.place;
}
