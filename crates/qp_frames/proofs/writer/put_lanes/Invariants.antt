use Rattle.std.proofs.Common.{◌≡◌, take}
use Rattle.qp_base.specs.Sink.{appended}
use Rattle.qp_model.specs.Output.{items_of_lanes}
use Rattle.qp_model.specs.OutputFrames.{frames_from}
use Rattle.qp_frames.specs.Sequence.{sequence_behind}
use Rattle.qp_frames.proofs.writer.put_lanes.Given as goal

abbrev pub invariant-loop-number : goal.invariant-loop-number
invariant-loop-number g l = record {
  written : g.K.Sink.written l.out ≡ appended (g.K.Sink.written l.initial.out) (frames_from l.form l.sequence (items_of_lanes 0 (take l.number l.lane-items)));
  faults : g.K.Sink.faults l.out ≡ g.K.Sink.faults l.initial.out;
  next : l.next ≡ sequence_behind l.sequence (items_of_lanes 0 (take l.number l.lane-items));
}
