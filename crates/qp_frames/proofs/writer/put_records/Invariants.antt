use Rattle.std.proofs.Common.{◌≡◌, map, take}
use Rattle.qp_base.specs.Sink.{appended}
use Rattle.qp_model.specs.Output.{record_item}
use Rattle.qp_model.specs.OutputFrames.{frames_from}
use Rattle.qp_frames.specs.Sequence.{sequence_behind}
use Rattle.qp_frames.proofs.writer.put_records.Given as goal

abbrev pub invariant-loop-r : goal.invariant-loop-r
invariant-loop-r g l = record {
  written : g.K.Sink.written l.out ≡ appended (g.K.Sink.written l.initial.out) (frames_from l.form l.sequence (map record_item (take l.r-index l.r-items)));
  faults : g.K.Sink.faults l.out ≡ g.K.Sink.faults l.initial.out;
  next : l.next ≡ sequence_behind l.sequence (map record_item (take l.r-index l.r-items));
}
