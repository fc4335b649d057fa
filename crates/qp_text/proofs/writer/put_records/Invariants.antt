use Rattle.std.proofs.Common.{◌≡◌, take}
use Rattle.std.specs.List.{flat_map}
use Rattle.qp_base.specs.Sink.{appended}
use Rattle.qp_model.specs.Output.{record_item}
use Rattle.qp_model.specs.OutputText.{line_text}
use Rattle.qp_text.proofs.writer.put_records.Given as goal

abbrev pub invariant-loop-r : goal.invariant-loop-r
invariant-loop-r g l = record {
  written : g.K.Sink.written l.out ≡ appended (g.K.Sink.written l.initial.out) (flat_map (λ r. line_text l.form (record_item r)) (take l.r-index l.r-items));
  faults : g.K.Sink.faults l.out ≡ g.K.Sink.faults l.initial.out;
}
