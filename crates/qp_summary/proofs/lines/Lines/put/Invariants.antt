use Rattle.std.proofs.Common.{◌≡◌, take}
use Rattle.std.specs.Prelude.{string_bytes}
use Rattle.std.specs.List.{flat_map}
use Rattle.qp_base.specs.Sink.{appended}
use Rattle.qp_summary.proofs.lines.Lines.put.Given as goal

abbrev pub invariant-loop-line : goal.invariant-loop-line
invariant-loop-line g l = record {
  written : g.K.Sink.written l.out ≡ appended (g.K.Sink.written l.initial.out) (flat_map string_bytes (take l.line-index l.line-items));
  faults : g.K.Sink.faults l.out ≡ g.K.Sink.faults l.initial.out;
}
