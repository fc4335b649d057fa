use Rattle.std.proofs.Common.{◌≡◌, take}
use Rattle.std.specs.List.{flat_map}
use Rattle.qp_base.specs.Sink.{appended}
use Rattle.qp_replay.specs.Remaining.{record_place}
use Rattle.qp_replay.specs.Text.{place_line}
use Rattle.qp_replay.proofs.writing.put_places.Given as goal

abbrev pub invariant-loop-at : goal.invariant-loop-at
invariant-loop-at g l = record {
  written : g.K.Sink.written l.out ≡ appended (g.K.Sink.written l.initial.out) (flat_map (λ x. place_line l.form l.lanes (record_place x.lane x.place)) (take l.at-index l.at-items));
  faults : g.K.Sink.faults l.out ≡ g.K.Sink.faults l.initial.out;
}
