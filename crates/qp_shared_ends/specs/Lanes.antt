-- The records of lanes, by their logs.
use Rattle.std.specs.Prelude.{List, map}
use Rattle.qp_model.specs.declared.record.Rec.{Rec}
use Rattle.qp_table.specs.declared.view.SeatLog.{SeatLog}

abbrev pub lanes_recs : List SeatLog → List (List Rec)
lanes_recs gs = map (λ (g : SeatLog). g.recs) gs
