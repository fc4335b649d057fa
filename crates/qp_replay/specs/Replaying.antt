-- What a replay answers.
use Rattle.std.specs.Prelude.{List}
use Rattle.qp_model.specs.declared.record.Rec.{Rec}
use Rattle.qp_model.specs.Places.{IsSerial, RecordPlace}
use Rattle.qp_replay.specs.Orders.{IsCycle, IsLowestOrder}
use Rattle.qp_replay.specs.declared.places.Replayed.{Replayed}
use Rattle.qp_replay.specs.declared.places.Replayed.TheVariants.{Order, Cycle}

-- an order, where there is no cycle, or a cycle
abbrev pub IsReplayAnswer : List (List Rec) → Replayed → Type 0
IsReplayAnswer lanes (Order order) = IsLowestOrder lanes order × ((cycle : List RecordPlace) → IsCycle lanes cycle → ⊥)
IsReplayAnswer lanes (Cycle cycle) = IsCycle lanes cycle

-- the same, and the order is serial by the law book
abbrev pub IsReplay : List (List Rec) → Replayed → Type 0
IsReplay lanes (Order order) = IsReplayAnswer lanes (Order order) × IsSerial lanes order
IsReplay lanes (Cycle cycle) = IsReplayAnswer lanes (Cycle cycle)
