use Rattle.std.proofs.Common.{◌≡◌, ◌++◌, [], map, length}
use Rattle.std.specs.List.{AllByRecursion}
use Rattle.std.specs.Vec.Iter.{into_iter_items, into_iter_len}
use Rattle.qp_port_runs.specs.Handed.{lane_view}
use Rattle.qp_wait.specs.Handed.{bell_view}
use Rattle.qp_wait.specs.Handed.{IsBellRootOf}
use Rattle.qp_wait_runs.specs.Places.{ParkInPlaces}
use Rattle.qp_wait_runs.proofs.ringing.all_ringing.Given as goal

abbrev pub invariant-loop-lane : goal.invariant-loop-lane
invariant-loop-lane l =
    (l.yielded ++ into_iter_items l.lane-iterator ≡ l.fn.lanes.items)
    × (map bell_view l.ringing.items ≡ map lane_view l.yielded)
    × (into_iter_len l.lane-iterator ≡ length (into_iter_items l.lane-iterator))
    × IsBellRootOf l.bells l.root
    × AllByRecursion (λ x. (lane_view x).sys ≡ l.sys) (into_iter_items l.lane-iterator)
    × AllByRecursion (λ x. (lane_view x).told ≡ []) (into_iter_items l.lane-iterator)
    × ParkInPlaces l.sys.objects 0 l.ringing.items
