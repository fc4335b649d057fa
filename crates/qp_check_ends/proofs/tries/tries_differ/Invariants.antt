use Rattle.std.proofs.Common.{◌≡◌, true, take}
use Rattle.qp_model.specs.History.{lane_items}
use Rattle.qp_model.specs.Sources.{none_twice}
use Rattle.qp_check_ends.specs.Tries.{SetHolds, entries_seen}
use Rattle.qp_check_ends.proofs.tries.tries_differ.Given as goal

abbrev pub invariant-loop-r : goal.invariant-loop-r
invariant-loop-r l = record {
  held : SetHolds l.seen (entries_seen (lane_items (take l.r-index l.lane)));
  differ : none_twice (entries_seen (lane_items (take l.r-index l.lane))) ≡ true;
}
