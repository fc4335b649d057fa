use Rattle.std.proofs.Common.{◌≡◌, ◌++◌, ℕ, drop, false}
use Rattle.qp_model.specs.History.{lane_items}
use Rattle.qp_model.specs.OneOrder.{part_of_look}
use Rattle.qp_check_lanes.specs.Options.{is_this_number}
use Rattle.qp_check_kernel.specs.StimulusIndex.{parts_at}
use Rattle.qp_check_kernel.proofs.stimulus_index.Index.put_lane.Given as goal

abbrev pub invariant-loop-rec : goal.invariant-loop-rec
invariant-loop-rec l =
    (k : ℕ) → parts_at l.self k ++ part_of_look l.lane k l.cuts (is_this_number k l.look) (lane_items (drop l.rec-index l.records))
    ≡ parts_at l.initial.self k ++ part_of_look l.lane k l.cuts false (lane_items l.records)
