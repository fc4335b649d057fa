use Rattle.std.proofs.Common.{◌∙◌, ◌+◌, ◌-◌, ◌^◌, min, ap, sym, get_or}
use Rattle.qp_model.specs.History.{lane_items}
use Rattle.qp_model.specs.End.{took_count}
use Rattle.qp_check_ends.proofs.TakesLemmas.{counted-no_lane, counted-lane}
use Rattle.qp_check_ends.proofs.takes.Takes.of_journal.Goals as goal

pub loop-lane-init : goal.loop-lane-init
loop-lane-init c o h = c.none-takes.ensures o h ∙ sym (counted-no_lane o)

pub loop-lane-preserved : goal.loop-lane-preserved
loop-lane-preserved c o h =
    counted-lane o c.deref-lane-items.result.now c.loop-lane.lane-index c.lane-item.result
    (get_or c.add_lane.new.self.counts o 0) (get_or c.loop-lane.takes.counts o 0) c.loop-lane-test.true c.lane-item.is
    (c.add_lane.ensures o h ∙ ap (λ l. min (get_or c.loop-lane.takes.counts o 0 + took_count (lane_items l) o) (2 ^ 64 - 1)) (c.deref.ensures.value ∙ c.lane.view_is))
    (c.loop-lane.invariant o h)
