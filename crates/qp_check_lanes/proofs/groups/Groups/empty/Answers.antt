use Rattle.qp_check_lanes.specs.Groups.{empty_groups}
use Rattle.qp_check_lanes.proofs.GroupLemmas.{empty_groups-more}
use Rattle.qp_check_lanes.proofs.groups.Groups.empty.Goals as goal

pub loop-init : goal.loop-init
unfolding empty_groups
loop-init c = c.new-items.ensures.items

pub loop-preserved : goal.loop-preserved
loop-preserved c = rw (c.in_ok-push.ensures.items, c.loop.invariant, c.new.ensures) (empty_groups-more c.loop.counter)
