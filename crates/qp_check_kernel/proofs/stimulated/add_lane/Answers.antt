use Rattle.std.specs.BTreeSet.{contains}
use Rattle.std.specs.Ordering.{nat_cmp}
use Rattle.qp_check_kernel.proofs.StimulatedLemmas.{stim-none, stim-added}
use Rattle.qp_check_kernel.proofs.stimulated.add_lane.Goals as goal

pub loop-r-init : goal.loop-r-init
loop-r-init c k = stim-none k (contains nat_cmp c.args.looks.now k)

pub loop-r-preserved : goal.loop-r-preserved
loop-r-preserved c k =
    stim-added c.args.lane.now c.loop-r.r-index c.r-item.result c.loop-r-test.true c.r-item.is k
    (contains nat_cmp c.add.new.looks k) (contains nat_cmp c.loop-r.looks k) (contains nat_cmp c.args.looks.now k) c.stim_look.result
    (c.in_ok-add.ensures k) (c.loop-r.invariant k) (c.stim_look.ensures k)
