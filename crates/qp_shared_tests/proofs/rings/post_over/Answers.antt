use Rattle.std.proofs.Common.{refl}
use Rattle.qp_shared.specs.Lane.{lane_view}
use Rattle.qp_shared_tests.proofs.LampLemmas.{its-bells, its-system, lamp-lane}
use Rattle.qp_shared_tests.proofs.rings.post_over.Goals as goal

pub bell-requires-clause-system : goal.bell-requires-clause-system
bell-requires-clause-system c =
    its-bells c.args.sys.now c.args.bells.now (lane_view c.in_ok-last.last) (its-system c.args.shared.now c.args.sys.now 2 _ (lane_view c.in_ok-last.last) c.requires.its c.in_ok-last.ensures refl) c.requires.bells

pub post_both-requires : goal.post_both-requires
post_both-requires c =
    lamp-lane c.args.sys.now (lane_view c.in_ok-last.last) c.in-Ok.lane (its-system c.args.shared.now c.args.sys.now 2 _ (lane_view c.in_ok-last.last) c.requires.its c.in_ok-last.ensures refl) c.requires.lamp
    c.in-Ok.ensures.begins

pub bell-requires-clause-fresh : goal.bell-requires-clause-fresh
bell-requires-clause-fresh c = (c.in_ok-last.ensures.each 2 (lane_view c.in_ok-last.last) refl).new.told
