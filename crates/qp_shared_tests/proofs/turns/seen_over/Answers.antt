use Rattle.std.proofs.Common.{refl}
use Rattle.qp_shared.specs.Lane.{lane_view}
use Rattle.qp_shared_tests.proofs.LampLemmas.{empty-lane, its-bells, its-system}
use Rattle.qp_shared_tests.proofs.turns.seen_over.Goals as goal

pub bell-requires-clause-system : goal.bell-requires-clause-system
bell-requires-clause-system g c =
    its-bells c.args.sys.now c.args.bells.now (lane_view c.in_ok-second.second) (its-system c.args.shared.now c.args.sys.now 1 _ (lane_view c.in_ok-second.second) c.requires.its c.in_ok-second.ensures refl) c.requires.bells

pub seen_in-requires-clause-empty : goal.seen_in-requires-clause-empty
seen_in-requires-clause-empty g c = empty-lane c.args.shared.now c.args.sys.now _ (lane_view c.in_ok-second.second) c.in-Ok.lane c.requires.its c.in_ok-second.ensures refl c.requires.lamp c.in-Ok.ensures.begins

pub bell-requires-clause-fresh : goal.bell-requires-clause-fresh
bell-requires-clause-fresh g c = (c.in_ok-second.ensures.each 1 (lane_view c.in_ok-second.second) refl).new.told
