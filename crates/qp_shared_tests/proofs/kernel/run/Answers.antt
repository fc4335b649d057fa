use Rattle.std.proofs.Common.{refl, ◌∙◌}
use Rattle.qp_shared.specs.Lane.{lane_view}
use Rattle.qp_shared_tests.proofs.KernelLemmas.{first-fresh}
use Rattle.qp_shared_tests.proofs.LaneLemmas.{lane-of}
use Rattle.qp_shared_tests.proofs.kernel.run.Goals as goal

pub play-first-requires-clause-fresh : goal.play-first-requires-clause-fresh
play-first-requires-clause-fresh g c = first-fresh c.in-Ok-new.shared c.args.sys.now _ _ c.in-Ok-new.ensures.system c.in_ok-first.ensures

pub play-first-requires-clause-plan : goal.play-first-requires-clause-plan
play-first-requires-clause-plan g c = (c.in_ok-first.ensures.each 0 (lane_view c.in_ok-first.first) refl).plan

pub play-first-requires-clause-of : goal.play-first-requires-clause-of
play-first-requires-clause-of g c = (c.in_ok-first.ensures.each 1 (lane_view c.in_ok-first.second) refl).sys_is ∙ c.in-Ok-new.ensures.system

pub play-first-requires-clause-new : goal.play-first-requires-clause-new
play-first-requires-clause-new g c = (c.in_ok-first.ensures.each 1 (lane_view c.in_ok-first.second) refl).new

pub seal_pair-requires-clause-first : goal.seal_pair-requires-clause-first
seal_pair-requires-clause-first g c = lane-of c.in-Ok-new.shared 2 0 _ _ (lane_view c.in_ok-first.first) _ c.in_ok-first.ensures refl c.play-first.ensures.first

pub seal_pair-requires-clause-second : goal.seal_pair-requires-clause-second
seal_pair-requires-clause-second g c = lane-of c.in-Ok-new.shared 2 1 _ _ (lane_view c.in_ok-first.second) _ c.in_ok-first.ensures refl c.play-first.ensures.second
