use Rattle.std.proofs.Common.{◌∙◌, ap, subst, sym}
use Rattle.qp_kernel_turns.specs.Starting.{IsFreshLane}
use Rattle.qp_shared.specs.Lane.{lane_view}
use Rattle.qp_shared_tests.specs.Lanes.{IsSame}
use Rattle.qp_shared_tests.proofs.SameLanes.{same-then}
use Rattle.qp_shared_tests.proofs.kernel.play.Goals as goal

pub start-started-requires-clause-fresh : goal.start-started-requires-clause-fresh
start-started-requires-clause-fresh g c = subst (λ l. IsFreshLane c.args.sys.now (lane_view l)) (sym c.new-world.ensures) c.requires.fresh

pub go_on-requires-clause-plan : goal.go_on-requires-clause-plan
go_on-requires-clause-plan g c = c.start-started.ensures.plan ∙ (ap (λ l. (lane_view l).plan) c.new-world.ensures ∙ c.requires.plan)

pub returns-clause-first : goal.returns-clause-first
returns-clause-first g c =
    subst (λ l. IsSame (lane_view l) (lane_view c.done.result)) c.new-world.ensures
    (subst (λ l. IsSame (lane_view c.new-world.result.lane) (lane_view l)) (sym c.done.ensures) (same-then _ _ _ c.start-started.ensures.same c.go_on.ensures))
