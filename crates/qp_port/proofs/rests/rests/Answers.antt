use Rattle.std.proofs.Common.{ap, subst, sym, ◌∙◌}
use Rattle.qp_port.specs.Resting.{AreShown}
use Rattle.qp_port.proofs.Showing.{shown-more}
use Rattle.qp_port.proofs.rests.rests.Goals.{in-Some+in_ok-push-in-Some, in-None}
use Rattle.qp_port.proofs.rests.rests.Goals as goal

pub loop-worker-preserved : goal.loop-worker-preserved
loop-worker-preserved g c =
    elim c.match-branch-2.branch [
      | in-Some+in_ok-push-in-Some w ↦
          shown-more (λ v. v.job) c.args.workers.now c.loop-worker.worker-index c.worker-item.result c.in_ok-rest.field-0 w.in-Some.rest c.loop-worker.rests.items c.match-branch-2.rests.items c.loop-worker-test.true c.worker-item.is
          c.in_ok-rest.ensures w.in-Some.is (ap (λ v. v.items) w.rests-is ∙ w.in_ok-push-in-Some.ensures.items)
          c.loop-worker.invariant
      | in-None w ↦ subst (AreShown (λ v. v.job) c.args.workers.now) (sym (ap (λ v. v.items) w.rests-is)) c.loop-worker.invariant
    ]
