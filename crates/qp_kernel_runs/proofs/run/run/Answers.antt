use Rattle.std.proofs.Common.{true, false, refl, sym, subst}
use Rattle.qp_kernel.specs.Happenings.{IsInOrder}
use Rattle.qp_kernel.specs.Turning.{under}
use Rattle.qp_kernel_runs.specs.SimView.{sim_view}
use Rattle.qp_dispatch.specs.declared.objects.Turn.TheVariants as turn
use Rattle.qp_kernel.specs.ZeroEnds.{own_told}
use Rattle.qp_kernel_runs.specs.Resting.{ObjectsShow, RestsAfter}
use Rattle.qp_kernel_runs.specs.Running.{KernelRunsTo}
use Rattle.qp_kernel_runs.proofs.RestLemmas.{no-rests, rests-after}
use Rattle.qp_kernel_runs.proofs.Ran.{start-stop_is, start-stop_on, turned}
use Rattle.qp_kernel_runs.proofs.run.run.Goals as goal

pub kernel_turn-turn-requires-clause-order : goal.kernel_turn-turn-requires-clause-order
kernel_turn-turn-requires-clause-order g c = record {
  order = λ e. subst (λ k. IsInOrder c.args.sys.now k (sim_view c.start.new.ops)) (sym c.new-kernel.ensures.looks) c.in-Done.ensures.goes.order;
  no_stim = c.in-Done.ensures.goes.no_stim;
}

pub returns-then-cooperative : goal.returns-then-cooperative
returns-then-cooperative g c =
    let sys = c.args.sys.now in
    let terms = under true c.args.budget in
    let v = sim_view c.args.world.now in
    let w = sim_view c.vanilla_turn-turn.new.world in
    let end = c.end_of_turn.ensures in
    record {
      goes =
          subst (λ t. KernelRunsTo sys (under c.args.cooperative c.args.budget) v w t) (sym end.turn)
          (subst (λ b. KernelRunsTo sys (under b c.args.budget) v w c.vanilla_turn-turn.result) (sym c.if-cooperative.true)
          (turned sys terms refl c.requires.sound c.args.objects.now v c.requires.may.made c.requires.may.fresh c.start.new.self (sim_view c.start.new.ops) c.in-Done.ensures.goes
          _ _ refl refl c.vanilla_turn-turn.result c.vanilla_turn-turn.ensures.goes c.vanilla_turn-turn.ensures.order));
      rests =
          subst (λ t. RestsAfter sys w.told t c.end_of_turn.result.rests.items) (sym end.turn)
          (rests-after sys c.requires.sound terms _ _ c.vanilla_turn-turn.result c.end_of_turn.result.rests.items c.vanilla_turn-turn.ensures.goes c.vanilla_turn-turn.ensures.rests
          (subst (λ stack. ObjectsShow c.vanilla_turn-turn.new.objects stack c.end_of_turn.result.rests.items) c.under_way.ensures end.rests));
    }

pub returns-else-cooperative : goal.returns-else-cooperative
returns-else-cooperative g c =
    let sys = c.args.sys.now in
    let terms = under false c.args.budget in
    let v = sim_view c.args.world.now in
    let w = sim_view c.kernel_turn-turn.new.world in
    let end = c.end_of_turn-else-cooperative.ensures in
    record {
      goes =
          subst (λ t. KernelRunsTo sys (under c.args.cooperative c.args.budget) v w t) (sym end.turn)
          (subst (λ b. KernelRunsTo sys (under b c.args.budget) v w c.kernel_turn-turn.result) (sym c.if-cooperative.false)
          (turned sys terms refl c.requires.sound c.args.objects.now v c.requires.may.made c.requires.may.fresh c.start.new.self (sim_view c.start.new.ops) c.in-Done.ensures.goes
          _ _ refl refl c.kernel_turn-turn.result c.kernel_turn-turn.ensures.goes c.kernel_turn-turn.ensures.order));
      rests =
          subst (λ t. RestsAfter sys w.told t c.end_of_turn-else-cooperative.result.rests.items) (sym end.turn)
          (rests-after sys c.requires.sound terms _ _ c.kernel_turn-turn.result c.end_of_turn-else-cooperative.result.rests.items c.kernel_turn-turn.ensures.goes c.kernel_turn-turn.ensures.rests
          (subst (λ stack. ObjectsShow c.kernel_turn-turn.new.objects stack c.end_of_turn-else-cooperative.result.rests.items) c.as_slice.ensures.value end.rests));
    }

pub returns-in-Stopped : goal.returns-in-Stopped
returns-in-Stopped g c =
    let terms = under c.args.cooperative c.args.budget in
    record {
      goes = (
        start-stop_on c.args.sys.now terms refl c.requires.sound c.args.objects.now (sim_view c.args.world.now) c.requires.may.made c.requires.may.fresh (sim_view c.start.new.ops) c.in-Stopped.ensures.goes,
        start-stop_is c.args.sys.now terms refl c.requires.sound c.args.objects.now (sim_view c.args.world.now) c.requires.may.made c.requires.may.fresh (sim_view c.start.new.ops) c.in-Stopped.ensures.goes,
      );
      rests = subst (λ xs. RestsAfter c.args.sys.now (sim_view c.start.new.ops).told turn.Stopped xs) (sym c.new.ensures.items) (no-rests c.args.sys.now (λ o. own_told o (sim_view c.start.new.ops).told));
    }
