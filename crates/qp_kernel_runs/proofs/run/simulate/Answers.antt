use Rattle.std.proofs.Common.{refl, subst, ◌∙◌}
use Rattle.qp_model.specs.History.{all_items}
use Rattle.qp_kernel_turns.proofs.SoundObjects.{able}
use Rattle.qp_kernel.specs.Turning.{under}
use Rattle.qp_kernel_runs.specs.SimView.{sim_view}
use Rattle.qp_kernel_runs.specs.Resting.{RestsAfter}
use Rattle.qp_kernel_runs.specs.Running.{KernelRunsTo}
use Rattle.qp_kernel_runs.proofs.EndedWorlds.{left-of}
use Rattle.qp_kernel_runs.proofs.Ends.{cut-of, may-run, seen-as}
use Rattle.qp_kernel_runs.proofs.IdleRuns.{idle-lawful}
use Rattle.qp_kernel_runs.proofs.LaneEnds.{stopped-last}
use Rattle.qp_kernel_runs.proofs.RestLemmas.{rests-in}
use Rattle.qp_kernel_runs.proofs.StoppedRuns.{stopped-lawful}
use Rattle.qp_kernel_runs.proofs.run.simulate.Goals as goal

pub run-turn-requires-clause-may : goal.run-turn-requires-clause-may
run-turn-requires-clause-may g c =
    may-run c.args.sys.now c.args.stim.now _ c.in_ok-plain.plain c.in_ok-world.world c.in_ok-objects.objects c.in_ok-plain.ensures c.in_ok-world.ensures c.in_ok-objects.ensures c.requires.fit

pub closed-journal-requires-clause-last : goal.closed-journal-requires-clause-last
closed-journal-requires-clause-last g c =
    let seen = seen-as c.args.sys.now c.args.stim.now _ c.in_ok-plain.plain c.in_ok-world.world c.in_ok-plain.ensures c.in_ok-world.ensures in
    let terms = under c.args.cooperative c.args.budget in
    let sys = c.args.sys.now in
    let view = sim_view c.run-turn.new.world in
    let ran = subst (λ t. KernelRunsTo sys terms (sim_view c.in_ok-world.world) view t) c.in-Stopped.is c.run-turn.ensures.goes in
    let left = left-of c.run-turn.new.world c.finish-in-Stopped.result sys c.args.stim.now (ran.0.of ∙ seen.0) (ran.0.plan ∙ seen.1) c.finish-in-Stopped.ensures in
    stopped-last sys c.args.stim.now c.finish-in-Stopped.result view left terms ran.1

pub returns-in-Idle : goal.returns-in-Idle
returns-in-Idle g c =
    let seen = seen-as c.args.sys.now c.args.stim.now _ c.in_ok-plain.plain c.in_ok-world.world c.in_ok-plain.ensures c.in_ok-world.ensures in
    let terms = under c.args.cooperative c.args.budget in
    let sys = c.args.sys.now in
    let view = sim_view c.run-turn.new.world in
    let ran = subst (λ t. KernelRunsTo sys terms (sim_view c.in_ok-world.world) view t) c.in-Idle.is c.run-turn.ensures.goes in
    let rests = subst (λ t. RestsAfter sys view.told t c.run-turn.result.rests.items) c.in-Idle.is c.run-turn.ensures.rests in
    let left = left-of c.run-turn.new.world c.finish.result sys c.args.stim.now (ran.0.of ∙ seen.0) (ran.0.plan ∙ seen.1) c.finish.ensures in
    record {
      run = record {
        kernel = c.kernel_number.ensures;
        budget_is = refl;
        lawful = idle-lawful sys c.args.stim.now c.finish.result view left _ refl terms ran.1 c.requires.sound (able sys c.requires.sound) c.kernel_number.ensures refl refl;
      };
      rests = rests-in sys c.args.stim.now c.finish.result view left _ refl terms c.kernel_number.ensures c.run-turn.result.rests.items rests;
    }

pub returns-in-Stopped : goal.returns-in-Stopped
returns-in-Stopped g c =
    let seen = seen-as c.args.sys.now c.args.stim.now _ c.in_ok-plain.plain c.in_ok-world.world c.in_ok-plain.ensures c.in_ok-world.ensures in
    let terms = under c.args.cooperative c.args.budget in
    let sys = c.args.sys.now in
    let view = sim_view c.run-turn.new.world in
    let ran = subst (λ t. KernelRunsTo sys terms (sim_view c.in_ok-world.world) view t) c.in-Stopped.is c.run-turn.ensures.goes in
    let rests = subst (λ t. RestsAfter sys view.told t c.run-turn.result.rests.items) c.in-Stopped.is c.run-turn.ensures.rests in
    let closed = c.closed-journal.ensures in
    let left = left-of c.run-turn.new.world c.finish-in-Stopped.result sys c.args.stim.now (ran.0.of ∙ seen.0) (ran.0.plan ∙ seen.1) c.finish-in-Stopped.ensures in
    record {
      run = record {
        kernel = closed.kernel;
        budget_is = closed.budget_is;
        lawful =
            stopped-lawful sys c.args.stim.now c.finish-in-Stopped.result view left c.closed-journal.result closed.lanes_are terms c.requires.sound closed.kernel closed.budget_is
            (cut-of (all_items c.finish-in-Stopped.result) c.closed-journal.result.end closed.stated c.if-journal-eq0.false) closed.stated ran.1;
      };
      rests = rests-in sys c.args.stim.now c.finish-in-Stopped.result view left c.closed-journal.result closed.lanes_are terms closed.kernel c.run-turn.result.rests.items rests;
    }
