use Rattle.std.proofs.Common.{true}
use Rattle.qp_kernel.specs.Turning.{under}
use Rattle.qp_kernel_runs.specs.SimRun.{IsQvRun, IsRunOf}
use Rattle.qp_kernel_runs.proofs.Cooperating.{if-ok, qv-run}
use Rattle.qp_kernel_runs.proofs.run.qv_with_rests.Goals as goal

pub returns-clause-run : goal.returns-clause-run
returns-clause-run g c =
    if-ok (λ r. IsRunOf c.args.sys.now c.args.stim.now (under true c.args.budget) r.journal) (λ r. IsQvRun c.args.sys.now c.args.stim.now c.args.budget r.journal) c.simulate.result
    (λ r run. qv-run c.args.sys.now c.args.stim.now c.args.budget r.journal c.requires.sound run) c.simulate.ensures.run
