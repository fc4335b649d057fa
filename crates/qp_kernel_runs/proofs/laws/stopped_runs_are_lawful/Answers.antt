use Rattle.qp_kernel_runs.proofs.StoppedRuns.{stopped-lawful}
use Rattle.qp_kernel_runs.proofs.laws.stopped_runs_are_lawful.Goals as goal

pub returns : goal.returns
returns c = λ sys stimuli lanes v j budget sound left stop at kernel same cut stated. stopped-lawful sys stimuli lanes v left j at budget sound kernel same cut stated stop
