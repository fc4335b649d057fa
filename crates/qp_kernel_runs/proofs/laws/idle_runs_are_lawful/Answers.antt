use Rattle.qp_kernel_runs.proofs.IdleRuns.{idle-lawful}
use Rattle.qp_kernel_runs.proofs.laws.idle_runs_are_lawful.Goals as goal

pub returns : goal.returns
returns c = λ sys stimuli lanes v j budget sound able left idle at kernel same end. idle-lawful sys stimuli lanes v left j at budget idle sound able kernel same end
