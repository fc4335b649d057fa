use Rattle.qp_kernel.proofs.KernelLaws.{budget_ends as law}
use Rattle.qp_kernel.proofs.laws.budgets_end_runs.Goals as goal

pub returns : goal.returns
returns c = law
