use Rattle.qp_commands.proofs.WordCalls.{budget-words}
use Rattle.qp_commands.proofs.laws.budgets_of_a_run.Goals as goal

pub returns : goal.returns
returns c = budget-words
