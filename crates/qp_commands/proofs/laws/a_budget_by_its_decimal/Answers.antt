use Rattle.qp_commands.proofs.WordCalls.{each-budget}
use Rattle.qp_commands.proofs.laws.a_budget_by_its_decimal.Goals as goal

pub returns : goal.returns
returns c = each-budget
