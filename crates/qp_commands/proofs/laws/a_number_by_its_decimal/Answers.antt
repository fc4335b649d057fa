use Rattle.qp_commands.proofs.WordCalls.{generate-number}
use Rattle.qp_commands.proofs.laws.a_number_by_its_decimal.Goals as goal

pub returns : goal.returns
returns c = generate-number
