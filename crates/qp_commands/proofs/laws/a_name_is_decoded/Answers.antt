use Rattle.qp_commands.proofs.WordCalls.{decode-name}
use Rattle.qp_commands.proofs.laws.a_name_is_decoded.Goals as goal

pub returns : goal.returns
returns c = decode-name
