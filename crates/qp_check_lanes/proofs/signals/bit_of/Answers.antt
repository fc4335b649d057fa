use Rattle.std.proofs.Common.{arith}
use Rattle.qp_check_lanes.proofs.BitLemmas.{bit-shift}
use Rattle.qp_check_lanes.proofs.signals.bit_of.Goals as goal

pub returns-then-p-le64-clause-some : goal.returns-then-p-le64-clause-some
returns-then-p-le64-clause-some c = bit-shift c.args.p (omega arith) (omega arith)
