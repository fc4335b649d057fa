use Rattle.std.proofs.Common.{◌<◌, ◌^◌, get_or, arith}
use Rattle.qp_check_ends.proofs.takes.Takes.add.Goals as goal

pub returns-in_default : goal.returns-in_default
returns-in_default c o h = let small : get_or c.args.self.now.counts o 0 < 2 ^ 64 = c.requires o h in rw c.in_default.is (omega (arith, small))
