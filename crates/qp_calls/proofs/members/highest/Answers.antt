use Rattle.std.proofs.Common.{◌≡◌, ◌+◌, ◌^◌, ◌<◌, suc, arith, lit<}
use Rattle.std.proofs.Math.Nat.{one-le-pow}
use Rattle.qp_calls.proofs.SetBits.{members-highest, top-of}
use Rattle.qp_calls.proofs.members.highest.Goals as goal

pub overflow_sub-result : goal.overflow_sub-result
overflow_sub-result c = let t = top-of c.args.set c.requires c.ranges.set.fits in rw t.shifted t.low

pub returns-clause-first : goal.returns-clause-first
returns-clause-first c =
    let t = top-of c.args.set c.requires c.ranges.set.fits in
    let is : t.top + 1 ≡ suc t.top = omega arith in
    rw (t.shifted, t.is, is) (members-highest c.args.set t.top t.low t.high (omega (arith, t.few)))

pub returns-clause-less : goal.returns-clause-less
returns-clause-less c =
    let t = top-of c.args.set c.requires c.ranges.set.fits in
    let some : 0 < 2 ^ t.top = one-le-pow t.top 2 (lit< tt) in
    rw t.shifted (omega (arith, some, t.low))
