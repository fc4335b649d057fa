use Rattle.std.proofs.Common.{◌≡◌, ◌/◌, ◌^◌, ◌<◌, ◌≤◌, false, nat_lt, arith}
use Rattle.std.proofs.lemmas.Bool.Decides.{nat_tests}
use Rattle.std.proofs.Math.Nat.{div-eq_of_lt}
use Rattle.std.proofs.Math.Pow.{pow_mono}
use Rattle.qp_check_shapes.proofs.shape_stage.has_member.Goals as goal

pub returns-else-n-lt64 : goal.returns-else-n-lt64
returns-else-n-lt64 c =
    let large : 2 ^ 64 ≤ 2 ^ c.args.n = pow_mono c.if-n-lt64.false in
    let small : c.args.set < 2 ^ c.args.n = omega (arith, large, c.ranges.set.fits) in
    let none : c.args.set / 2 ^ c.args.n ≡ 0 = div-eq_of_lt small in
    let low : nat_lt c.args.n 64 ≡ false = grind (arith, nat_tests, c.if-n-lt64.false) in
    rw none low
