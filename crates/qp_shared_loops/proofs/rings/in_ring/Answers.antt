use Rattle.std.proofs.Common.{◌+◌, ◌*◌, ◌/◌, ◌%◌, ap, ◌∙◌, subst, ◌≡◌, true, sym, bit_and}
use Rattle.std.specs.Int.{is_power_of_two}
use Rattle.qp_shared_loops.proofs.Remainders.{guessed, masked}
use Rattle.qp_shared_loops.proofs.rings.in_ring.Goals as goal

pub returns-then-is_power_of_two-clause-value : goal.returns-then-is_power_of_two-clause-value
returns-then-is_power_of_two-clause-value c =
    ap (bit_and c.args.n) c.from.ensures
    ∙ masked c.args.n c.args.ring c.ranges.ring.fits (subst (λ r. is_power_of_two (r + 1) ≡ true) c.from-size.ensures (sym c.is_power_of_two.ensures ∙ c.if-is_power_of_two.true))

pub returns-then-n-below-clause-value : goal.returns-then-n-below-clause-value
returns-then-n-below-clause-value c =
    guessed c.args.n (c.args.n * c.from-3.result % 18446744073709551616 / 4294967296) (c.from-size.result + 1) c.if-below-n.true c.if-n-below.true
    ∙ ap (λ r. c.args.n % (r + 1)) c.from-size.ensures
