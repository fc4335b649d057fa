use Rattle.std.proofs.Common.{◌≡◌, ◌∙◌, ◌+◌, ◌-◌, ◌*◌, get_or, arith, sym}
use Rattle.qp_text.proofs.ValueLemmas.{value-next, value-too_large, value-whole}
use Rattle.qp_commands.proofs.numbers.value.Goals as goal

pub returns-in_err-checked_mul : goal.returns-in_err-checked_mul
returns-in_err-checked_mul c =
    rw c.from_residual.ensures (value-too_large c.loop-digit.n _ _ c.loop-digit-test.true (omega arith) c.loop-digit.invariant.so_far)

pub returns-in_err-n : goal.returns-in_err-n
returns-in_err-n c =
    rw c.from_residual-in_err-n.ensures
    (value-too_large c.loop-digit.n _ _ c.loop-digit-test.true (omega (arith, c.in_err-n.ensures, c.in_ok-checked_mul.ensures, c.saturating_sub.ensures, c.from.ensures)) c.loop-digit.invariant.so_far)

pub loop-digit-preserved : goal.loop-digit-preserved
loop-digit-preserved c =
    let next : c.in_ok-n.n ≡ c.loop-digit.n * 10 + (get_or c.args.digits.now c.loop-digit.digit-index 0 - 48) =
    omega (arith, c.in_ok-n.ensures, c.in_ok-checked_mul.ensures, c.saturating_sub.ensures, c.from.ensures) in
    record {
      so_far = rw next (sym (value-next c.loop-digit.n _ _ c.loop-digit-test.true) ∙ c.loop-digit.invariant.so_far);
      low = omega (arith, c.in_ok-n.ensures);
    }

pub returns : goal.returns
returns c = value-whole _ _ _ c.loop-digit-test.false c.loop-digit.invariant.low c.loop-digit.invariant.so_far
