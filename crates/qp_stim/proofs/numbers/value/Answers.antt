use Rattle.std.proofs.Common.{◌≤◌, ◌+◌, ◌-◌, ◌*◌, ◌^◌, ◌∙◌, ap, sym, get_or, arith}
use Rattle.std.proofs.lemmas.List.{at_drop_all}
use Rattle.qp_chart_text.specs.Tokens.{value_after}
use Rattle.qp_model.specs.WordOf.{fitting_number}
use Rattle.qp_stim.proofs.NumbersLemmas.{held-overflow, held-small}
use Rattle.qp_stim.proofs.numbers.value.Goals as goal

pub returns-in_err-checked_mul : goal.returns-in_err-checked_mul
returns-in_err-checked_mul c =
    let large : 2 ^ 64 ≤ c.loop-b.value * 10 + (get_or c.args.digits.now c.loop-b.b-index 0 - 48) = omega (arith, c.in_err-checked_mul.ensures) in
    c.from_residual.ensures ∙ sym (held-overflow c.loop-b.value c.loop-b.b-index c.args.digits.now c.loop-b-test.true large) ∙ ap fitting_number c.loop-b.invariant.same

pub returns-in_err-value : goal.returns-in_err-value
returns-in_err-value c =
    let large : 2 ^ 64 ≤ c.loop-b.value * 10 + (get_or c.args.digits.now c.loop-b.b-index 0 - 48) =
    omega (arith, c.in_err-value.ensures, c.in_ok-checked_mul.ensures, c.from.ensures) in
    c.from_residual-in_err-value.ensures ∙ sym (held-overflow c.loop-b.value c.loop-b.b-index c.args.digits.now c.loop-b-test.true large) ∙ ap fitting_number c.loop-b.invariant.same

pub returns : goal.returns
returns c =
    sym (held-small c.loop-b.value c.loop-b.invariant.fits)
    ∙ ap fitting_number (sym (at_drop_all (value_after c.loop-b.value) c.args.digits.now c.loop-b.b-index c.loop-b-test.false) ∙ c.loop-b.invariant.same)
