use Rattle.std.proofs.Common.{◌≡◌, ◌∙◌, ◌||◌, false, not, ap, sym, refl, length, get_or, arith}
use Rattle.qp_chart.specs.StateTree.{has}
use Rattle.qp_model.proofs.ListLemmas.{all_below_from}
use Rattle.qp_check_lanes.proofs.BlockLifeLemmas.{all_below-not}
use Rattle.qp_check_lanes.proofs.lives.are_referred.Goals as goal

pub returns-then-flag : goal.returns-then-flag
returns-then-flag c = λ places same.
    let n = c.loop-n.n in
    let unmarked : has places n ≡ false = sym (same n c.loop-n-test.true) ∙ c.if-not-marks-n.true in
    let empty : not (get_or c.args.flags.now n false) ≡ false = ap not (sym c.if-flag.ensures) in
    let fails : (has places n || not (get_or c.args.flags.now n false)) ≡ false = rw (unmarked, empty) refl in
    all_below-not (length c.args.marks.now) (λ k. has places k || not (get_or c.args.flags.now k false)) n c.loop-n-test.true fails

pub returns : goal.returns
returns c = λ places same.
    sym (all_below_from (length c.args.marks.now) (λ k. has places k || not (get_or c.args.flags.now k false))
    (λ k lt. ap (λ b. b || not (get_or c.args.flags.now k false)) (sym (same k lt)) ∙ c.loop-n.invariant k (omega (arith, lt, c.loop-n-test.false))))
