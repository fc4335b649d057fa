use Rattle.std.proofs.Common.{◌≡◌, ◌-◌, ◌+◌, drop, get_or, arith, refl}
use Rattle.std.proofs.Math.Seq.{drop-length}
use Rattle.qp_packed.specs.Packing.{wide_marks}
use Rattle.qp_packed.proofs.NumberLemmas.{marks-few, marks-drop, length-drop-few, wide-one}
use Rattle.qp_packed.proofs.pushing.marks_of.Goals as goal

pub loop-left-init : goal.loop-left-init
unfolding wide_marks
loop-left-init c = record { marked = rw (drop-length c.args.xs.now) refl; within = omega arith }

pub overflow_mul-marked : goal.overflow_mul-marked
overflow_mul-marked c =
    let k = marks-few (drop c.loop-left.left c.args.xs.now) (length-drop-few c.args.xs.now c.loop-left.left c.requires) in
    omega (arith, c.loop-left.invariant.marked, k)

pub overflow_add-marked : goal.overflow_add-marked
overflow_add-marked c =
    let k = marks-few (drop c.loop-left.left c.args.xs.now) (length-drop-few c.args.xs.now c.loop-left.left c.requires) in
    let w = wide-one (get_or c.args.xs.now (c.loop-left.left - 1) 0) in
    omega (arith, c.loop-left.invariant.marked, k, w, c.wide_of.ensures)

pub loop-left-preserved : goal.loop-left-preserved
loop-left-preserved c =
    let e : c.loop-left.left - 1 + 1 ≡ c.loop-left.left = omega arith in
    record {
      marked = rw (c.wide_of.ensures, c.loop-left.invariant.marked, marks-drop c.args.xs.now (c.loop-left.left - 1) (omega arith), e) refl;
      within = omega arith;
    }
