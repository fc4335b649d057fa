use Rattle.std.proofs.Common.{refl, sym, ◌∙◌}
use Rattle.qp_check_shapes.proofs.ObjectShapeLemmas.{last-more, last-no, last-none, last-shorter}
use Rattle.qp_check_shapes.proofs.object_shape.asserts_last.Goals as goal

pub loop-first-init : goal.loop-first-init
loop-first-init c = refl

pub loop-first-preserved : goal.loop-first-preserved
loop-first-preserved c =
    c.loop-first.invariant
    ∙ last-more c.loop-first.left.now c.in-Some.first.now c.in-Some.rest.now c.is_assert.result c.in-Some.ensures.cases.0 c.is_assert.ensures c.if-nothing_after.ensures

pub loop-first-smaller : goal.loop-first-smaller
loop-first-smaller c = last-shorter c.loop-first.left.now c.in-Some.first.now c.in-Some.rest.now c.in-Some.ensures.cases.0

pub returns-else-nothing_after : goal.returns-else-nothing_after
returns-else-nothing_after c =
    sym
    (c.loop-first.invariant
    ∙ last-no c.loop-first.left.now c.in-Some.first.now c.in-Some.rest.now c.is_assert.result c.in-Some.ensures.cases.0 c.is_assert.ensures c.if-nothing_after.ensures)

pub returns-in-None : goal.returns-in-None
returns-in-None c = sym (c.loop-first.invariant ∙ last-none c.loop-first.left.now c.in-None.ensures.cases)
