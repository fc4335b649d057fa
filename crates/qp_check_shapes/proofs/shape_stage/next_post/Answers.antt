use Rattle.std.proofs.Common.{sym, ◌∙◌}
use Rattle.qp_check_shapes.proofs.ShapeNextLemmas.{next-here, next-later, next-end}
use Rattle.qp_check_shapes.proofs.shape_stage.next_post.Goals as goal

pub returns-then-has_member : goal.returns-then-has_member
returns-then-has_member c =
    next-here c.args.entry c.args.set c.args.ceiling c.loop-n.n c.loop-n-test.true (sym c.has_member.ensures ∙ c.if-has_member.true) ∙ sym c.loop-n.invariant

pub loop-n-preserved : goal.loop-n-preserved
loop-n-preserved c =
    c.loop-n.invariant ∙ next-later c.args.entry c.args.set c.args.ceiling c.loop-n.n c.loop-n-test.true (sym c.has_member.ensures ∙ c.if-has_member.false)

pub returns : goal.returns
returns c = c.after_posts.ensures ∙ next-end c.args.entry c.args.set c.args.ceiling c.loop-n.n c.loop-n-test.false ∙ sym c.loop-n.invariant
