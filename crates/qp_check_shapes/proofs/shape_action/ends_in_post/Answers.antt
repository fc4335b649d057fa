use Rattle.std.proofs.Common.{◌∙◌}
use Rattle.qp_check_shapes.proofs.ShapeLastLemmas.{some-last, none-last}
use Rattle.qp_check_shapes.proofs.shape_action.ends_in_post.Goals as goal

pub returns-in-Some : goal.returns-in-Some
returns-in-Some c = c.is_post.ensures ∙ some-last c.args.told.now c.in-Some.t.now c.in-Some.ensures.value

pub returns-in-None : goal.returns-in-None
returns-in-None c = none-last c.args.told.now c.in-None.ensures.value
