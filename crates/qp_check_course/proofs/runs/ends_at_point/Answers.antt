use Rattle.std.proofs.Common.{◌∙◌}
use Rattle.qp_check_course.proofs.LoopLemmas.{last-point}
use Rattle.qp_check_course.proofs.runs.ends_at_point.Goals as goal

pub returns : goal.returns
returns c = c.is_point.ensures ∙ last-point c.args.pieces.now _ c.last.ensures.value
