use Rattle.std.proofs.Common.{rules, tests, not, sym, ◌∙◌}
use Rattle.std.proofs.lemmas.Iterator.{YieldsList-from_slice}
use Rattle.std.proofs.lemmas.Iterator.Search.{all_from_yields_List}
use Rattle.qp_check_course.specs.Runs.{piece_asserts}
use Rattle.qp_check_course.proofs.AnswerLemmas.{pieces-quiet}
use Rattle.qp_check_course.proofs.decide.pieces_assert_none.Goals as goal

pub returns : goal.returns
returns c =
    all_from_yields_List (λ p. not (piece_asserts p)) _ _ _ c.all.ensures.ran (YieldsList-from_slice c.args.pieces.now cc) (λ x b q k. search (rules, tests))
    ∙ sym (pieces-quiet c.args.pieces.now)
