use Rattle.std.proofs.Common.{rules, tests, not}
use Rattle.std.proofs.lemmas.Iterator.{YieldsList-from_slice}
use Rattle.std.proofs.lemmas.Iterator.Search.{all_from_yields_List}
use Rattle.qp_model.specs.Ends.{is_assert}
use Rattle.qp_check_course.proofs.decide.asserts_none.Goals as goal

pub returns : goal.returns
returns c = all_from_yields_List (λ t. not (is_assert t.body)) _ _ _ c.all.ensures.ran (YieldsList-from_slice c.args.told.now cc) (λ x b q k. search (rules, tests))
