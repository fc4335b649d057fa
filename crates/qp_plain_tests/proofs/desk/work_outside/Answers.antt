use Rattle.std.proofs.Common.{rules}
use Rattle.qp_calls.specs.declared.tokens.HeldEntry.TheVariants as token
use Rattle.qp_plain_tests.proofs.DeskLemmas.{by-goes, others-go, static-goes}
use Rattle.qp_plain_tests.proofs.desk.work_outside.Goals as goal

pub work-requires : goal.work-requires
work-requires g c = static-goes c.args.sys.now 4 _ _ (search rules) (by-goes c.args.sys.now _ c.args.me _ _ c.by-former.ensures.set c.requires)

pub returns-in-Whole : goal.returns-in-Whole
returns-in-Whole g c = by-goes c.args.sys.now _ _ _ _ c.by.ensures.set (others-go c.args.sys.now (token.Static 4) _ _ c.in-Whole.ensures)
