use Rattle.std.proofs.Common.{◌∙◌, sym}
use Rattle.qp_check_knowledge.proofs.CutLemmas.{ends-with, none-ends}
use Rattle.qp_check_knowledge.proofs.told_cut.ends_with.Goals as goal

pub returns-in-Some : goal.returns-in-Some
returns-in-Some c = c.is_own.ensures ∙ sym (ends-with c.args.front.now c.in-Some.field-0-1.now c.in-Some.last.now c.in-Some.ensures.cases.0 c.args.o)

pub returns-in-None : goal.returns-in-None
returns-in-None c = sym (none-ends c.args.o c.args.front.now c.in-None.ensures.cases)
