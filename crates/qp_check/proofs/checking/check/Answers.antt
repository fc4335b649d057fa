use Rattle.qp_check.specs.Judged.{trials}
use Rattle.qp_check.proofs.CheckLemmas.{said-right}
use Rattle.qp_check.proofs.checking.check.Goals as goal

pub returns-in-Ok : goal.returns-in-Ok
returns-in-Ok c = said-right (trials c.args.sys.now c.args.stim.now c.args.j.now) c.in-Ok.broken c.verdict_of.result c.verdict_of.ensures c.in-Ok.ensures
