use Rattle.std.proofs.Common.{sym}
use Rattle.qp_model.proofs.TellingKindLemmas.{ceiling-stays}
use Rattle.qp_model.proofs.telling.ceiling_after.Goals as goal

pub returns : goal.returns
returns c = sym (ceiling-stays c.args.r.now c.if-r-eq-LOCK.false c.if-r-eq-UNLOCK.false c.args.ceiling)
