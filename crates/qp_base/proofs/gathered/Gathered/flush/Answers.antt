use Rattle.qp_base.proofs.GatheringLemmas.{flushed, on-ok}
use Rattle.qp_base.proofs.gathered.Gathered.flush.Goals as goal

pub returns-in-Open-clause-ok : goal.returns-in-Open-clause-ok
returns-in-Open-clause-ok g c = on-ok c.hand_on.result _ _ _ (flushed _ _ _ _ _ c.hand_on.ensures.told) c.hand_on.ensures.going c.hand_on.ensures.held
