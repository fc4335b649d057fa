use Rattle.qp_calls.specs.Clauses.{entry_of}
use Rattle.qp_calls.proofs.Releasing.{again-pool, again-static}
use Rattle.qp_calls.proofs.entries.again.Goals as goal

pub returns-in-Static : goal.returns-in-Static
unfolding entry_of
returns-in-Static g c = rw c.in-Static.is (again-static c.in-Static.sig _ (rw c.in-Static.is at c.requires.stands))

pub returns-in-Pool : goal.returns-in-Pool
unfolding entry_of
returns-in-Pool g c =
    let stands = rw c.in-Pool.is at c.requires.stands in
    rw c.in-Pool.is (again-pool c.in-Pool.h c.inc.result _ _ stands.0 c.inc.ensures)
