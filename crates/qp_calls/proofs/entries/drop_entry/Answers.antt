use Rattle.qp_calls.specs.Clauses.{entry_of}
use Rattle.qp_calls.proofs.Releasing.{release-static}
use Rattle.qp_calls.proofs.entries.drop_entry.Goals as goal

pub returns-in-Static : goal.returns-in-Static
unfolding entry_of
returns-in-Static g c = rw c.in-Static.is (release-static _ _)

pub returns-in-Pool : goal.returns-in-Pool
unfolding entry_of
returns-in-Pool g c = rw c.in-Pool.is c.release.ensures
