use Rattle.qp_replay.proofs.CycleLemmas.{Walked, unmet}
use Rattle.qp_replay.proofs.cycle.cycle.Given as goal

abbrev pub invariant-walk : goal.invariant-walk
invariant-walk l = Walked l.remaining l.met.items l.walk l.lane

abbrev pub decreases-walk : goal.decreases-walk
decreases-walk l = unmet l.met.items
