use Rattle.qp_wait_rings.proofs.CordLemmas.{HavePulled}
use Rattle.qp_wait_rings.proofs.cords.ring_all.Given as goal

-- the cords before this place gave one note more
abbrev pub invariant-loop-place : goal.invariant-loop-place
invariant-loop-place l = HavePulled l.place l.initial.cords l.cords
