use Rattle.std.proofs.Common.{◌≡◌, ℕ, ◌<◌, get_or}
use Rattle.qp_replay.specs.Remaining.{record_place}
use Rattle.qp_replay.proofs.places.Places.position.Given as goal

abbrev pub invariant-loop-i : goal.invariant-loop-i
invariant-loop-i l = (k : ℕ) → k < l.i → get_or l.self k (record_place l.at.lane l.at.place) ≡ record_place l.at.lane l.at.place → ⊥
