use Rattle.std.proofs.Common.{◌≡◌, ◌<◌, ◌==◌, ℕ, false, slice_get, Some}
use Rattle.qp_wait_rings.specs.declared.cord.Cord.{Cord}
use Rattle.qp_wait_rings.proofs.cords.ring.Given as goal

-- no cord before this place is the object's
abbrev pub invariant-loop-place : goal.invariant-loop-place
invariant-loop-place l = (l.cords ≡ l.initial.cords) × ((k : ℕ) (x : Cord) → k < l.place → slice_get l.cords k ≡ Some x → (x.object == l.a) ≡ false)
