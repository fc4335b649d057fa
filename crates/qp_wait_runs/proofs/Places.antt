-- Lanes that came in their places.
use Rattle.std.proofs.Common.{ℕ, ◌+◌, List, [], ◌∷◌, ◌++◌, length, subst, arith}
use Rattle.qp_model.specs.declared.systems.ObjectDef.{ObjectDef}
use Rattle.qp_wait.specs.declared.lane.BellLane.{BellLane}
use Rattle.qp_wait_runs.specs.Places.{ParkInPlaces, ParksFor, object_in_place}

pub parks-append : (ds : List ObjectDef) (n : ℕ) (ls : List BellLane) (l : BellLane) → ParkInPlaces ds n ls → ParksFor (object_in_place ds (n + length ls)) l → ParkInPlaces ds n (ls ++ l ∷ [])
parks-append ds n [] l h its = (subst (λ k. ParksFor (object_in_place ds k) l) (omega arith) its, tt)
parks-append ds n (x ∷ xs) l h its = (h.0, parks-append ds (n + 1) xs l h.1 (subst (λ k. ParksFor (object_in_place ds k) l) (omega arith) its))

pub parks-next : (ds : List ObjectDef) (ls : List BellLane) (l : BellLane) → ParkInPlaces ds 0 ls → ParksFor (object_in_place ds (length ls)) l → ParkInPlaces ds 0 (ls ++ l ∷ [])
parks-next ds ls l h its = parks-append ds 0 ls l h (subst (λ k. ParksFor (object_in_place ds k) l) (omega arith) its)
