-- For which object a lane parks, by its place.
use Rattle.std.specs.Prelude.{◌≡◌, ℕ, ◌+◌, ◌-◌, ◌==◌, List, [], ◌∷◌, ◌++◌, if◌then◌else◌, slice_get, ⊤, IfSome}
use Rattle.std.specs.Option.{option_map_or}
use Rattle.qp_model.specs.declared.systems.ObjectDef.{ObjectDef}
use Rattle.qp_wait.specs.declared.lane.BellLane.{BellLane}

-- the object whose lane stands at this place; 0 for the first lane, and for those of sources
abbrev pub object_in_place : List ObjectDef → ℕ → ℕ
object_in_place ds n = if n == 0 then 0 else option_map_or (λ d. d.priority) (slice_get ds (n - 1)) 0

-- it parks for this object, if for any
abbrev pub ParksFor : ℕ → BellLane → Type 0
ParksFor me l = IfSome l.perch (λ p. p.object ≡ me)

-- one came behind these, which parks for this object, if for any
pub record AddsFor (me : ℕ) (old new : List BellLane) : Type 0 where
  pub one : BellLane
  pub are : new ≡ old ++ one ∷ []
  pub its : ParksFor me one

-- each of these lanes, the first of which stands at this place, parks for the object of its place, if for any
abbrev pub ParkInPlaces : List ObjectDef → ℕ → List BellLane → Type 0
ParkInPlaces ds n [] = ⊤
ParkInPlaces ds n (l ∷ ls) = ParksFor (object_in_place ds n) l × ParkInPlaces ds (n + 1) ls
