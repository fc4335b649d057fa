-- Where a lane parked, and by which cords it says its farewells.
use Rattle.std.specs.Prelude.{◌≡◌, ℕ, ◌+◌, ◌==◌, Bool, true, false, ◌&&◌, List, [], map, slice_get, Some, None}
use Rattle.std.specs.declared.option.Option.{Option}
use Rattle.std.proofs.Props.{props}
use Rattle.std.specs.List.{list_all}
use Rattle.std.specs.Option.{option_map_or}
use Rattle.crossbeam_utils.specs.Token.{parker_view}
use Rattle.qp_model.specs.declared.bodies.Body.{Body}
use Rattle.qp_model.specs.declared.bodies.Body.TheVariants.{Nil, Seen}
use Rattle.qp_model.specs.Sources.{priorities}
use Rattle.qp_model.specs.Told.{ToldItem}
use Rattle.qp_calls.specs.LaneView.{LaneView}
use Rattle.qp_wait_rings.specs.declared.cord.Cord.{Cord}
use Rattle.qp_wait.specs.declared.perch.Perch.{Perch}

-- by each of these so many notes were given
abbrev pub have_all : ℕ → List Cord → Bool
have_all n cs = list_all (λ c. c.pulls == n) cs

-- a look that found the queue of the object empty: a `nil` of it, or a `seen` of its queue
abbrev pub is_empty_look : ℕ → ℕ → Body → Bool
is_empty_look me o (Nil f l m) = (o == me) && (f + l == m)
is_empty_look me o (Seen p f l m) = (p == me) && (f + l == m)
is_empty_look me o _ = false

-- such a look stands at this place
abbrev pub is_park_place : ℕ → List ToldItem → ℕ → Bool
is_park_place me told n = option_map_or (λ t. is_empty_look me t.of t.told.body) (slice_get told n) false

-- the object for which a lane parks, 0 for none
abbrev pub parked_object : Option Perch → ℕ
parked_object None = 0
parked_object (Some p) = p.object

abbrev pub parks_of : Option Perch → List ℕ
parks_of None = []
parks_of (Some p) = p.parks.items

-- there is a parker, of this object
abbrev pub HasPerch : ℕ → Option Perch → Type 0
HasPerch me None = ⊥
HasPerch me (Some p) = p.object ≡ me

-- the parks that its pass shows
abbrev pub parks_shown : Option Perch → ℕ
parks_shown None = 0
parks_shown (Some p) = (parker_view p.pass).parks

-- the lane has a cord for each object, and parked behind such looks alone
pub record HasParked (cords : List Cord) (perch : Option Perch) (v : LaneView) : Type 0 where
  pub objects : map (λ c. c.object) cords ≡ priorities v.sys
  pub places : list_all (is_park_place (parked_object perch) v.told) (parks_of perch) ≡ true

pub HasParked-prop : (cords : List Cord) (perch : Option Perch) (v : LaneView) → IsProp (HasParked cords perch v)
HasParked-prop cords perch v = hlevel props
