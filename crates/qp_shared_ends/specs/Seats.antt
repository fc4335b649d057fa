-- Views that are cut in two, and what a look tells of all that was seen.
use Rattle.std.specs.Prelude.{◌≡◌, ℕ, Bool, List, [], ◌∷◌, ◌++◌, slice_set, IsTrue}
use mathlib.Core.Option.{some}
use lib.ListN.{get_elem?}
use Rattle.qp_model.specs.declared.systems.System.{System}
use Rattle.qp_model.specs.declared.words.Word.{Word}
use Rattle.qp_table.specs.Counting.{Each, without}
use Rattle.qp_table.specs.Rule.{Was, mark_in, is_number, Holds}
use Rattle.qp_table.specs.After.{empty_view, passing, handing, granting}
use Rattle.qp_table.specs.declared.view.Serve.{Serve}
use Rattle.qp_table.specs.declared.view.View.{View}
use Rattle.qp_table.specs.Words.{place_of, is_here, first_value}
use Rattle.qp_table.specs.Telling.{AreOfOne}
use Rattle.qp_side.specs.declared.view.SideView.{SideView}

-- a view may be cut in two
abbrev pub MayPart : System → ℕ → View → View → View → Type 0
MayPart sys id v left right = (words : List ℕ) (views : List View) → Holds sys words views → get_elem? views id ≡ some v → Holds sys words (slice_set views id left ++ right ∷ [])

-- the root without a lane number and without the objects that pass the test, and the new lane that has them
abbrev pub root_left : ℕ → (Serve → Bool) → View → View
root_left n t v = handing t (granting n v)

abbrev pub lane_new : ℕ → (Serve → Bool) → View → View
lane_new n t v = record empty_view { logs = record { number = n; recs = [] } ∷ []; serves = passing t v.serves }

-- a root that has taken nothing and posted nothing
pub record IsUnused (v : View) : Type 0 where
  pub takes : v.takes ≡ []
  pub serves : Each (λ (x : Serve). (x.lifos ≡ 0) × (x.takes ≡ 0)) v.serves

-- all that a view has seen is what words were, and so is what they are before all
pub record IsOnePast (sys : System) (v : View) : Type 0 where
  pub was : Was
  pub one : AreOfOne was v.seen
  pub first : (w : Word) → IsTrue (is_here sys w) → first_value sys w ≡ was (place_of w) (mark_in (place_of w) (first_value sys w))

-- a look that changes nothing tells this
abbrev pub StaysTold : (View → Type 0) → View → View → Type 0
StaysTold P v u = (u ≡ v) × P v

-- the root of the side table becomes the seat of a lane
abbrev pub as_lane_seat : ℕ → SideView → SideView
as_lane_seat n v = record v { view = record v.view { logs = record { number = n; recs = [] } ∷ []; lane_numbers = without (is_number n) v.view.lane_numbers } }

abbrev pub NumberTold : ℕ → SideView → SideView → Type 0
NumberTold n v u = u ≡ as_lane_seat n v
