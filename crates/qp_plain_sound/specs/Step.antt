-- One call that adds a record to a lane of a world.
use Rattle.std.specs.Prelude.{◌≡◌, ℕ, ◌+◌, ◌<◌, ◌++◌, List, [], ◌∷◌, length}
use Rattle.qp_model.specs.declared.record.Rec.{Rec}
use Rattle.qp_model.specs.declared.systems.System.{System}
use Rattle.qp_model.specs.declared.bodies.Body.{Body}
use Rattle.qp_model.specs.Record.{item_of}
use Rattle.qp_calls.specs.LaneView.{LaneView, Purse}
use Rattle.qp_calls.specs.Tokens.{Token}
use Rattle.qp_plain_sound.specs.Log.{with_record}
use Rattle.qp_plain_sound.specs.Sound.{SoundWorld, hands_in}
use Rattle.qp_plain_sound.specs.May.{May}
use Rattle.qp_plain_sound.specs.View.{view_of}

-- a record was added to lane `at`
pub record Grown (lanes : List (List Rec)) (order : List ℕ) (at : ℕ) (r : Rec) (more : List (List Rec)) (longer : List ℕ) : Type 0 where
  pub within : at < length lanes
  pub lanes_are : more ≡ with_record lanes at r
  pub order_is : longer ≡ order ++ at ∷ []

-- A call: the world before it, the lane chosen, the record that it adds, and the world after it.
pub record WorldStep : Type 0 where
  pub sys : System
  pub lanes : List (List Rec)
  pub order : List ℕ
  pub at : ℕ
  pub rec : Rec
  pub more : List (List Rec)
  pub longer : List ℕ
  -- the lane's spare before it and after it
  pub spare : ℕ
  pub left : ℕ
  pub by : ℕ
  pub stops : List ℕ
  pub answered : List ℕ
  pub purses : List Purse

-- what contracts see of the lane before the call
abbrev pub before : WorldStep → LaneView
before s = view_of s.sys s.lanes s.order s.at s.spare s.by s.stops s.answered s.purses

-- and after it
abbrev pub behind : WorldStep → LaneView
behind s = view_of s.sys s.more s.longer s.at s.left s.by s.stops s.answered s.purses

-- the hands before it
abbrev pub hands_before : WorldStep → List Token
hands_before s = hands_in s.sys s.lanes s.order

-- the record, of object o, and with it the lane
pub record Extends (s : WorldStep) (o : ℕ) (b : Body) : Type 0 where
  pub world : SoundWorld s.sys s.lanes s.order
  pub grown : Grown s.lanes s.order s.at s.rec s.more s.longer
  pub says : item_of s.rec ≡ record { of = o; body = b }
  pub less : s.left + 1 ≡ s.spare

abbrev pub MayCome : WorldStep → ℕ → Body → Type 0
MayCome s o b = May s.sys s.lanes (hands_before s) o b
