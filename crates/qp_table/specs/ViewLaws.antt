-- The laws of what is seen of a lane.
use Rattle.std.specs.Prelude.{◌≡◌, ℕ, ◌≤◌, List, [], ◌∷◌, ◌++◌, length, slice_index, false, IsTrue}
use Rattle.std.specs.List.{list_any}
use Rattle.qp_model.specs.declared.record.Rec.{Rec}
use Rattle.qp_model.specs.declared.systems.System.{System}
use Rattle.qp_model.specs.declared.words.Word.{Word}
use Rattle.qp_model.specs.declared.bodies.Entry.{Entry}
use Rattle.qp_model.specs.History.{same_word}
use Rattle.qp_model.specs.Told.{Event, ToldItem}
use Rattle.qp_table.specs.Rule.{Fitting, Was, mark_in, is_serve}
use Rattle.qp_table.specs.After.{FromAnyState}
use Rattle.qp_table.specs.declared.view.View.{View}
use Rattle.qp_calls.specs.LaneView.{LaneView, Shown, Gains, Looks, own_after, is_known}
use Rattle.qp_table.specs.Words.{place_of, is_here, first_value, shown_seen, as_shown, Ahead}
use Rattle.qp_table.specs.Lane.{LaneContext, lane_of, lane_mark, event_seen, own_recs, on_table_of, tell_lane}
use Rattle.qp_table.specs.Telling.{Saw, OwnTold, Rises, Touches, TouchesTwo, is_on_table, AreOfOne, Meets}

-- a word that the system has is found as no view has seen it later, and with as many operations as one has seen it, as it was seen
abbrev pub FoundWordsAreAhead : Type 0
FoundWordsAreAhead = FromAnyState (λ sys words views holds id v. (w : Word) → IsTrue (is_here sys w) → Ahead sys w v (slice_index words (place_of w)))

-- a glance more at such a word is all that is seen anew
abbrev pub GlancesAreSeen : Type 0
GlancesAreSeen = (sys : System) (w : Word) (v u : View) (x : ℕ) → Fitting sys → IsTrue (is_here sys w) → u.seen ≡ v.seen ++ record { word = place_of w; value = x } ∷ [] → Ahead sys w v x → Saw sys w v u x

-- glances one behind another, the later ones at what the former ones showed
abbrev pub GlancesFollow : Type 0
GlancesFollow = (sys : System) (w : Word) (v u z : View) (x y : ℕ) → Saw sys w v u x → Saw sys w u z y → Saw sys w v z y

-- the word's mark rises, what it shows is what was seen, and all else stays
abbrev pub SeenWordsRise : Type 0
SeenWordsRise = (sys : System) (side : Word → ℕ) (w : Word) (v u : View) (x : ℕ) → Saw sys w v u x
    → Rises w (mark_in (place_of w) x) (lane_mark sys v.seen side) (lane_mark sys u.seen side) (shown_seen sys v.seen) (shown_seen sys u.seen) × (shown_seen sys u.seen w ≡ as_shown w x)

-- the mark of a signal or a timer rises
abbrev pub SideWordsRise : Type 0
SideWordsRise = (sys : System) (v : View) (w : Word) (k : ℕ) (old new : Word → ℕ) → is_on_table w ≡ false → new w ≡ k → old w ≤ k → ((y : Word) → same_word w y ≡ false → new y ≡ old y)
    → Rises w k (lane_mark sys v.seen old) (lane_mark sys v.seen new) (shown_seen sys v.seen) (shown_seen sys v.seen)

-- the objects served, and the events of the entries that were known, are those before
pub record ViewKeeps (before : LaneView) (v u : View) : Type 0 where
  pub serves : (o : ℕ) → list_any (is_serve o) u.serves ≡ list_any (is_serve o) v.serves
  pub events : (e : Entry) → IsTrue (is_known before e) → event_seen u.contents e ≡ event_seen v.contents e

-- a record more, which touches the word whose mark rose
abbrev pub RecordsGain : Type 0
RecordsGain = (at : LaneContext) (side : Word → ℕ) (told : List ToldItem) (spare more : ℕ) (v u : View) (w : Word) (k : ℕ) (t : ToldItem)
    → Rises w k (lane_mark at.sys v.seen at.side) (lane_mark at.sys u.seen side) (shown_seen at.sys v.seen) (shown_seen at.sys u.seen) → Touches w k t → ViewKeeps (lane_of at told spare v) v u
    → Gains (t ∷ []) (lane_of at told spare v) (lane_of (record at { side = side }) (told ++ t ∷ []) more u)

-- and one of a block that is given out, which touches two
abbrev pub GivesGain : Type 0
GivesGain = (at : LaneContext) (told : List ToldItem) (spare more : ℕ) (v z u : View) (w b : Word) (k j : ℕ) (t : ToldItem)
    → Rises w k (lane_mark at.sys v.seen at.side) (lane_mark at.sys z.seen at.side) (shown_seen at.sys v.seen) (shown_seen at.sys z.seen)
    → Rises b j (lane_mark at.sys z.seen at.side) (lane_mark at.sys u.seen at.side) (shown_seen at.sys z.seen) (shown_seen at.sys u.seen) → TouchesTwo w k b j t → ViewKeeps (lane_of at told spare v) v u
    → Gains (t ∷ []) (lane_of at told spare v) (lane_of at (told ++ t ∷ []) more u)

-- a look without a record
abbrev pub LooksShow : Type 0
LooksShow = (at : LaneContext) (side : Word → ℕ) (told : List ToldItem) (spare : ℕ) (v u : View) (w : Word) (k : ℕ) (x : Shown)
    → Rises w k (lane_mark at.sys v.seen at.side) (lane_mark at.sys u.seen side) (shown_seen at.sys v.seen) (shown_seen at.sys u.seen) → shown_seen at.sys u.seen w ≡ x → ViewKeeps (lane_of at told spare v) v u
    → Looks w k x (lane_of at told spare v) (lane_of (record at { side = side }) told spare u)

-- a view that has seen what another has, where all that was seen is what words were
abbrev pub MeetsSeeBoth : Type 0
MeetsSeeBoth = (at other : LaneContext) (told theirs : List ToldItem) (spare more : ℕ) (v u : View) (was : Was) → other.sys ≡ at.sys → AreOfOne was (v.seen ++ u.seen)
    → ((w : Word) → IsTrue (is_here at.sys w) → first_value at.sys w ≡ was (place_of w) (mark_in (place_of w) (first_value at.sys w)))
    → Meets (lane_of at told spare v) (lane_of other theirs more u) (lane_of at told spare (record v { seen = v.seen ++ u.seen }))

-- the last-in posts and takes of a queue that the lane serves are those among its records
abbrev pub OwnCountsAreTold : Type 0
OwnCountsAreTold = (a l m : ℕ) (event : Entry → Event) (recs : List Rec) (numbers : List ℕ) (v : View) → length numbers ≡ length recs → length v.logs ≡ 1 → on_table_of recs ≡ own_recs v → OwnTold a l m v → IsTrue (list_any (is_serve a) v.serves)
    → (l ≡ (own_after a (record { l = 0; m = 0 }) (tell_lane event recs numbers)).l) × (m ≡ (own_after a (record { l = 0; m = 0 }) (tell_lane event recs numbers)).m)
