-- How lanes stop: which codes they hand in, and which they find.
use Rattle.std.specs.Prelude.{◌≡◌, ◌⊎◌, ℕ, ◌<◌, ◌≤◌, List, [], ◌∷◌, length}
use Rattle.qp_calls.specs.LaneView.{LaneView}
use Rattle.qp_calls.specs.Notes.{last_code}
use Rattle.qp_model.specs.Stops as stop

-- no code was handed in, and none found
abbrev pub SameCodes : LaneView → LaneView → Type 0
SameCodes v w = (w.stops ≡ v.stops) × (w.answered ≡ v.answered) × (w.aside ≡ v.aside)

-- What a lane hears of codes isn't forgotten. Where it handed in one more, nothing is said of those that it found.
pub record Hears (v w : LaneView) : Type 0 where
  pub handed : length v.stops ≤ length w.stops
  pub found : (length v.answered ≤ length w.answered) ⊎ (length v.stops < length w.stops)

-- the code that it handed in last is that of its last record
pub record HandedLast (v : LaneView) : Type 0 where
  pub some : 0 < last_code v.told
  pub others : List ℕ
  pub stops : v.stops ≡ last_code v.told ∷ others

-- why a lane has stopped: its last record ends it, or it found the stop word set
abbrev pub HasStopped : LaneView → Type 0
HasStopped v = HandedLast v ⊎ (0 < length v.answered)

-- memory was refused to it
pub record HasStarved (v : LaneView) : Type 0 where
  pub others : List ℕ
  pub stops : v.stops ≡ stop.memory ∷ others

-- one of these lanes has stopped
abbrev pub AnyStopped : List LaneView → Type 0
AnyStopped [] = ⊥
AnyStopped (v ∷ vs) = HasStopped v ⊎ AnyStopped vs

-- it has stopped in this call
abbrev pub StopsNow : LaneView → LaneView → Type 0
StopsNow v w = ((0 < last_code w.told) × (w.stops ≡ last_code w.told ∷ v.stops)) ⊎ ((length v.answered < length w.answered) × (w.stops ≡ v.stops))
