-- What passing a `settle`, or a try, leaves of a lane.
use Rattle.std.specs.Prelude.{◌≡◌, ◌⊎◌, ℕ, ◌+◌, ◌<◌, List, [], ◌∷◌, ◌++◌, map, ⊤, IsTrue}
use Rattle.qp_model.specs.declared.bodies.Body.TheVariants as body
use Rattle.qp_model.specs.declared.words.Word.TheVariants as word
use Rattle.qp_model.specs.Sources.{SeesEmpty, SeesEntry, priorities}
use Rattle.qp_model.specs.Told.{Told, for_object, plain}
use Rattle.qp_model.specs.WordLaw.{is_object}
use Rattle.qp_model.specs.Stops as stop
use Rattle.qp_calls.specs.declared.answers.Counts as counts
use Rattle.qp_calls.specs.LaneView.{LaneView, Counts}
use Rattle.qp_port_phases.specs.declared.lanes.Passed.{Passed}
use Rattle.qp_port_phases.specs.declared.lanes.Passed.TheVariants as passed
use Rattle.qp_port_phases.specs.Stopping.{HasStarved, HasStopped, StopsNow}

-- the `stim` of the `settle`, where it comes in this call
abbrev pub IsOpening : List Told → Type 0
IsOpening [] = ⊤
IsOpening (t ∷ ts) = (place : ℕ) × (t ∷ ts ≡ plain (body.Stim place 0) ∷ [])

-- behind the records of the lane came these, a `settle`, and one look at the queues
pub record AddsLook (Fits : List Told → Type 0) (opening : List Told) (v w : LaneView) : Type 0 where
  pub one : List Told
  pub told : w.told ≡ v.told ++ map (for_object 0) (opening ++ plain body.Settle ∷ one)
  pub fits : Fits one

-- it is done: each queue was seen empty
pub record PassesHere (v w : LaneView) : Type 0 where
  pub opening : List Told
  pub opens : IsOpening opening
  pub adds : AddsLook (SeesEmpty (priorities v.sys)) opening v w
  pub codes : (w.stops ≡ v.stops) × (w.answered ≡ v.answered)

-- one try of it
pub record TriesOnce (v w : LaneView) : Type 0 where
  pub opening : List Told
  pub opens : IsOpening opening
  pub adds : AddsLook (SeesEntry (priorities v.sys)) opening v w

-- A look of this call showed the queue of p with an entry at these counts: one that added nothing, or the last of a try.
pub record FindsHere (p : ℕ) (c : counts.Counts) (v w : LaneView) : Type 0 where
  pub its : IsTrue (is_object v.sys p)
  pub some : c.m < c.f + c.l
  pub mark : w.mark (word.Queue p) ≡ c.f + c.l + c.m
  pub shown : w.shown (word.Queue p) ≡ Counts c.f c.l c.m
  pub told : (w.told ≡ v.told) ⊎ TriesOnce v w
  pub codes : (w.stops ≡ v.stops) × (w.answered ≡ v.answered)

-- a lane that had stopped before, or to which memory was refused, does nothing
abbrev pub PassesTo : LaneView → LaneView → Passed → Type 0
PassesTo v w passed.Yes = PassesHere v w
PassesTo v w (passed.Found p c) = FindsHere p c v w
PassesTo v w passed.Stopped = StopsNow v w ⊎ ((w ≡ v) × HasStopped v)
PassesTo v w passed.Memory = (w.stops ≡ stop.memory ∷ v.stops) ⊎ ((w ≡ v) × HasStarved v)
