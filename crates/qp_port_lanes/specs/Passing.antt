-- What passing a `settle` comes to.
use Rattle.std.specs.Prelude.{◌≡◌, ℕ, ◌+◌, ◌<◌, ◌≤◌, ◌==◌, ◌&&◌, ◌⊎◌, Bool, true, false, List, [], ◌∷◌, ◌++◌, map, take, drop, cond, IsTrue, Some, None}
use Rattle.std.specs.declared.option.Option.{Option}
use Rattle.std.specs.List.{AllByRecursion, count_by, list_all, list_any}
use Rattle.qp_model.specs.declared.stimulus.Stim.{Stim}
use Rattle.qp_model.specs.declared.stimulus.Stim.TheVariants as stim
use Rattle.qp_model.specs.declared.systems.System.{System}
use Rattle.qp_model.specs.declared.words.Word.{Word}
use Rattle.qp_model.specs.declared.words.Word.TheVariants as word
use Rattle.qp_model.specs.declared.bodies.Body.{Body}
use Rattle.qp_model.specs.declared.bodies.Body.TheVariants as body
use Rattle.qp_model.specs.Sources.{AllDone, SeesEmpty, SeesEntry, SourceRuns, Tries, none_twice, priorities}
use Rattle.qp_model.specs.Told.{Told, ToldItem, for_object, plain}
use Rattle.qp_model.specs.Knowing.{told_alone}
use Rattle.qp_model.specs.Kernels.{may_try}
use Rattle.qp_model.specs.Ends.{is_end}
use Rattle.qp_model.specs.Lawful.{is_settle}
use Rattle.qp_model.specs.WordLaw.{is_object}
use Rattle.qp_calls.specs.declared.answers.Counts as counts
use Rattle.qp_calls.specs.LaneView.{LaneView, Counts, no_code}
use Rattle.qp_model_order.specs.SourceRun.{untold_all}
use Rattle.qp_kernel_turns.specs.Lanes.{SameLane}
use Rattle.qp_port_lanes.specs.declared.cursor.Cursor.{Cursor}
use Rattle.qp_port_phases.specs.declared.lanes.Passed.{Passed}
use Rattle.qp_port_phases.specs.declared.lanes.Passed.TheVariants as passed
use Rattle.qp_port_phases.specs.Passing.{AddsLook}
use Rattle.qp_port_lanes.specs.CursorAt.{IsCursorAt, IsKnownTry, at_settle_in, stimuli_done, mine, tries_in}
use Rattle.qp_port_lanes.specs.SourceTurning.{SourceStarves, SourceHasStopped}

-- looks that add nothing
pub record Glances (v w : LaneView) : Type 0 where
  pub told : w.told ≡ v.told
  pub by : w.by ≡ v.by
  pub rise : (x : Word) → v.mark x ≤ w.mark x
  pub shown : (x : Word) → w.mark x ≡ v.mark x → w.shown x ≡ v.shown x
  pub hands : w.hands ≡ v.hands
  pub stops : w.stops ≡ v.stops
  pub answered : w.answered ≡ v.answered
  pub asked : w.asked ≡ v.asked
  pub keeps : SameLane v w

-- the lane has seen the queue of p empty
pub record IsClear (v : LaneView) (p : ℕ) : Type 0 where
  pub f : ℕ
  pub l : ℕ
  pub m : ℕ
  pub mark : v.mark (word.Queue p) ≡ f + l + m
  pub shown : v.shown (word.Queue p) ≡ Counts f l m
  pub empty : f + l ≤ m

-- the queue of p showed an entry at these counts
pub record ShowsEntry (sys : System) (p : ℕ) (c : counts.Counts) (w : LaneView) : Type 0 where
  pub its : IsTrue (is_object sys p)
  pub some : c.m < c.f + c.l
  pub mark : w.mark (word.Queue p) ≡ c.f + c.l + c.m
  pub shown : w.shown (word.Queue p) ≡ Counts c.f c.l c.m

abbrev pub Glimpses : System → LaneView → LaneView → Option (ℕ × counts.Counts) → Type 0
Glimpses sys v w None = Glances v w × AllByRecursion (IsClear w) (priorities sys)
Glimpses sys v w (Some (p, c)) = Glances v w × ShowsEntry sys p c w

-- Records came; the hands are as they were, and no code was handed in or found.
pub record GoesAlong (v w : LaneView) : Type 0 where
  pub ts : List ToldItem
  pub told : w.told ≡ v.told ++ ts
  pub hands : w.hands ≡ v.hands
  pub stops : w.stops ≡ v.stops
  pub answered : w.answered ≡ v.answered
  pub asked : v.asked ≤ w.asked
  pub keeps : SameLane v w

-- A source's lane within a `settle`: whole stimuli, the `stim` of the `settle`, and so many tries of it.
pub record IsInSettle (sys : System) (ss : List Stim) (n : ℕ) (v : LaneView) : Type 0 where
  pub of : v.sys ≡ sys
  pub none : v.by ≡ 0
  pub front : List ToldItem
  pub tries : List Told
  pub told : v.told ≡ front ++ map (for_object 0) (plain (body.Stim (n + 1) 0) ∷ tries)
  pub rest : List Stim
  pub next : drop n ss ≡ stim.Settle ∷ rest
  pub count : ℕ
  pub fits : Tries (priorities sys) count tries
  pub runs : (kernel : ℕ) → may_try kernel ≡ true → SourceRuns sys kernel 1 (take n ss) AllDone (told_alone front)
  pub alone : list_all (λ i. i.of == 0) (untold_all v.told) ≡ true
  pub calm : list_any (λ i. is_end i.body) (untold_all v.told) ≡ false
  pub differ : none_twice (tries_in v.told) ≡ true
  pub known : AllByRecursion (IsKnownTry v) (tries_in v.told)
  pub hands : v.hands ≡ []

-- the `stim` of the `settle`, where it isn't under way
abbrev pub opening_of : Cursor → List Told
opening_of x = cond x.settling [] (plain (body.Stim (stimuli_done x + 1) 0) ∷ [])

-- the `settle` is under way, and what was seen empty is still known so
pub record Opens (sys : System) (x y : Cursor) (v w : LaneView) : Type 0 where
  pub cursor : y ≡ record x { begun = stimuli_done x + 1; settling = true }
  pub opened : w.told ≡ v.told ++ map (for_object 0) (opening_of x)
  pub here : IsInSettle sys (mine x) (stimuli_done x) w
  pub along : GoesAlong v w
  pub clear : (p : ℕ) → IsClear v p → IsClear w p

-- what a call leaves as it was, whether the `settle` was passed or not
pub record StaysAt (sys : System) (x y : Cursor) (v w : LaneView) : Type 0 where
  pub at : IsCursorAt sys y w
  pub stim : y.stim ≡ x.stim
  pub source : y.source ≡ x.source
  pub lane : y.lane ≡ x.lane
  pub along : GoesAlong v w

-- how many `settle` records a lane has
abbrev pub settles_of : List ToldItem → ℕ
settles_of told = count_by (λ i. is_settle i.body) (untold_all told)

-- each queue was seen empty by looks that added nothing
pub record SeesAllEmpty (sys : System) (v : LaneView) : Type 0 where
  pub then : LaneView
  pub glances : Glances v then
  pub clear : AllByRecursion (IsClear then) (priorities sys)

-- The `settle` is done: looks that add nothing showed each queue empty, and so did those that the lane tells of.
pub record HasPassed (sys : System) (x y : Cursor) (v w : LaneView) : Type 0 where
  pub stays : StaysAt sys x y v w
  pub calm : y.settling ≡ false
  pub one : stimuli_done y ≡ stimuli_done x + 1
  pub first : SeesAllEmpty sys v
  pub adds : AddsLook (SeesEmpty (priorities sys)) (opening_of x) v w
  pub settled : settles_of v.told + 1 ≤ settles_of w.told

-- looks that add nothing showed each queue empty, and one try ended at an entry
pub record TriedOnce (sys : System) (x y : Cursor) (v w : LaneView) : Type 0 where
  pub first : SeesAllEmpty sys v
  pub adds : AddsLook (SeesEntry (priorities sys)) (opening_of x) v w
  pub under_way : y.settling ≡ true

-- The queue of p showed an entry at these counts, and they are what the lane knows of it. A look that added nothing showed it, or one try.
pub record FindsEntry (sys : System) (p : ℕ) (c : counts.Counts) (x y : Cursor) (v w : LaneView) : Type 0 where
  pub stays : StaysAt sys x y v w
  pub same : stimuli_done y ≡ stimuli_done x
  pub stands : at_settle_in y ≡ true
  pub shows : ShowsEntry sys p c w
  pub told : ((w.told ≡ v.told) × (y ≡ x)) ⊎ TriedOnce sys x y v w

-- this record shows the queue of p empty
abbrev pub shows_empty : ℕ → Body → Bool
shows_empty p (body.Seen q f l m) = (q == p) && (f + l == m)
shows_empty p _ = false

-- the queue of p was seen empty: the lane knows so, or one of these records tells so
abbrev pub IsSeenClear : LaneView → List ToldItem → ℕ → Type 0
IsSeenClear w ts p = IsClear w p ⊎ (list_any (λ i. shows_empty p i.body) (untold_all ts) ≡ true)

-- No look of the call showed an entry: no record that came tells of one, and each queue was seen empty.
pub record FindsNone (sys : System) (v w : LaneView) : Type 0 where
  pub ts : List ToldItem
  pub told : w.told ≡ v.told ++ ts
  pub none : tries_in ts ≡ []
  pub clear : AllByRecursion (IsSeenClear w ts) (priorities sys)

-- It stopped as a turn does, with the hands as they were, and the `settle` isn't done. No look showed an entry.
pub record StopsThere (sys : System) (x y : Cursor) (v w : LaneView) : Type 0 where
  pub stops : SourceHasStopped sys x y v w
  pub hands : w.hands ≡ v.hands
  pub same : stimuli_done y ≡ stimuli_done x
  pub finds : FindsNone sys v w

-- so it did for want of memory
pub record StarvesThere (sys : System) (x y : Cursor) (v w : LaneView) : Type 0 where
  pub starves : SourceStarves v w
  pub hands : w.hands ≡ v.hands
  pub same : stimuli_done y ≡ stimuli_done x
  pub finds : FindsNone sys v w

abbrev pub CursorPasses : System → Cursor → Cursor → LaneView → LaneView → Passed → Type 0
CursorPasses sys x y v w passed.Yes = HasPassed sys x y v w
CursorPasses sys x y v w (passed.Found p now) = FindsEntry sys p now x y v w
CursorPasses sys x y v w passed.Stopped = StopsThere sys x y v w
CursorPasses sys x y v w passed.Memory = StarvesThere sys x y v w

-- No `settle` is passed but where the stop word was found unset by the lane, behind the looks that add nothing. The lane had handed in no code and found none.
abbrev pub PassesUnset : LaneView → Passed → Type 0
PassesUnset v passed.Yes = (no_code v.stops && no_code v.answered) ≡ true
PassesUnset v (passed.Found p now) = Unit {0}
PassesUnset v passed.Stopped = Unit {0}
PassesUnset v passed.Memory = Unit {0}
