-- Lawful journals.
use Rattle.std.specs.Prelude.{◌≡◌, ℕ, ◌+◌, ◌==◌, nat_le, Bool, true, false, not, ◌&&◌, ◌||◌, ◌⊎◌, List, [], ◌∷◌, ◌++◌, map, length, drop, if◌then◌else◌, IsTrue, Some, None, ⊤}
use Rattle.std.specs.declared.option.Option.{Option}
use Rattle.std.specs.Bool.{MatchBool}
use Rattle.std.specs.Option.{unwrap_or, is_some}
use Rattle.std.specs.List.{filter, list_any, count_by, AllByRecursion}
use Rattle.qp_model.specs.declared.stimulus.Stim.{Stim}
use Rattle.qp_model.specs.declared.systems.System.{System}
use Rattle.qp_model.specs.declared.systems.ObjectDef.{ObjectDef}
use Rattle.qp_model.specs.declared.journals.Journal.{Journal}
use Rattle.qp_model.specs.declared.bodies.Entry.{Entry}
use Rattle.qp_model.specs.declared.bodies.Body.{Body}
use Rattle.qp_model.specs.declared.bodies.Body.TheVariants as body
use Rattle.qp_model.specs.Record.{Item}
use Rattle.qp_model.specs.Told.{Told}
use Rattle.qp_model.specs.History.{all_items, lane_items}
use Rattle.qp_model.specs.WordLaw.{Words}
use Rattle.qp_model.specs.Knowing.{Facts}
use Rattle.qp_model.specs.Kernels.{sim, qk, port, qv, has_one_order}
use Rattle.qp_model.specs.Home.{lane_at, home_of, by_object, home_records}
use Rattle.qp_model.specs.Deferral.{kept_after}
use Rattle.qp_model.specs.Pieces.{Piece, records_in}
use Rattle.qp_model.specs.Course.{Cut, Whole, Stopped, Anywhere, FollowsTo}
use Rattle.qp_model.specs.ObjectShape.{HasShape}
use Rattle.qp_model.specs.HomeLane.{is_home_lane}
use Rattle.qp_model.specs.Ends.{is_assert, is_turn_mark, is_spill, spills_in, may_cut, spills_cut}
use Rattle.qp_model.specs.KernelLane.{Setting, Reading, lane_read, is_whole_reading}
use Rattle.qp_model.specs.Points.{lane_pieces}
use Rattle.qp_model.specs.Sources.{AllDone, BeforeStimulus, InStimulus, SourceRuns, IsSourceLane, source_records}
use Rattle.qp_model.specs.OneOrder.{OneThread, IsOneOrder, is_stim_at}
use Rattle.qp_model.specs.End.{HasEnd}

unfoldable pub facts_of : System → Journal → Facts
unfolding all_items
facts_of sys j = record { sys = sys; items = all_items j.lanes }

-- the lane's last record is a `spill`, right behind a record of o
abbrev pub spill_cuts : ℕ → List Item → Bool
spill_cuts o [] = false
spill_cuts o (i ∷ []) = false
spill_cuts o (i ∷ j ∷ []) = is_spill j.body && (i.of == o)
spill_cuts o (i ∷ j ∷ k ∷ is) = spill_cuts o (j ∷ k ∷ is)

-- how the list of an object may be cut: not at all where the run didn't stop early; by a `spill` anywhere, but only the object
-- whose record stands right before it; else where a lane may stop
unfoldable pub cut_of : System → Journal → ℕ → Cut
unfolding home_of lane_items
cut_of sys j o = if may_cut j.end then (if spill_cuts o (lane_items (lane_at j (home_of sys j o))) then Anywhere else Stopped) else Whole

-- the records of an object are groups that fit calls, and in `port` its home lane has no others but looks at its own queue between them,
-- where it has taken its budget
pub record ShapesHold (sys : System) (j : Journal) (d : ObjectDef) : Type 0 where
  pub shape : HasShape sys d.priority (j.kernel == port) (cut_of sys j d.priority) (home_records (facts_of sys j) j d.priority)
  pub home : IsTrue (not (j.kernel == port) || is_home_lane d.priority j.budget (may_cut j.end) (lane_items (lane_at j (home_of sys j d.priority))))

-- each record of deferral stands where the deferred list allows it
unfoldable pub deferral_holds : System → Journal → ObjectDef → Bool
unfolding by_object facts_of kept_after
deferral_holds sys j d = is_some (kept_after d.defer [] (by_object (facts_of sys j) j d.priority))

-- the records of a start and of steps
abbrev pub dispatched : List Told → List Told
dispatched ts = filter (λ t. not (is_turn_mark t.body)) ts

-- the records of an object's start and steps follow its chart
unfoldable pub CourseHolds : System → Journal → ObjectDef → Type 0
unfolding FollowsTo records_in by_object cut_of facts_of
CourseHolds sys j d =
    (ps : List Piece) × (records_in ps ≡ dispatched (by_object (facts_of sys j) j d.priority)) × FollowsTo sys d (cut_of sys j d.priority) ps

-- what is asked of one object
pub record ObjectHolds (sys : System) (j : Journal) (d : ObjectDef) : Type 0 where
  pub shapes : ShapesHold sys j d
  pub deferral : IsTrue (deferral_holds sys j d)
  pub course : CourseHolds sys j d

-- how many lanes stand before those of the sources
abbrev pub lanes_before : System → Journal → ℕ
lanes_before sys j = if j.kernel == port then length sys.objects + 1 else 1

-- the lanes of the sources
unfoldable pub source_lanes : System → Journal → List (List Item)
unfolding lane_items
source_lanes sys j = map (λ lane. lane_items lane) (drop (lanes_before sys j) j.lanes)

-- a look has a stimulus where the lane of a source has a `stim` with its number
unfoldable pub setting_of : System → Journal → Setting
unfolding source_lanes
setting_of sys j = record {
  sys = sys;
  kernel = j.kernel;
  has_stimulus = λ k. list_any (λ lane. list_any (λ i. is_stim_at k i.body) lane) (source_lanes sys j);
}

abbrev pub is_settle : Body → Bool
is_settle body.Settle = true
is_settle _ = false

-- at most one more whole row at the base has no step than `settle` records stand in the journal; a lane that stopped early has
-- started all objects, unless an assertion or a `spill` ended it, and only so may a `spill` stand, as its last record
abbrev pub reading_holds : Journal → List Item → ℕ → Option Reading → Bool
reading_holds j lane settles None = false
reading_holds j lane settles (Some k) =
    ((j.kernel == sim) || (j.kernel == qk) || (j.kernel == qv)) && nat_le k.idle (settles + 1) && spills_cut j.end lane
    && (if may_cut j.end then ((length k.unstarted == 0) || list_any (λ i. is_assert i.body) lane) else is_whole_reading j.kernel k)

-- lane 0 is a kernel lane, and in each object's steps a row of looks stands after each action and each post of a publication
pub record KernelHolds (sys : System) (j : Journal) : Type 0 where
  pub lane : IsTrue (reading_holds j (lane_items (lane_at j 0)) (count_by (λ i. is_settle i.body) (all_items j.lanes)) (lane_read (setting_of sys j) (lane_items (lane_at j 0))))
  pub points : AllByRecursion (λ d. FollowsTo sys d (cut_of sys j d.priority) (lane_pieces (facts_of sys j) (setting_of sys j) d.priority (lane_items (lane_at j 0)))) sys.objects

-- the lanes of these sources, from lane n on
unfoldable pub SourceLanes : System → Journal → ℕ → List (List Stim) → Type 0
unfolding facts_of lane_items
SourceLanes sys j n [] = ⊤
SourceLanes sys j n (ss ∷ more) = IsSourceLane (facts_of sys j) j.kernel j.end ss (lane_items (lane_at j n)) × SourceLanes sys j (n + 1) more

-- where the `spill` of a source stands: within its stimulus, or behind a whole one
unfoldable pub SpillStands : System → Journal → Bool → List Stim → List Item → Type 0
unfolding SourceRuns facts_of source_records
SpillStands sys j true ss lane = SourceRuns sys j.kernel 1 ss InStimulus (source_records (facts_of sys j) lane)
SpillStands sys j false ss lane =
    SourceRuns sys j.kernel 1 ss BeforeStimulus (source_records (facts_of sys j) lane) ⊎ SourceRuns sys j.kernel 1 ss AllDone (source_records (facts_of sys j) lane)

unfoldable pub SpillsStand : System → Journal → Bool → ℕ → List (List Stim) → Type 0
unfolding SpillStands lane_items
SpillsStand sys j cuts n [] = ⊤
SpillsStand sys j cuts n (ss ∷ more) =
    MatchBool (spills_in (lane_items (lane_at j n))) (SpillStands sys j cuts ss (lane_items (lane_at j n))) ⊤ × SpillsStand sys j cuts (n + 1) more

unfoldable pub one_thread : System → List (List Stim) → Journal → Bool → OneThread
unfolding lane_items source_lanes
one_thread sys stimuli j cuts = record { sys = sys; stimuli = stimuli; lane0 = lane_items (lane_at j 0); sources = source_lanes sys j; cuts = cuts }

-- the journal of a run with one thread has one order
unfoldable pub OrderHolds : System → List (List Stim) → Journal → Type 0
unfolding SpillsStand one_thread
OrderHolds sys stimuli j = (cuts : Bool) × SpillsStand sys j cuts 1 stimuli × IsOneOrder (one_thread sys stimuli j cuts)

-- what is asked of the sources: each of its lane, in `port` an empty lane 0, no lanes more, and in a run with one thread its order
pub record SourcesHold (sys : System) (stimuli : List (List Stim)) (j : Journal) : Type 0 where
  pub lanes : SourceLanes sys j (lanes_before sys j) stimuli
  pub empty : IsTrue (not (j.kernel == port) || (length (lane_at j 0) == 0))
  pub count : IsTrue (length j.lanes == lanes_before sys j + length stimuli)
  pub order : MatchBool (has_one_order j.kernel) (OrderHolds sys stimuli j) ⊤

-- the deferred lists of these objects
unfoldable pub deferred_of : System → Journal → List ObjectDef → List Entry
unfolding by_object facts_of kept_after
deferred_of sys j [] = []
deferred_of sys j (d ∷ ds) = unwrap_or (kept_after d.defer [] (by_object (facts_of sys j) j d.priority)) [] ++ deferred_of sys j ds

unfoldable pub EndHolds : System → Journal → Type 0
unfolding deferred_of
EndHolds sys j = HasEnd sys j (deferred_of sys j sys.objects)

-- A lawful journal of a system under its stimuli: every word keeps its law, every object has its shapes, its deferred list and its
-- course, a kernel has its lane, the sources have theirs, and the end is as it says.
pub record Lawful (sys : System) (stimuli : List (List Stim)) (j : Journal) : Type 0 where
  pub words : Words sys j.lanes
  pub objects : AllByRecursion (ObjectHolds sys j) sys.objects
  pub kernel : MatchBool (j.kernel == port) ⊤ (KernelHolds sys j)
  pub sources : SourcesHold sys stimuli j
  pub end : EndHolds sys j
