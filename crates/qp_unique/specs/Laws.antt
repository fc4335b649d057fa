-- The laws of what comes next.
use Rattle.std.specs.Prelude.{◌≡◌, ℕ, true, false, List, [], ◌∷◌, ◌++◌, map, IsTrue, Some, ◌⊎◌}
use Rattle.std.specs.List.{list_any, AllByRecursion}
use Rattle.std.specs.declared.option.Option.{Option}
use Rattle.qp_model.specs.declared.systems.System.{System}
use Rattle.qp_model.specs.declared.record.Rec.{Rec}
use Rattle.qp_model.specs.declared.stimulus.Stim.{Stim}
use Rattle.qp_model.specs.declared.journals.Journal.{Journal}
use Rattle.qp_model.specs.declared.bodies.Entry.{Entry}
use Rattle.qp_model.specs.Sound.{IsSound}
use Rattle.qp_model.specs.Ends.{is_spill}
use Rattle.qp_model.specs.History.{all_items, lane_items}
use Rattle.qp_model.specs.Kernels.{has_one_order}
use Rattle.qp_model.specs.Lawful.{Lawful}
use Rattle.qp_model.specs.Record.{Item}
use Rattle.qp_model.specs.Knowing.{told, event_of_entry}
use Rattle.qp_model.specs.Places.{RecordPlace, items_at, in_order}
use Rattle.qp_model.specs.WordLaw.{Words}
use Rattle.qp_unique.specs.Fronts.{held_after, names_its}
use Rattle.qp_check_course.specs.Followable.{IsFollowable}
use Rattle.qp_unique.specs.Tidy.{IsTidy, LacksStimulus, has_short_lanes}
use Rattle.qp_model.specs.Told.{Told}
use Rattle.qp_check_calls.specs.CallState.{CallStage}
use Rattle.qp_check_calls.specs.CallStateNext.{stage_next}
use Rattle.qp_unique.specs.Held.{WordsHeld, IsCounted, MayComeNext}
use Rattle.qp_model.specs.Pieces.{Piece}
use Rattle.qp_model.specs.Acts.{Actor}
use Rattle.qp_check_course.specs.Machine.{State, state_next as piece_next}
use Rattle.qp_check_ends.specs.Underway.{Underway, underway_next}
use Rattle.qp_unique.specs.NextInCall.{stage_told}
use Rattle.qp_unique.specs.NextInCourse.{piece_told, PieceComes}
use Rattle.qp_unique.specs.NextInSource.{underway_told}

-- a record by which a call goes on, and which may come next by what the words hold, is the one of `stage_told`
abbrev pub CallGoesOnAlone : Type 0
CallGoesOnAlone =
    (sys : System) (h : WordsHeld) (o : ℕ) (now : Option Entry) (kept : List Entry) (s next : CallStage) (t : Told) → IsCounted h → MayComeNext sys h o t
    → stage_next sys o now kept s t.body t.known ≡ Some next → stage_told sys h o now kept s ≡ Some t

-- so is a piece by which an object's course goes on
abbrev pub CourseGoesOnAlone : Type 0
CourseGoesOnAlone =
    (sys : System) (h : WordsHeld) (a : Actor) (s later : State) (p : Piece) → IsCounted h → PieceComes sys h a.o p
    → piece_next sys a s p ≡ Some later → piece_told sys h a s ≡ Some p

-- and a record by which a stimulus goes on
abbrev pub StimulusGoesOnAlone : Type 0
StimulusGoesOnAlone =
    (sys : System) (h : WordsHeld) (kernel : ℕ) (u later : Underway) (t : Told) → IsCounted h → MayComeNext sys h 0 t
    → underway_next sys kernel u t ≡ Some later → underway_told sys h u ≡ Some t

-- Each record of a run, in an order in which each number is that of its word's operations before it, comes next by what the words hold
-- after the records before it, where it names words of the system. An entry's event is the one that the whole run tells.
abbrev pub RecordsComeNext : Type 0
RecordsComeNext =
    (sys : System) (lanes : List (List Rec)) (order : List RecordPlace) → Words sys lanes → IsTrue (in_order [] (items_at lanes order))
    → (xs : List Item) (x : Item) (ys : List Item) → items_at lanes order ≡ xs ++ x ∷ ys → IsTrue (names_its sys x.of x.body) → (ceiling : ℕ)
    → MayComeNext sys (held_after sys (event_of_entry (record { sys = sys; items = all_items lanes })) ceiling xs) x.of
    (told (record { sys = sys; items = all_items lanes }) x.of ceiling x.body)

-- Of two lawful and tidy journals of runs with one thread, of one kernel, one system, its stimuli and a budget, where no lane of the first
-- is longer than is free of a `spill`, the second has none either; or its lane 0 ended with one, and its last look lacks its stimulus.
abbrev pub ShortJournalsLeaveNoSpill : Type 0
ShortJournalsLeaveNoSpill =
    (sys : System) (stimuli : List (List Stim)) (i j : Journal) → IsSound sys → AllByRecursion (IsFollowable sys) sys.objects
    → Lawful sys stimuli i → Lawful sys stimuli j → has_one_order i.kernel ≡ true → j.kernel ≡ i.kernel → i.budget ≡ j.budget → IsTrue (has_short_lanes i) → IsTidy sys i → IsTidy sys j
    → (list_any (λ x. is_spill x.body) (all_items j.lanes) ≡ false) ⊎ LacksStimulus sys stimuli j

-- two such journals without a `spill`, both tidy, tell the same
abbrev pub TidyJournalsAreOne : Type 0
TidyJournalsAreOne =
    (sys : System) (stimuli : List (List Stim)) (i j : Journal) → IsSound sys → AllByRecursion (IsFollowable sys) sys.objects
    → Lawful sys stimuli i → Lawful sys stimuli j → has_one_order i.kernel ≡ true → j.kernel ≡ i.kernel → i.budget ≡ j.budget
    → list_any (λ x. is_spill x.body) (all_items i.lanes) ≡ false → list_any (λ x. is_spill x.body) (all_items j.lanes) ≡ false → IsTidy sys i → IsTidy sys j
    → (map (λ lane. lane_items lane) i.lanes ≡ map (λ lane. lane_items lane) j.lanes) × (i.end ≡ j.end)
