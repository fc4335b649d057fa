-- The laws of lawful journals, in the words of the subject.
use Rattle.std.specs.Prelude.{◌≡◌, ◌≢◌, ℕ, ◌+◌, ◌<◌, ◌≤◌, ◌==◌, ◌⊎◌, false, List, [], ◌∷◌, ◌++◌, if◌then◌else◌, IsTrue, Some, None, ⊤}
use Rattle.std.specs.declared.option.Option.{Option}
use Rattle.std.specs.List.{list_any, filter_map, AllByRecursion}
use Rattle.qp_chart.specs.StateTree.{has}
use Rattle.qp_chart.specs.declared.checked.Chart.{Chart}
use Rattle.qp_model.specs.declared.stimulus.Stim.{Stim}
use Rattle.qp_model.specs.declared.words.Word.TheVariants as word
use Rattle.qp_model.specs.declared.systems.System.{System}
use Rattle.qp_model.specs.declared.systems.ObjectDef.{ObjectDef}
use Rattle.qp_model.specs.declared.journals.Journal.{Journal}
use Rattle.qp_model.specs.declared.bodies.Entry.{Entry}
use Rattle.qp_model.specs.declared.bodies.Body.{Body}
use Rattle.qp_model.specs.declared.bodies.Body.TheVariants as body
use Rattle.qp_model.specs.Record.{Item}
use Rattle.qp_model.specs.Told.{Told}
use Rattle.qp_model.specs.History.{all_items, lane_items, hist}
use Rattle.qp_model.specs.Machine.{after}
use Rattle.qp_model.specs.FreeBlocks.{free_blocks}
use Rattle.qp_model.specs.References.{references}
use Rattle.qp_model.specs.Line.{line}
use Rattle.qp_model.specs.Sites.{ring_of, blocks_of}
use Rattle.qp_model.specs.WordLaw.{is_block}
use Rattle.qp_model.specs.Pieces.{Piece, records_in}
use Rattle.qp_model.specs.Acts.{Config}
use Rattle.qp_model.specs.Course.{Course, first_config, actor, chart_at}
use Rattle.qp_model.specs.Kernels.{port, qv}
use Rattle.qp_model.specs.Home.{lane_at, by_object}
use Rattle.qp_model.specs.KernelLaws.{StepsBeginAbove, StepsStandAlone, RestsWhereAllAreEmpty}
use Rattle.qp_model.specs.Sources.{SourceRuns, AllDone, source_records}
use Rattle.qp_model.specs.Ends.{is_end, quiet}
use Rattle.qp_model.specs.End.{names_on, same_numbers}
use Rattle.qp_model.specs.Lawful.{Lawful, facts_of, lanes_before, deferred_of, dispatched}

-- under `sim`, `qk` and `qv` a step begins only right after a look that showed its queue with an entry, and only where its object is
-- above the floor
abbrev pub StepsBeginAboveTheFloor : Type 0
StepsBeginAboveTheFloor =
    (sys : System) (stimuli : List (List Stim)) (j : Journal) → Lawful sys stimuli j → j.kernel ≢ port
    → StepsBeginAbove sys j.kernel (lane_items (lane_at j 0))

-- under `qv` no step begins within another, where priorities are at most 32
abbrev pub CooperativeStepsStandAlone : Type 0
CooperativeStepsStandAlone =
    (sys : System) (stimuli : List (List Stim)) (j : Journal) → Lawful sys stimuli j → j.kernel ≡ qv
    → AllByRecursion (λ d. d.priority ≤ 32) sys.objects → StepsStandAlone (lane_items (lane_at j 0))

-- the kernel rests only right after a look at the base that saw every queue empty
abbrev pub KernelRestsWhereAllAreEmpty : Type 0
KernelRestsWhereAllAreEmpty =
    (sys : System) (stimuli : List (List Stim)) (j : Journal) → Lawful sys stimuli j → j.kernel ≢ port → RestsWhereAllAreEmpty sys (lane_items (lane_at j 0))

-- the queue of an object is empty in the end
unfoldable pub QueueIsEmpty : System → Journal → ObjectDef → Type 0
unfolding after all_items hist ring_of
QueueIsEmpty sys j d = (after (line (ring_of sys d.priority)) (hist (word.Queue d.priority) (all_items j.lanes))).entries ≡ []

-- a block is free in the end, or the references to it are those of the deferred entries
unfoldable pub BlockRests : System → Journal → ℕ → ℕ → Type 0
unfolding after all_items deferred_of hist names_on
BlockRests sys j p b =
    IsTrue (has (after (free_blocks (blocks_of sys p)) (hist (word.Pool p) (all_items j.lanes))).free b)
    ⊎ IsTrue (same_numbers (after references (hist (word.Block p b) (all_items j.lanes))).names (names_on p b (deferred_of sys j sys.objects)))

-- the sources from lane n on have done all their stimuli
unfoldable pub StimuliDone : System → Journal → ℕ → List (List Stim) → Type 0
unfolding SourceRuns facts_of lane_items source_records
StimuliDone sys j n [] = ⊤
StimuliDone sys j n (ss ∷ more) =
    SourceRuns sys j.kernel 1 ss AllDone (source_records (facts_of sys j) (lane_items (lane_at j n))) × StimuliDone sys j (n + 1) more

pub record LeavesNothing (sys : System) (stimuli : List (List Stim)) (j : Journal) : Type 0 where
  pub queues : AllByRecursion (QueueIsEmpty sys j) sys.objects
  pub blocks : (p b : ℕ) → IsTrue (is_block sys p b) → BlockRests sys j p b
  pub done : StimuliDone sys j (lanes_before sys j) stimuli
  pub whole : list_any (λ i. is_end i.body) (all_items j.lanes) ≡ false

-- an end 0 leaves nothing undone
abbrev pub QuietEndLeavesNothing : Type 0
QuietEndLeavesNothing = (sys : System) (stimuli : List (List Stim)) (j : Journal) → Lawful sys stimuli j → j.end ≡ quiet → LeavesNothing sys stimuli j

-- the entry that a record takes
abbrev pub taken_entry : Body → Option Entry
taken_entry (body.Took f l m e) = Some e
taken_entry _ = None

-- the entries that o takes in these records, in order
unfoldable pub entries_taken_by : ℕ → List Item → List Entry
entries_taken_by o items = filter_map (λ i. if i.of == o then taken_entry i.body else None) items

-- the entries taken in an object's own list
unfoldable pub entries_taken_in : List Told → List Entry
entries_taken_in ts = filter_map (λ t. taken_entry t.body) ts

-- each priority is below the later ones, and above 0
abbrev pub Ascend : List ObjectDef → Type 0
Ascend [] = ⊤
Ascend (d ∷ ds) = (0 < d.priority) × AllByRecursion (λ x. d.priority < x.priority) ds × Ascend ds

-- an object's steps are over the entries that its queue gave, in order: those of the takes in the queue's history
abbrev pub TakesWhatItsQueueGives : Type 0
TakesWhatItsQueueGives =
    (sys : System) (stimuli : List (List Stim)) (j : Journal) → Lawful sys stimuli j → Ascend sys.objects
    → AllByRecursion (λ d. entries_taken_in (by_object (facts_of sys j) j d.priority) ≡ entries_taken_by d.priority (hist (word.Queue d.priority) (all_items j.lanes))) sys.objects

-- an object's records are the front of a course over the entries that its queue gave, in order, and perhaps more; with end 0 they are
-- the whole course over just these
pub record LivesByItsChart (sys : System) (j : Journal) (d : ObjectDef) : Type 0 where
  pub chart : Chart
  pub is_its : chart_at sys d.chart ≡ Some chart
  pub done : List Piece
  pub left : List Piece
  pub more : List Entry
  pub end : Option Config
  pub records : records_in done ≡ dispatched (by_object (facts_of sys j) j d.priority)
  pub course : Course sys (actor d chart) (first_config d) (entries_taken_by d.priority (hist (word.Queue d.priority) (all_items j.lanes)) ++ more) (done ++ left) end
  pub whole : j.end ≡ quiet → (left ≡ []) × (more ≡ [])

-- each object's steps are the statechart meaning of the events that its queue gave, in order
abbrev pub StepsAreTheMeaning : Type 0
StepsAreTheMeaning =
    (sys : System) (stimuli : List (List Stim)) (j : Journal) → Lawful sys stimuli j → Ascend sys.objects → AllByRecursion (LivesByItsChart sys j) sys.objects
