-- What there is only one of: the lawful journal of a run with one thread, a journal's summary, and the lowest order of its records.
use Rattle.std.specs.Prelude.{◌≡◌, ℕ, true, false, List, IsTrue, ◌⊎◌}
use Rattle.std.specs.List.{list_any}
use Rattle.qp_model.specs.declared.stimulus.Stim.{Stim}
use Rattle.qp_model.specs.declared.systems.System.{System}
use Rattle.qp_model.specs.declared.journals.Journal.{Journal}
use Rattle.qp_model.specs.declared.record.Rec.{Rec}
use Rattle.qp_model.specs.Places.{RecordPlace}
use Rattle.qp_model.specs.Sound.{IsSound}
use Rattle.qp_model.specs.Ends.{is_spill}
use Rattle.qp_model.specs.History.{all_items}
use Rattle.qp_model.specs.Kernels.{has_one_order}
use Rattle.qp_model.specs.Lawful.{Lawful}
use Rattle.qp_model.specs.OutputSummary.{IsSummary}
use Rattle.qp_stim.specs.Rules.{StimuliFit}
use Rattle.qp_replay.specs.Orders.{IsLowestOrder}
use Rattle.qp_unique.specs.Tidy.{IsTidy, LacksStimulus, has_short_lanes}

-- a journal of a run with one thread, lawful for the system and its stimuli
pub record IsOneThreadJournal (sys : System) (stimuli : List (List Stim)) (j : Journal) : Type 0 where
  pub lawful : Lawful sys stimuli j
  pub one_thread : has_one_order j.kernel ≡ true

-- no lane of it ended with a `spill`
abbrev pub IsUnspilt : Journal → Type 0
IsUnspilt j = list_any (λ i. is_spill i.body) (all_items j.lanes) ≡ false

-- each is tidy
abbrev pub OneThreadJournalsAreTidy : Type 0
OneThreadJournalsAreTidy =
    (sys : System) (stimuli : List (List Stim)) (j : Journal) → IsSound sys → StimuliFit sys stimuli
    → IsOneThreadJournal sys stimuli j → IsTidy sys j

-- So there is only one for a kernel and a budget: where no lane of one has more than 999,992 records, each other is the same journal.
-- Another may be there only where its lane 0 ended with a `spill` and its last look lacks the stimulus that acts in it.
abbrev pub OneThreadJournalsAreOne : Type 0
OneThreadJournalsAreOne =
    (sys : System) (stimuli : List (List Stim)) (i j : Journal) → IsSound sys → StimuliFit sys stimuli
    → IsOneThreadJournal sys stimuli i → IsOneThreadJournal sys stimuli j → j.kernel ≡ i.kernel → i.budget ≡ j.budget → IsTrue (has_short_lanes i) → (j ≡ i) ⊎ LacksStimulus sys stimuli j

-- and two in which no lane ended with a `spill` are the same journal, however long their lanes are
abbrev pub UnspiltJournalsAreOne : Type 0
UnspiltJournalsAreOne =
    (sys : System) (stimuli : List (List Stim)) (i j : Journal) → IsSound sys → StimuliFit sys stimuli
    → IsOneThreadJournal sys stimuli i → IsOneThreadJournal sys stimuli j → j.kernel ≡ i.kernel → i.budget ≡ j.budget → IsUnspilt i → IsUnspilt j → j ≡ i

-- in a short one no lane ended with a `spill`
abbrev pub ShortJournalsAreUnspilt : Type 0
ShortJournalsAreUnspilt = (sys : System) (stimuli : List (List Stim)) (j : Journal) → IsOneThreadJournal sys stimuli j → IsTrue (has_short_lanes j) → IsUnspilt j

-- a journal has one summary
abbrev pub SummariesAreOne : Type 0
SummariesAreOne = (sys : System) (j : Journal) (xs ys : List (List ℕ)) → IsSound sys → IsSummary sys j xs → IsSummary sys j ys → xs ≡ ys

-- the order in which each next record is from the lowest lane that may go on is one
abbrev pub OrdersAreOne : Type 0
OrdersAreOne = (lanes : List (List Rec)) (xs ys : List RecordPlace) → IsLowestOrder lanes xs → IsLowestOrder lanes ys → xs ≡ ys
