-- The lane of a source in a run with one thread that has ended.
use Rattle.std.specs.Prelude.{◌≡◌, ◌⊎◌, ℕ, ◌==◌, Bool, true, false, not, List, [], map}
use Rattle.std.specs.List.{list_all, list_any, filter, filter_map}
use Rattle.qp_model.specs.declared.stimulus.Stim.{Stim}
use Rattle.qp_model.specs.declared.systems.System.{System}
use Rattle.qp_model.specs.Record.{Item}
use Rattle.qp_model.specs.Told.{Told, ToldItem, untold}
use Rattle.qp_model.specs.Knowing.{told_alone}
use Rattle.qp_model.specs.Ends.{is_end, is_spent, is_spill, spills_in, spills_cut, ends_last}
use Rattle.qp_model.specs.End.{spills_state}
use Rattle.qp_model.specs.Sources.{SourceEnd, SourceRuns, AllDone, BeforeStimulus, InStimulus, entry_seen, may_end}

abbrev pub untold_all : List ToldItem → List Item
untold_all ts = map untold ts

-- what the records of a source tell, without its `spill`
abbrev pub source_told : List ToldItem → List Told
source_told ts = told_alone (filter (λ t. not (is_spill t.told.body)) ts)

-- The lane of a source that has done these stimuli, each with its records, and nothing that ends a lane.
pub record SourceGoes (sys : System) (kernel : ℕ) (done : List Stim) (told : List ToldItem) : Type 0 where
  pub alone : list_all (λ i. i.of == 0) (untold_all told) ≡ true
  pub runs : SourceRuns sys kernel 1 done AllDone (told_alone told)
  pub calm : list_any (λ i. is_end i.body) (untold_all told) ≡ false
  pub settled : filter_map (λ i. entry_seen i.body) (untold_all told) ≡ []

-- where the stimuli stand when a `spill` ends the lane: within one exactly where it cuts it
abbrev pub cut_at : Bool → SourceEnd → Type 0
cut_at true stop = stop ≡ InStimulus
cut_at false stop = (stop ≡ BeforeStimulus) ⊎ (stop ≡ AllDone)

-- The lane of a source has its stimuli in order, each with its records, as far as it came; `cuts` tells whether a `spill` that stands in the
-- lane cuts a stimulus. It has no other records, and those that end a lane stand where they may.
pub record SourceEnds (sys : System) (kernel end : ℕ) (cuts : Bool) (ss : List Stim) (told : List ToldItem) : Type 0 where
  pub alone : list_all (λ i. i.of == 0) (untold_all told) ≡ true
  pub spills : spills_cut end (untold_all told) ≡ true
  pub stop : SourceEnd
  pub runs : SourceRuns sys kernel 1 ss stop (source_told told)
  pub may : may_end end (spills_in (untold_all told)) stop ≡ true
  pub cut : spills_in (untold_all told) ≡ true → cut_at cuts stop
  pub settled : filter_map (λ i. entry_seen i.body) (untold_all told) ≡ []
  pub ends : ends_last (untold_all told) ≡ true
  pub unspent : list_any (λ i. is_spent i.body) (untold_all told) ≡ false
  pub states : spills_state 0 (untold_all told) ≡ true
