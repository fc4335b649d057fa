-- The lane of a source that has a thread of its own, where its run has ended.
use Rattle.std.specs.Prelude.{◌≡◌, ℕ, ◌==◌, true, false, List}
use Rattle.std.specs.List.{list_all, list_any, filter_map}
use Rattle.qp_model.specs.declared.stimulus.Stim.{Stim}
use Rattle.qp_model.specs.declared.systems.System.{System}
use Rattle.qp_model.specs.Told.{ToldItem}
use Rattle.qp_model.specs.Ends.{is_spent, spills_in, spills_cut, ends_last}
use Rattle.qp_model.specs.End.{spills_state}
use Rattle.qp_model.specs.Sources.{SourceEnd, SourceRuns, entry_seen, may_end, none_twice}
use Rattle.qp_model_order.specs.SourceRun.{source_told, untold_all}

-- it has its stimuli in order, as far as it came, no two tries of it end alike, and what ends it stands where it may
pub record SourceLeaves (sys : System) (kernel end : ℕ) (ss : List Stim) (told : List ToldItem) : Type 0 where
  pub alone : list_all (λ i. i.of == 0) (untold_all told) ≡ true
  pub spills : spills_cut end (untold_all told) ≡ true
  pub tries : none_twice (filter_map (λ i. entry_seen i.body) (untold_all told)) ≡ true
  pub stop : SourceEnd
  pub runs : SourceRuns sys kernel 1 ss stop (source_told told)
  pub may : may_end end (spills_in (untold_all told)) stop ≡ true
  pub ends : ends_last (untold_all told) ≡ true
  pub unspent : list_any (λ i. is_spent i.body) (untold_all told) ≡ false
  pub states : spills_state 0 (untold_all told) ≡ true
