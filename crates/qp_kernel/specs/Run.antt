-- What a kernel of one thread knows of its run when it has ended.
use Rattle.std.specs.Prelude.{◌≡◌, ℕ, ◌+◌, ◌==◌, Bool, true, List, [], ◌∷◌, length, ⊤}
use Rattle.std.specs.List.{list_all}
use Rattle.qp_model.specs.declared.stimulus.Stim.{Stim}
use Rattle.qp_model.specs.declared.systems.System.{System}
use Rattle.qp_model.specs.declared.journals.Journal.{Journal}
use Rattle.qp_model.specs.History.{all_items, lane_items}
use Rattle.qp_model.specs.Home.{lane_at}
use Rattle.qp_model.specs.Knowing.{told_lane}
use Rattle.qp_model.specs.Kernels.{sim, has_one_order}
use Rattle.qp_model.specs.WordLaw.{Words}
use Rattle.qp_model.specs.Sound.{IsSound}
use Rattle.qp_model.specs.Places.{in_order}
use Rattle.qp_model.specs.OneOrder.{Placed, items_placed}
use Rattle.qp_model.specs.Ends.{quiet}
use Rattle.qp_model.specs.End.{end_of, has_room, lines_empty, blocks_rest}
use Rattle.qp_model.specs.Lawful.{facts_of, source_lanes, deferred_of}
use Rattle.qp_model_order.specs.RunOrder.{has_stim, EndsInOrder}
use Rattle.qp_model_order.specs.SourceRun.{SourceGoes, SourceEnds}
use Rattle.qp_kernel.specs.ZeroEnds.{ZeroEnds}

-- the lanes of the sources, from lane n on; under `qv` a source leaves what it leaves under `sim`
unfoldable pub SourcesEnd : System → Journal → Bool → ℕ → List (List Stim) → Type 0
unfolding facts_of lane_items told_lane
SourcesEnd sys j cuts n [] = ⊤
SourcesEnd sys j cuts n (ss ∷ more) =
    SourceEnds sys sim j.end cuts ss (told_lane (facts_of sys j) 0 (lane_items (lane_at j n))) × SourcesEnd sys j cuts (n + 1) more

-- the same where all stimuli are done
unfoldable pub SourcesGo : System → Journal → ℕ → List (List Stim) → Type 0
unfolding facts_of lane_items told_lane
SourcesGo sys j n [] = ⊤
SourcesGo sys j n (ss ∷ more) =
    SourceGoes sys sim ss (told_lane (facts_of sys j) 0 (lane_items (lane_at j n))) × SourcesGo sys j (n + 1) more

-- A run of a sound system under `sim` or `qv` has ended, and left this journal.
pub record IsRun (sys : System) (stimuli : List (List Stim)) (j : Journal) : Type 0 where
  pub sound : IsSound sys
  pub kernel : has_one_order j.kernel ≡ true
  -- the world: its words, its lanes, and its log, in which each number is the next of its word
  pub words : Words sys j.lanes
  pub count : length j.lanes ≡ 1 + length stimuli
  pub room : list_all (λ lane. has_room (lane_items lane)) j.lanes ≡ true
  pub log : List Placed
  pub numbers : in_order [] (items_placed log) ≡ true
  -- the kernel's lane, the sources, and the order of both
  pub zero : ZeroEnds sys j.kernel j.budget j.end 1 (told_lane (facts_of sys j) 0 (lane_items (lane_at j 0))) (has_stim (source_lanes sys j))
  pub cuts : Bool
  pub sources : SourcesEnd sys j cuts 1 stimuli
  pub order : EndsInOrder sys stimuli (lane_items (lane_at j 0)) (source_lanes sys j) cuts log
  -- the end that is stated, and what a quiet one leaves
  pub stated : (j.end == end_of (all_items j.lanes)) ≡ true
  pub queues : j.end ≡ quiet → lines_empty sys (all_items j.lanes) ≡ true
  pub blocks : j.end ≡ quiet → blocks_rest sys (all_items j.lanes) (deferred_of sys j sys.objects) ≡ true
