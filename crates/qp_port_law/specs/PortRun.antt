-- What the lanes of a run leave in which each object has its own.
use Rattle.std.specs.Prelude.{◌≡◌, ℕ, ◌+◌, ◌==◌, true, List, [], ◌∷◌, length, ⊤}
use Rattle.std.specs.List.{list_all}
use Rattle.qp_model.specs.declared.stimulus.Stim.{Stim}
use Rattle.qp_model.specs.declared.systems.System.{System}
use Rattle.qp_model.specs.declared.systems.ObjectDef.{ObjectDef}
use Rattle.qp_model.specs.declared.journals.Journal.{Journal}
use Rattle.qp_model.specs.History.{all_items, lane_items}
use Rattle.qp_model.specs.Home.{lane_at}
use Rattle.qp_model.specs.Knowing.{told_lane}
use Rattle.qp_model.specs.Kernels.{port}
use Rattle.qp_model.specs.WordLaw.{Words}
use Rattle.qp_model.specs.Sound.{IsSound}
use Rattle.qp_model.specs.Ends.{quiet}
use Rattle.qp_model.specs.End.{end_of, has_room, lines_empty, blocks_rest}
use Rattle.qp_model.specs.Lawful.{facts_of, deferred_of}
use Rattle.qp_port_law.specs.Homes.{HomeEnds}
use Rattle.qp_port_law.specs.SourcesLeft.{SourceLeaves}

-- the lanes of these objects, from lane n on
unfoldable pub HomesEnd : System → Journal → ℕ → List ObjectDef → Type 0
unfolding facts_of lane_items told_lane
HomesEnd sys j n [] = ⊤
HomesEnd sys j n (d ∷ ds) = HomeEnds sys d j.budget j.end (told_lane (facts_of sys j) 0 (lane_items (lane_at j n))) × HomesEnd sys j (n + 1) ds

-- the lanes of these sources, from lane n on
unfoldable pub SourcesLeave : System → Journal → ℕ → List (List Stim) → Type 0
unfolding facts_of lane_items told_lane
SourcesLeave sys j n [] = ⊤
SourcesLeave sys j n (ss ∷ more) = SourceLeaves sys j.kernel j.end ss (told_lane (facts_of sys j) 0 (lane_items (lane_at j n))) × SourcesLeave sys j (n + 1) more

-- Lane 0 has nothing, each object and each source has its lane, the words keep their laws, and a quiet end has left nothing undone.
pub record IsPortRun (sys : System) (stimuli : List (List Stim)) (j : Journal) : Type 0 where
  pub sound : IsSound sys
  pub kernel : j.kernel ≡ port
  pub words : Words sys j.lanes
  pub count : length j.lanes ≡ length sys.objects + 1 + length stimuli
  pub room : list_all (λ lane. has_room (lane_items lane)) j.lanes ≡ true
  pub empty : lane_at j 0 ≡ []
  pub homes : HomesEnd sys j 1 sys.objects
  pub sources : SourcesLeave sys j (length sys.objects + 1) stimuli
  pub stated : (j.end == end_of (all_items j.lanes)) ≡ true
  pub queues : j.end ≡ quiet → lines_empty sys (all_items j.lanes) ≡ true
  pub blocks : j.end ≡ quiet → blocks_rest sys (all_items j.lanes) (deferred_of sys j sys.objects) ≡ true
