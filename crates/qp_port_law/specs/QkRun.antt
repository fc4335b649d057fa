-- What the lanes of a run under `qk` leave: lane 0 has all objects, and each source has its own.
use Rattle.std.specs.Prelude.{◌≡◌, ℕ, ◌+◌, ◌==◌, true, List, length}
use Rattle.std.specs.List.{list_all, count_by}
use Rattle.qp_model.specs.declared.stimulus.Stim.{Stim}
use Rattle.qp_model.specs.declared.systems.System.{System}
use Rattle.qp_model.specs.declared.journals.Journal.{Journal}
use Rattle.qp_model.specs.History.{all_items, lane_items}
use Rattle.qp_model.specs.Home.{lane_at}
use Rattle.qp_model.specs.Knowing.{told_lane}
use Rattle.qp_model.specs.Kernels.{qk}
use Rattle.qp_model.specs.WordLaw.{Words}
use Rattle.qp_model.specs.Sound.{IsSound}
use Rattle.qp_model.specs.Ends.{quiet}
use Rattle.qp_model.specs.End.{end_of, has_room, lines_empty, blocks_rest}
use Rattle.qp_model.specs.Lawful.{facts_of, source_lanes, deferred_of, is_settle}
use Rattle.qp_model_order.specs.RunOrder.{has_stim}
use Rattle.qp_kernel.specs.ZeroEnds.{ZeroEnds}
use Rattle.qp_port_law.specs.PortRun.{SourcesLeave}

-- at most one row at the base without a step more than there are `settle` records
abbrev pub most_idle : Journal → ℕ
most_idle j = count_by (λ i. is_settle i.body) (all_items j.lanes) + 1

-- Lane 0 is the kernel's, each source has its lane, the words keep their laws, and a quiet end has left nothing undone.
pub record IsQkRun (sys : System) (stimuli : List (List Stim)) (j : Journal) : Type 0 where
  pub sound : IsSound sys
  pub kernel : j.kernel ≡ qk
  pub words : Words sys j.lanes
  pub count : length j.lanes ≡ 1 + length stimuli
  pub room : list_all (λ lane. has_room (lane_items lane)) j.lanes ≡ true
  pub zero : ZeroEnds sys qk j.budget j.end (most_idle j) (told_lane (facts_of sys j) 0 (lane_items (lane_at j 0))) (has_stim (source_lanes sys j))
  pub sources : SourcesLeave sys j 1 stimuli
  pub stated : (j.end == end_of (all_items j.lanes)) ≡ true
  pub queues : j.end ≡ quiet → lines_empty sys (all_items j.lanes) ≡ true
  pub blocks : j.end ≡ quiet → blocks_rest sys (all_items j.lanes) (deferred_of sys j sys.objects) ≡ true
