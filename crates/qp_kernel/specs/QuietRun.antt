-- A run of the kernel that comes to its end by itself.
use Rattle.std.specs.Prelude.{◌≡◌, ℕ, ◌+◌, true, false, List, [], length, Some}
use Rattle.std.specs.List.{list_all}
use Rattle.qp_model.specs.declared.stimulus.Stim.{Stim}
use Rattle.qp_model.specs.declared.systems.System.{System}
use Rattle.qp_model.specs.declared.systems.ObjectDef.{ObjectDef}
use Rattle.qp_model.specs.declared.journals.Journal.{Journal}
use Rattle.qp_model.specs.History.{all_items, lane_items}
use Rattle.qp_model.specs.Home.{lane_at}
use Rattle.qp_model.specs.Knowing.{told_lane}
use Rattle.qp_model.specs.KernelLane.{Over}
use Rattle.qp_model.specs.WordLaw.{Words}
use Rattle.qp_model.specs.Sound.{IsSound}
use Rattle.qp_model.specs.Places.{in_order}
use Rattle.qp_model.specs.OneOrder.{Placed, items_placed}
use Rattle.qp_model.specs.Sites.{object_at}
use Rattle.qp_model.specs.Ends.{quiet}
use Rattle.qp_model.specs.End.{has_room, lines_empty, blocks_rest}
use Rattle.qp_model.specs.Lawful.{facts_of, source_lanes, deferred_of}
use Rattle.qp_model_order.specs.RunOrder.{has_stim, RunsInOrder}
use Rattle.qp_kernel.specs.Stages.{is_resting}
use Rattle.qp_kernel.specs.LaneZero.{Agree}
use Rattle.qp_kernel.specs.Run.{SourcesGo}
use Rattle.qp_kernel.specs.Turning.{AreAble, KernelState, Stands, Terms, kernel_in}

-- The world, its log and the kernel's state where the row at the base is over, all stimuli are done, and every object rests.
pub record IsQuietRun (sys : System) (stimuli : List (List Stim)) (j : Journal) (s : KernelState) : Type 0 where
  pub sound : IsSound sys
  pub able : AreAble sys
  pub terms : Terms
  pub single : terms.threaded ≡ false
  pub kernel : j.kernel ≡ kernel_in terms
  pub budget_is : j.budget ≡ terms.budget
  pub words : Words sys j.lanes
  pub count : length j.lanes ≡ 1 + length stimuli
  pub room : list_all (λ lane. has_room (lane_items lane)) j.lanes ≡ true
  pub log : List Placed
  pub numbers : in_order [] (items_placed log) ≡ true
  -- the kernel's state tells of lane 0 of the journal, and of the stimuli in its looks
  pub told : told_lane (facts_of sys j) 0 (lane_items (lane_at j 0)) ≡ s.told
  pub now : Agree s.upto (has_stim (source_lanes sys j)) s.now
  pub stands : Stands sys terms s
  pub owed : s.owed ≡ 0
  pub started : s.reading.unstarted ≡ []
  pub base : s.reading.running ≡ []
  pub over : s.reading.place ≡ Over
  pub rest : (d : ObjectDef) → object_at sys d.priority ≡ Some d → is_resting (s.stages d.priority) ≡ true
  pub looks : ℕ
  pub order : RunsInOrder sys stimuli looks (lane_items (lane_at j 0)) (source_lanes sys j) log
  pub sources : SourcesGo sys j 1 stimuli
  pub end : j.end ≡ quiet
  pub queues : lines_empty sys (all_items j.lanes) ≡ true
  pub blocks : blocks_rest sys (all_items j.lanes) (deferred_of sys j sys.objects) ≡ true
