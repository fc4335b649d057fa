-- The lanes of a run that has ended.
use Rattle.std.specs.Prelude.{◌≡◌, ℕ, ◌+◌, ◌≤◌, Bool, true, false, List, ◌∷◌, length, None, Some}
use Rattle.std.specs.declared.option.Option.{Option}
use Rattle.qp_model.specs.declared.stimulus.Stim.{Stim}
use Rattle.qp_model.specs.declared.systems.System.{System}
use Rattle.qp_model.specs.Ends.{may_cut, quiet}
use Rattle.qp_model.specs.Kernels.{qk}
use Rattle.qp_model_order.specs.RunOrder.{has_stim}
use Rattle.qp_calls.specs.LaneView.{LaneView}
use Rattle.qp_kernel.specs.Happenings.{lanes_of}
use Rattle.qp_kernel.specs.Turning.{under_qk}
use Rattle.qp_kernel.specs.ZeroEnds.{own_told}
use Rattle.qp_kernel_end.specs.declared.rest.Rest.{Rest}
use Rattle.qp_kernel_end.specs.Rests.{AreRests}
use Rattle.qp_kernel_turns.specs.Turning.{EndsSo}
use Rattle.qp_kernel_turns.specs.TurnRows.{idle_rows}
use Rattle.qp_port_phases.specs.declared.phases.PhasesEnd.{PhasesEnd}
use Rattle.qp_port_phases.specs.declared.phases.PhasesEnd.TheVariants as ended
use Rattle.qp_port_law.specs.Lanes.{SourcesAre, settles_in}
use Rattle.qp_port_law.specs.QkLanes.{QkRests}
use Rattle.qp_port_law.specs.StartsFirst.{ZeroStartsFirst}

-- all starts came to their end, and the phases ended idle
abbrev pub has_ended_idle : Option PhasesEnd → Bool
has_ended_idle None = false
has_ended_idle (Some ended.Idle) = true
has_ended_idle (Some ended.Stopped) = false
has_ended_idle (Some ended.Memory) = false

-- the lanes may end so
pub record MayEndSo (sys : System) (stimuli : List (List Stim)) (budget end : ℕ) (first : LaneView) (sources : List LaneView) : Type 0 where
  pub zero : EndsSo sys (under_qk budget) end first.told (has_stim (lanes_of first))
  pub leave : SourcesAre sys qk end stimuli sources

-- nothing was left to be done
pub record QkMayEndQuietly (sys : System) (stimuli : List (List Stim)) (budget : ℕ) (first : LaneView) (sources : List LaneView) : Type 0 where
  pub ends : MayEndSo sys stimuli budget quiet first sources
  pub rests : QkRests sys budget first sources

-- The lanes of such a run; where it tells that nothing was left, nothing was. The kernel's has at most one row of looks without a step more than all
-- have `settle` records, and the rests are of its objects.
pub record HasQkRun (sys : System) (stimuli : List (List Stim)) (budget : ℕ) (done : Bool) (rests : List Rest) (vs : List LaneView) : Type 0 where
  pub first : LaneView
  pub sources : List LaneView
  pub are : vs ≡ first ∷ sources
  pub early : (end : ℕ) → may_cut end ≡ true → MayEndSo sys stimuli budget end first sources
  pub quietly : done ≡ true → QkMayEndQuietly sys stimuli budget first sources
  pub rows : idle_rows sys (under_qk budget) first ≤ settles_in vs + 1
  pub told : AreRests sys (λ o. own_told o first.told) rests
  pub starts : ZeroStartsFirst (length sys.objects) first sources
