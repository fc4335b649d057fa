-- The laws of runs on one thread.
use Rattle.std.specs.Prelude.{◌≡◌, ◌==◌, true, List}
use Rattle.qp_model.specs.declared.record.Rec.{Rec}
use Rattle.qp_model.specs.declared.stimulus.Stim.{Stim}
use Rattle.qp_model.specs.declared.systems.System.{System}
use Rattle.qp_model.specs.declared.journals.Journal.{Journal}
use Rattle.qp_model.specs.History.{all_items}
use Rattle.qp_model.specs.Ends.{may_cut, quiet}
use Rattle.qp_model.specs.End.{end_of}
use Rattle.qp_model.specs.Sound.{IsSound}
use Rattle.qp_model.specs.Lawful.{Lawful}
use Rattle.qp_calls.specs.LaneView.{LaneView}
use Rattle.qp_kernel.specs.Turning.{AreAble, Terms, kernel_in}
use Rattle.qp_kernel_runs.specs.Left.{IsLeft, IsIdle, HasStoppedEarly}

-- A run that stopped early leaves a lawful journal, with the end that its records state.
abbrev pub StoppedRunsAreLawful : Type 0
StoppedRunsAreLawful =
    (sys : System) (stimuli : List (List Stim)) (lanes : List (List Rec)) (v : LaneView) (j : Journal) (terms : Terms) → IsSound sys
    → IsLeft sys stimuli lanes v → HasStoppedEarly sys terms v → j.lanes ≡ lanes → j.kernel ≡ kernel_in terms → j.budget ≡ terms.budget → may_cut j.end ≡ true
    → (j.end == end_of (all_items lanes)) ≡ true → Lawful sys stimuli j

-- So does a run that comes to its end by itself.
abbrev pub IdleRunsAreLawful : Type 0
IdleRunsAreLawful =
    (sys : System) (stimuli : List (List Stim)) (lanes : List (List Rec)) (v : LaneView) (j : Journal) (terms : Terms) → IsSound sys → AreAble sys
    → IsLeft sys stimuli lanes v → IsIdle sys terms v → j.lanes ≡ lanes → j.kernel ≡ kernel_in terms → j.budget ≡ terms.budget → j.end ≡ quiet → Lawful sys stimuli j
