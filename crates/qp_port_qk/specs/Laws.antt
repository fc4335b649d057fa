-- The law of a run that was sealed.
use Rattle.std.specs.Prelude.{◌≡◌, ℕ, Bool, true, List}
use Rattle.qp_model.specs.declared.stimulus.Stim.{Stim}
use Rattle.qp_model.specs.declared.systems.System.{System}
use Rattle.qp_model.specs.declared.journals.Journal.{Journal}
use Rattle.qp_model.specs.Ends.{quiet}
use Rattle.qp_model.specs.Kernels.{qk}
use Rattle.qp_model.specs.Sound.{IsSound}
use Rattle.qp_calls.specs.LaneView.{LaneView}
use Rattle.qp_kernel_end.specs.declared.rest.Rest.{Rest}
use Rattle.qp_kernel_end.specs.Rests.{AreRestsIn}
use Rattle.qp_port_law.specs.Sealed.{SealsLanes}
use Rattle.qp_port_qk.specs.Ends.{HasQkRun}
use Rattle.qp_port_law.specs.ThreadRun.{IsThreadRun}

-- Its lanes, sealed into a journal, leave a lawful one, in which its objects rest where it says; a journal of a quiet end only where nothing was left.
abbrev pub SealedQkRunsAreLawful : Type 0
SealedQkRunsAreLawful =
    (sys : System) (stimuli : List (List Stim)) (budget : ℕ) (done : Bool) (rests : List Rest) (vs : List LaneView) (j : Journal) → IsSound sys
    → HasQkRun sys stimuli budget done rests vs → SealsLanes sys qk budget vs j → (j.end ≡ quiet → done ≡ true)
    → IsThreadRun qk sys stimuli budget j × AreRestsIn sys j rests
