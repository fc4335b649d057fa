-- The laws of sealed lanes.
use Rattle.std.specs.Prelude.{◌≡◌, ℕ, List, [], ◌∷◌, ◌++◌, length}
use Rattle.qp_model.specs.declared.stimulus.Stim.{Stim}
use Rattle.qp_model.specs.declared.systems.System.{System}
use Rattle.qp_model.specs.declared.journals.Journal.{Journal}
use Rattle.qp_model.specs.Lawful.{Lawful}
use Rattle.qp_model.specs.Kernels.{port, qk}
use Rattle.qp_model.specs.Sound.{IsSound}
use Rattle.qp_calls.specs.LaneView.{LaneView}
use Rattle.qp_kernel.specs.ZeroEnds.{own_told}
use Rattle.qp_port_law.specs.Sealed.{SealsLanes}
use Rattle.qp_kernel_end.specs.declared.rest.Rest.{Rest}
use Rattle.qp_kernel_end.specs.Rests.{AreRests, AreRestsIn}
use Rattle.qp_port_law.specs.Rests.{AreTold}
use Rattle.qp_port_law.specs.PortLanes.{ArePortLanes}
use Rattle.qp_port_law.specs.QkLanes.{AreQkLanes}
use Rattle.qp_port_law.specs.StartsFirst.{HomesStartFirst, StartsFirst, ZeroStartsFirst}

-- lanes of objects and sources, sealed, leave a lawful journal
abbrev pub SealedPortRunsAreLawful : Type 0
SealedPortRunsAreLawful =
    (sys : System) (stimuli : List (List Stim)) (budget : ℕ) (first : LaneView) (homes sources : List LaneView) (j : Journal)
    → ArePortLanes sys stimuli budget first homes sources j → Lawful sys stimuli j

-- so do the kernel's lane and those of sources
abbrev pub SealedQkLanesAreLawful : Type 0
SealedQkLanesAreLawful =
    (sys : System) (stimuli : List (List Stim)) (budget : ℕ) (first : LaneView) (sources : List LaneView) (j : Journal)
    → AreQkLanes sys stimuli budget first sources j → Lawful sys stimuli j

-- where each object starts first in a lane of its own, all starts come first
abbrev pub HomesThatStartFirst : Type 0
HomesThatStartFirst =
    (sys : System) (budget : ℕ) (first : LaneView) (homes sources : List LaneView) (j : Journal)
    → SealsLanes sys port budget (first ∷ homes ++ sources) j → first.told ≡ [] → length homes ≡ length sys.objects → HomesStartFirst homes sources → StartsFirst sys j

-- so they do where all start first in lane 0
abbrev pub ZeroThatStartsFirst : Type 0
ZeroThatStartsFirst =
    (sys : System) (budget : ℕ) (first : LaneView) (sources : List LaneView) (j : Journal)
    → SealsLanes sys qk budget (first ∷ sources) j → ZeroStartsFirst (length sys.objects) first sources → StartsFirst sys j

-- where objects rest by what their own lanes tell, they rest by the journal
abbrev pub PortRestsAreTold : Type 0
PortRestsAreTold =
    (sys : System) (budget : ℕ) (first : LaneView) (homes sources : List LaneView) (j : Journal) (rests : List Rest)
    → IsSound sys → SealsLanes sys port budget (first ∷ homes ++ sources) j → AreTold sys rests sys.objects homes → AreRestsIn sys j rests

-- so do those by what lane 0 tells
abbrev pub QkRestsAreTold : Type 0
QkRestsAreTold =
    (sys : System) (budget : ℕ) (first : LaneView) (sources : List LaneView) (j : Journal) (rests : List Rest)
    → SealsLanes sys qk budget (first ∷ sources) j → AreRests sys (λ o. own_told o first.told) rests → AreRestsIn sys j rests
