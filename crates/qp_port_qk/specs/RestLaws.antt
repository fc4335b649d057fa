-- What a turn under `qk` leaves where it has come to its end.
use Rattle.std.specs.Prelude.{◌≡◌, ◌⊎◌, ℕ, true, List, [], ◌∷◌, IsTrue}
use Rattle.qp_model.specs.declared.systems.System.{System}
use Rattle.qp_model.specs.Ends.{may_cut, quiet}
use Rattle.qp_model.specs.KernelLane.{is_over}
use Rattle.qp_model.specs.Kernels.{qk}
use Rattle.qp_model.specs.Sound.{IsSound}
use Rattle.qp_model.specs.WordLaw.{is_object}
use Rattle.qp_model_order.specs.RunOrder.{has_stim}
use Rattle.qp_calls.specs.LaneView.{LaneView}
use Rattle.qp_kernel.specs.Happenings.{lanes_of}
use Rattle.qp_kernel.specs.Turning.{KernelState, under_qk}
use Rattle.qp_kernel.specs.ZeroEnds.{ZeroEnds}
use Rattle.qp_kernel_turns.specs.declared.objects.Objects.{Objects}
use Rattle.qp_kernel_turns.specs.Knowing.{HandsFollow, HasStack}
use Rattle.qp_kernel_turns.specs.Objects.{AreMade}
use Rattle.qp_kernel_turns.specs.Turning.{Stand, Stood, idle_in}
use Rattle.qp_port_law.specs.QuietLaws.{IsLastLook}
use Rattle.qp_port_law.specs.Lanes.{HaveNone}
use Rattle.qp_port_law.specs.QkLanes.{QkRests}

-- All objects have started and rest, and no row of looks is under way: behind the starts, or where a row at the base is over.
pub record IsAtBase (sys : System) (s : KernelState) : Type 0 where
  pub stack : HasStack sys [] s
  pub owed : s.owed ≡ 0
  pub base : s.reading.running ≡ []
  pub whole : is_over qk s.reading.place ≡ true

-- From a lane with nothing in its hands and objects that hadn't started, starts and turns have come to the base.
pub record HasTurned (sys : System) (budget : ℕ) (xs : Objects) (v : LaneView) (b : Stand) : Type 0 where
  pub sound : IsSound sys
  pub made : AreMade sys xs
  pub none : v.hands ≡ []
  pub follows : HandsFollow xs v b.objects b.lane
  pub rests : Stood (IsAtBase sys) sys (under_qk budget) b

-- Where lane 0 was the last to look at every queue, and saw it empty, nothing is left undone in it.
abbrev pub TurnedKernelsRest : Type 0
TurnedKernelsRest =
    (sys : System) (budget : ℕ) (xs : Objects) (v : LaneView) (b : Stand) (sources : List LaneView) → HasTurned sys budget xs v b
    → ((a : ℕ) → IsTrue (is_object sys a) → IsLastLook (b.lane ∷ sources) a b.lane) → HaveNone sources → QkRests sys budget b.lane sources

-- Lane 0 may end there, with as many rows without a step as its records have: quietly, or where another lane stops the run.
abbrev pub TurnedKernelsEnd : Type 0
TurnedKernelsEnd =
    (sys : System) (budget : ℕ) (xs : Objects) (v : LaneView) (b : Stand) (end : ℕ) → HasTurned sys budget xs v b → (end ≡ quiet) ⊎ (may_cut end ≡ true)
    → ZeroEnds sys qk budget end (idle_in sys (under_qk budget) b.lane.told (has_stim (lanes_of b.lane))) b.lane.told (has_stim (lanes_of b.lane))
