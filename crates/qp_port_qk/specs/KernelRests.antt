-- The kernel's lane between two turns.
use Rattle.std.specs.Prelude.{◌≡◌, ℕ, ◌≤◌, true, []}
use Rattle.qp_model.specs.declared.systems.System.{System}
use Rattle.qp_model.specs.Ends.{may_cut}
use Rattle.qp_model_order.specs.RunOrder.{has_stim}
use Rattle.qp_calls.specs.LaneView.{LaneView}
use Rattle.qp_kernel.specs.declared.kernel.Kernel.{Kernel}
use Rattle.qp_kernel.specs.Happenings.{has_no_stim, lanes_of}
use Rattle.qp_kernel.specs.Turning.{under_qk}
use Rattle.qp_kernel_turns.specs.declared.objects.Objects.{Objects}
use Rattle.qp_kernel_turns.specs.AtRest.{OthersRest}
use Rattle.qp_kernel_turns.specs.Knowing.{HandsFollow}
use Rattle.qp_kernel_turns.specs.Objects.{AreMade}
use Rattle.qp_kernel_turns.specs.Starting.{IsFreshLane}
use Rattle.qp_kernel_turns.specs.Turning.{EndsSo, Stood, stand_of}
use Rattle.qp_port_qk.specs.RestLaws.{IsAtBase}

-- From objects that hadn't started and a lane with nothing in its hands, starts and perhaps turns have come to the base.
pub record KernelRests (sys : System) (budget : ℕ) (xs : Objects) (k : Kernel) (v : LaneView) : Type 0 where
  pub first : Objects
  pub start : LaneView
  pub made : AreMade sys first
  pub none : start.hands ≡ []
  pub follows : HandsFollow first start xs v
  pub rests : Stood (IsAtBase sys) sys (under_qk budget) (stand_of k xs v)
  pub no_stim : has_no_stim v
  pub counted : k.steps ≤ k.looks
  pub plan : v.plan ≡ []

-- the lane may end so where the run stopped early, and objects whose steps aren't under way rest
pub record KernelStops (sys : System) (budget : ℕ) (xs : Objects) (k : Kernel) (v : LaneView) : Type 0 where
  pub ends : (end : ℕ) → may_cut end ≡ true → EndsSo sys (under_qk budget) end v.told (has_stim (lanes_of v))
  pub others : OthersRest sys (stand_of k xs v)

-- the lane may end so where the run stopped early
abbrev pub KernelEnds : System → ℕ → LaneView → Type 0
KernelEnds sys budget v = (end : ℕ) → may_cut end ≡ true → EndsSo sys (under_qk budget) end v.told (has_stim (lanes_of v))

-- nothing has started, in a new lane that serves all objects
pub record KernelBegins (sys : System) (xs : Objects) (k : Kernel) (v : LaneView) : Type 0 where
  pub made : AreMade sys xs
  pub fresh : IsFreshLane sys v
  pub plan : v.plan ≡ []
  pub looks : k.looks ≡ 0
  pub stack : k.stack.items ≡ []
  pub steps : k.steps ≡ 0
