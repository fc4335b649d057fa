-- What the dispatcher may rest on: the object is one of the system, and its actions name what the system has.
use Rattle.std.specs.Prelude.{◌≡◌, ℕ, ◌-◌, ◌≤◌, ◌<◌, ⊤, length, slice_get, Some, IsTrue, IsSome}
use Rattle.std.specs.declared.option.Option.{Option}
use Rattle.qp_chart.specs.declared.actions.Plain.{Plain}
use Rattle.qp_chart.specs.declared.checked.Chart.{Chart}
use Rattle.qp_chart.specs.Task.{Task, Do}
use Rattle.qp_model.specs.declared.systems.System.{System}
use Rattle.qp_model.specs.declared.systems.TimerDef.{TimerDef}
use Rattle.qp_model.specs.Parts.{timer_number}
use Rattle.qp_model.specs.Sound.{IsSound}
use Rattle.qp_model.specs.SoundChart.{IsSoundPlain}
use Rattle.qp_model.specs.WordLaw.{is_object}
use Rattle.qp_calls.specs.declared.tokens.HeldEntry.{HeldEntry}

-- the timer at this place of the object's chart is one of the system, and the object's
pub record HasTimer (sys : System) (me place : ℕ) : Type 0 where
  pub some : 0 < timer_number sys.timers me place
  pub few : timer_number sys.timers me place < 256
  pub timer : TimerDef
  pub there : slice_get sys.timers (timer_number sys.timers me place - 1) ≡ Some timer
  pub owner : timer.object ≡ me

-- the object is one of the system, with all timers of its chart
pub record IsObjectWithTimers (sys : System) (me : ℕ) (chart : Chart) : Type 0 where
  pub sound : IsSound sys
  pub some : 0 < me
  pub object : IsTrue (is_object sys me)
  pub timers : (place : ℕ) → 1 ≤ place → place ≤ length chart.timer → HasTimer sys me place

-- a task whose action names what the system has; an entry is at hand, or none
abbrev pub IsSoundTask : System → Chart → Option ℕ → Task → Type 0
IsSoundTask sys chart inside (Do p) = IsSoundPlain sys chart inside p
IsSoundTask sys chart inside _ = ⊤

-- an action of the object's chart; `forward` and `defer` have an entry at hand
pub record MayAct (sys : System) (me : ℕ) (hand : Option HeldEntry) (p : Plain) : Type 0 where
  pub chart : Chart
  pub inside : Option ℕ
  pub home : IsObjectWithTimers sys me chart
  pub plain : IsSoundPlain sys chart inside p
  pub at_hand : IsSome inside → IsSome hand

-- the same of a task
abbrev pub MayTask : System → ℕ → Option HeldEntry → Task → Type 0
MayTask sys me hand (Do p) = MayAct sys me hand p
MayTask sys me hand _ = ⊤
