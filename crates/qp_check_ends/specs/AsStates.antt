-- What is left of a tick or a settle, as their definitions see it.
use Rattle.std.specs.Prelude.{ℕ, ◌+◌, List, drop}
use Rattle.qp_model.specs.declared.systems.System.{System}
use Rattle.qp_model.specs.Sources.{priorities}
use Rattle.qp_check_ends.specs.TickState as tick
use Rattle.qp_check_ends.specs.TickState.{Due, dues}
use Rattle.qp_check_ends.specs.SettleState as settle
use Rattle.qp_check_ends.specs.declared.tick_state.TickState.{TickState}
use Rattle.qp_check_ends.specs.declared.tick_state.TickState.TheVariants as declared_tick
use Rattle.qp_check_ends.specs.declared.settle_state.SettleState.{SettleState}
use Rattle.qp_check_ends.specs.declared.settle_state.SettleState.TheVariants as declared_settle

-- the timers of a rate from this place on
unfoldable pub dues_from : System → ℕ → ℕ → List Due
unfolding dues
dues_from sys rate at = dues rate (at + 1) (drop at sys.timers)

-- the objects from this place on
unfoldable pub objects_from : System → ℕ → List ℕ
objects_from sys at = drop at (priorities sys)

abbrev pub as_tick : System → TickState → tick.TickState
as_tick sys (declared_tick.Reaching rate at) = tick.Reaching (dues_from sys rate at)
as_tick sys (declared_tick.Fired rate object sig at) = tick.Fired object sig (dues_from sys rate at)
as_tick sys declared_tick.Vain = tick.Vain

abbrev pub as_settle : System → SettleState → settle.SettleState
as_settle sys (declared_settle.Before tried) = settle.Before tried
as_settle sys (declared_settle.Seeing at) = settle.Seeing (objects_from sys at)
