-- What is left of a stimulus behind its `stim`, record by record.
use Rattle.std.specs.Prelude.{ℕ, Bool, false, not, [], if◌then◌else◌, Some, None, is_none}
use Rattle.std.specs.declared.option.Option.{Option}
use Rattle.std.specs.Option.{option_map, option_map_or}
use Rattle.qp_model.specs.declared.stimulus.Stim.{Stim}
use Rattle.qp_model.specs.declared.stimulus.Stim.TheVariants as stim
use Rattle.qp_model.specs.declared.systems.System.{System}
use Rattle.qp_model.specs.Told.{Told}
use Rattle.qp_model.specs.Calls as call
use Rattle.qp_model.specs.Calls.{Call, is_assertion}
use Rattle.qp_check_calls.specs.CallState.{CallState}
use Rattle.qp_check_calls.specs.CallStateNext.{call_state_begin, call_state_next, stage_answer}
use Rattle.qp_check_calls.specs.Reads.{call_able}
use Rattle.qp_check_ends.specs.TickState.{TickState, Reaching, dues, tick_next, tick_done, tick_asserted, tick_open}
use Rattle.qp_check_ends.specs.SettleState.{SettleState, Before, settle_next, settle_done, settle_tried, settle_open}

pub data Underway : Type 0 where
  Calling : (rest : CallState) → Underway
  Ticking : (rest : TickState) → Underway
  Settling : (rest : SettleState) → Underway

-- a call begins, where it has what it asks for
unfoldable pub call_begin : System → Call → Option Underway
unfolding call_able
call_begin sys x = if call_able sys None x then Some (Calling (call_state_begin 0 [] x)) else None

-- a stimulus begins
unfoldable pub underway_begin : System → Stim → Option Underway
unfolding call_begin dues
underway_begin sys (stim.Post to ev margin reserve) = call_begin sys (call.Post to ev.sig ev.pars.items margin reserve)
underway_begin sys (stim.Publish ev reserve) = call_begin sys (call.Publish ev.sig ev.pars.items reserve)
underway_begin sys (stim.Tick rate) = Some (Ticking (Reaching (dues rate 1 sys.timers)))
underway_begin sys stim.Settle = Some (Settling (Before false))

-- what is left behind the next record
unfoldable pub underway_next : System → ℕ → Underway → Told → Option Underway
unfolding call_state_next settle_next tick_next
underway_next sys kernel (Calling rest) t = option_map Calling (call_state_next sys 0 None rest t)
underway_next sys kernel (Ticking rest) t = option_map Ticking (tick_next sys rest t)
underway_next sys kernel (Settling rest) t = option_map Settling (settle_next sys kernel rest t)

-- the stimulus is done
abbrev pub underway_done : Underway → Bool
underway_done (Calling rest) = option_map_or (λ answer. not (is_assertion answer)) (stage_answer rest.stage) false
underway_done (Ticking rest) = tick_done rest
underway_done (Settling rest) = settle_done rest

-- an assertion ended it
abbrev pub underway_asserted : Underway → Bool
underway_asserted (Calling rest) = option_map_or is_assertion (stage_answer rest.stage) false
underway_asserted (Ticking rest) = tick_asserted rest
underway_asserted (Settling rest) = false

-- a try of a `settle` has just ended
abbrev pub underway_tried : ℕ → Underway → Bool
underway_tried kernel (Settling rest) = settle_tried kernel rest
underway_tried kernel u = false

-- more records may follow
abbrev pub underway_open : Underway → Bool
underway_open (Calling rest) = is_none (stage_answer rest.stage)
underway_open (Ticking rest) = tick_open rest
underway_open (Settling rest) = settle_open rest
