-- The record by which a stimulus goes on, by what the words hold.
use Rattle.std.specs.Prelude.{ℕ, ◌-◌, ◌==◌, [], ◌∷◌, if◌then◌else◌, Some, None}
use Rattle.std.specs.declared.option.Option.{Option}
use Rattle.qp_model.specs.declared.systems.System.{System}
use Rattle.qp_model.specs.declared.bodies.Body.TheVariants as body
use Rattle.qp_model.specs.Record.{entry}
use Rattle.qp_model.specs.TimeEvents.{Clock}
use Rattle.qp_model.specs.Told.{Told, plain}
use Rattle.qp_model.specs.Sites.{ring_of}
use Rattle.qp_check_ends.specs.TickState.{TickState, Reaching, Fired, Vain}
use Rattle.qp_check_ends.specs.SettleState.{SettleState, Before, Seeing}
use Rattle.qp_check_ends.specs.Underway.{Underway, Calling, Ticking, Settling}
use Rattle.qp_unique.specs.Held.{WordsHeld}
use Rattle.qp_unique.specs.NextInCall.{stage_told, post_told}

-- a timer is reached: it is idle, or its counter falls, or it fires
abbrev pub reach_told : Clock → ℕ → Told
reach_told s t =
    if s.counter == 0 then plain (body.Idle t s.count)
    else (if s.counter == 1 then plain (body.Fire t s.count s.interval) else plain (body.Tick t s.count (s.counter - 1)))

unfoldable pub tick_told : System → WordsHeld → TickState → Option Told
unfolding post_told ring_of
tick_told sys h (Reaching []) = None
tick_told sys h (Reaching (x ∷ left)) = Some (reach_told (h.clocks x.t) x.t)
tick_told sys h (Fired object sig left) = Some (post_told (ring_of sys object) (h.lines object) object None (entry 0 sig 0))
tick_told sys h Vain = None

abbrev pub seen_of_held : WordsHeld → ℕ → Told
seen_of_held h p = plain (body.Seen p (h.lines p).f (h.lines p).l (h.lines p).m)

abbrev pub settle_told : WordsHeld → SettleState → Option Told
settle_told h (Before tried) = Some (plain body.Settle)
settle_told h (Seeing []) = None
settle_told h (Seeing (p ∷ left)) = Some (seen_of_held h p)

-- the next record of a stimulus; none where it is done
unfoldable pub underway_told : System → WordsHeld → Underway → Option Told
unfolding stage_told tick_told
underway_told sys h (Calling rest) = stage_told sys h 0 None rest.kept rest.stage
underway_told sys h (Ticking rest) = tick_told sys h rest
underway_told sys h (Settling rest) = settle_told h rest
