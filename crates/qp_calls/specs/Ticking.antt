-- Ticks of the time events of a rate.
use Rattle.std.specs.Prelude.{◌≡◌, ◌≢◌, ℕ, Bool, true, false, List, [], ◌++◌, map, Ok, Err}
use Rattle.std.specs.declared.result.Result.{Result}
use Rattle.qp_model.specs.declared.systems.TimerDef.{TimerDef}
use Rattle.qp_model.specs.declared.bodies.Body.{Body}
use Rattle.qp_model.specs.declared.bodies.Body.TheVariants.{Tick, Fire}
use Rattle.qp_model.specs.Told.{Told, ToldItem}
use Rattle.qp_model.specs.Sites.{ring_of}
use Rattle.qp_model.specs.Sources.{Ticks, TicksOne, FiresInVain}
use Rattle.qp_model.specs.Stops as stop
use Rattle.qp_calls.specs.declared.answers.RoomFault.{RoomFault}
use Rattle.qp_calls.specs.declared.did.Did.{Did}
use Rattle.qp_calls.specs.declared.did.Did.TheVariants as did
use Rattle.qp_calls.specs.LaneView.{LaneView, Gains}
use Rattle.qp_calls.specs.Clauses.{IsFault}
use Rattle.qp_calls.specs.Groups.{Refused}

-- a tick that changes a timer is no object's; the other records are of the object set by `by`
abbrev pub ticker : ℕ → Body → ℕ
ticker by (Tick t n counter) = 0
ticker by (Fire t n reload) = 0
ticker by _ = by

abbrev pub by_ticker : ℕ → Told → ToldItem
by_ticker by t = record { of = ticker by t.body; told = t }

abbrev pub GrowsByTicks : List Told → LaneView → LaneView → Type 0
GrowsByTicks g old new = Gains (map (by_ticker old.by) g) old new

-- one timer, whose signal is posted to its object where it fires
abbrev pub timer_posting : ℕ → ℕ → TimerDef
timer_posting object sig = record { object = object; sig = sig; rate = 0 }

pub record TickedTimer (t object sig : ℕ) (old new : LaneView) : Type 0 where
  pub g : List Told
  pub grows : GrowsByTicks g old new
  pub fits : TicksOne (ring_of old.sys object) t (timer_posting object sig) g
  pub hands : new.hands ≡ old.hands

pub record FiredInVain (t object sig : ℕ) (old new : LaneView) : Type 0 where
  pub g : List Told
  pub grows : GrowsByTicks g old new
  pub fits : FiresInVain t (timer_posting object sig) g

abbrev pub TicksTimer : ℕ → ℕ → ℕ → LaneView → LaneView → Result Did RoomFault → Type 0
TicksTimer t object sig old new (Ok (did.Value n)) = TickedTimer t object sig old new
TicksTimer t object sig old new (Ok (did.Assert code)) = (code ≡ stop.no_entry) × FiredInVain t object sig old new
TicksTimer t object sig old new (Err fault) = Refused fault old new

-- The ticks of a rate: all of them, or up to one whose post found no entry, or up to where `room` refused.

pub record TickedAll (rate : ℕ) (asserted : Bool) (old new : LaneView) : Type 0 where
  pub g : List Told
  pub grows : GrowsByTicks g old new
  pub fits : Ticks old.sys rate 1 old.sys.timers asserted g
  pub hands : asserted ≡ false → new.hands ≡ old.hands

pub record TickCut (rate : ℕ) (old new : LaneView) : Type 0 where
  pub g : List Told
  pub rest : List Told
  pub grows : GrowsByTicks g old new
  pub fits : Ticks old.sys rate 1 old.sys.timers false (g ++ rest)
  pub some : rest ≢ []

abbrev pub TicksRate : ℕ → LaneView → LaneView → Result Did RoomFault → Type 0
TicksRate rate old new (Ok (did.Value n)) = (n ≡ 1) × TickedAll rate false old new
TicksRate rate old new (Ok (did.Assert code)) = (code ≡ stop.no_entry) × TickedAll rate true old new
TicksRate rate old new (Err fault) = TickCut rate old new × IsFault new fault

-- the timers of this front of the list
pub record TickedSome (rate : ℕ) (done : List TimerDef) (old new : LaneView) : Type 0 where
  pub g : List Told
  pub grows : GrowsByTicks g old new
  pub fits : Ticks old.sys rate 1 done false g
  pub hands : new.hands ≡ old.hands
