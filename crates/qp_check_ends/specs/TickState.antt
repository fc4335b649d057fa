-- What is left of a tick, record by record.
use Rattle.std.specs.Prelude.{ℕ, ◌+◌, ◌==◌, nat_lt, Bool, true, false, ◌&&◌, List, [], ◌∷◌, if◌then◌else◌, Some, None}
use Rattle.std.specs.declared.option.Option.{Option}
use Rattle.qp_model.specs.declared.systems.TimerDef.{TimerDef}
use Rattle.qp_model.specs.declared.systems.System.{System}
use Rattle.qp_model.specs.declared.bodies.Body.{Body}
use Rattle.qp_model.specs.declared.bodies.Body.TheVariants as body
use Rattle.qp_model.specs.Record.{entry}
use Rattle.qp_model.specs.Line.{same_entry}
use Rattle.qp_model.specs.Told.{Told, Known, Nothing}
use Rattle.qp_model.specs.Sites.{ring_of}
use Rattle.qp_model.specs.Parts.{room_before}

-- a timer by its number, with its object and its signal
pub record Due : Type 0 where
  pub t : ℕ
  pub object : ℕ
  pub sig : ℕ

-- the timers of a rate among these, which are numbered from t on
unfoldable pub dues : ℕ → ℕ → List TimerDef → List Due
dues rate t [] = []
dues rate t (d ∷ ds) = if d.rate == rate then record { t = t; object = d.object; sig = d.sig } ∷ dues rate (t + 1) ds else dues rate (t + 1) ds

pub data TickState : Type 0 where
  -- these timers are yet to be reached
  Reaching : (left : List Due) → TickState
  -- the post of a timer that fired, and then these timers
  Fired : (object sig : ℕ) (left : List Due) → TickState
  -- a timer fired in vain, and nothing follows
  Vain : TickState

abbrev pub reach_next : Due → List Due → Body → Known → Option TickState
reach_next x left (body.Idle t n) Nothing = if t == x.t then Some (Reaching left) else None
reach_next x left (body.Tick t n counter) Nothing = if t == x.t then Some (Reaching left) else None
reach_next x left (body.Fire t n reload) Nothing = if t == x.t then Some (Fired x.object x.sig left) else None
reach_next x left b known = None

-- an entry was free before a post after which the counts are these
unfoldable pub ring_had_room : ℕ → ℕ → ℕ → ℕ → Bool
unfolding room_before
ring_had_room ring f l m = nat_lt 0 (room_before ring f l m)

abbrev pub fired_next : ℕ → ℕ → ℕ → List Due → Body → Known → Option TickState
fired_next ring object sig left (body.Post a f l m e) Nothing =
    if (a == object) && same_entry e (entry 0 sig 0) && ring_had_room ring f l m then Some (Reaching left) else None
fired_next ring object sig left (body.NoEntry a f l m) Nothing = if a == object then Some Vain else None
fired_next ring object sig left b known = None

-- what is left of a tick behind its next record
unfoldable pub tick_next : System → TickState → Told → Option TickState
unfolding ring_had_room ring_of
tick_next sys (Reaching []) t = None
tick_next sys (Reaching (x ∷ left)) t = reach_next x left t.body t.known
tick_next sys (Fired object sig left) t = fired_next (ring_of sys object) object sig left t.body t.known
tick_next sys Vain t = None

-- the tick is done
abbrev pub tick_done : TickState → Bool
tick_done (Reaching []) = true
tick_done rest = false

-- the tick ended in an assertion
abbrev pub tick_asserted : TickState → Bool
tick_asserted Vain = true
tick_asserted rest = false

-- more records may follow
abbrev pub tick_open : TickState → Bool
tick_open (Reaching []) = false
tick_open Vain = false
tick_open rest = true
