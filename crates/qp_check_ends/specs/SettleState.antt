-- What is left of a settle, record by record.
use Rattle.std.specs.Prelude.{ℕ, ◌+◌, ◌==◌, nat_lt, Bool, true, false, ◌&&◌, List, [], ◌∷◌, if◌then◌else◌, Some, None}
use Rattle.std.specs.declared.option.Option.{Option}
use Rattle.qp_model.specs.declared.systems.System.{System}
use Rattle.qp_model.specs.declared.bodies.Body.{Body}
use Rattle.qp_model.specs.declared.bodies.Body.TheVariants as body
use Rattle.qp_model.specs.Told.{Told, Known, Nothing}
use Rattle.qp_model.specs.Kernels.{may_try}
use Rattle.qp_model.specs.Sources.{priorities}

pub data SettleState : Type 0 where
  -- a `settle` comes next; a try may stand before it
  Before : (tried : Bool) → SettleState
  -- the queues of these objects are yet to be seen
  Seeing : (left : List ℕ) → SettleState

abbrev pub before_next : List ℕ → Body → Known → Option SettleState
before_next objects body.Settle Nothing = Some (Seeing objects)
before_next objects b known = None

-- behind a queue that is seen: it was empty, or its entry ends a try
abbrev pub behind_seen : ℕ → List ℕ → ℕ → ℕ → Option SettleState
behind_seen kernel left posted taken =
    if posted == taken then Some (Seeing left) else (if nat_lt taken posted && may_try kernel then Some (Before true) else None)

abbrev pub settle_seen_next : ℕ → ℕ → List ℕ → Body → Known → Option SettleState
settle_seen_next kernel o left (body.Seen p f l m) Nothing = if p == o then behind_seen kernel left (f + l) m else None
settle_seen_next kernel o left b known = None

-- what is left of a settle behind its next record
unfoldable pub settle_next : System → ℕ → SettleState → Told → Option SettleState
settle_next sys kernel (Before tried) t = before_next (priorities sys) t.body t.known
settle_next sys kernel (Seeing []) t = None
settle_next sys kernel (Seeing (o ∷ left)) t = settle_seen_next kernel o left t.body t.known

-- the settle is done
abbrev pub settle_done : SettleState → Bool
settle_done (Seeing []) = true
settle_done rest = false

-- a try has just ended
abbrev pub settle_tried : ℕ → SettleState → Bool
settle_tried kernel (Before tried) = tried && may_try kernel
settle_tried kernel rest = false

-- more records may follow
abbrev pub settle_open : SettleState → Bool
settle_open (Seeing []) = false
settle_open rest = true
