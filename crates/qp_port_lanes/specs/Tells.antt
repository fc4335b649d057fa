-- What a source tells its gate.
use Rattle.std.specs.Prelude.{◌≡◌, ◌⊎◌, ℕ, ◌+◌, List, [], ◌∷◌, ◌++◌, Some, None}
use Rattle.std.specs.declared.option.Option.{Option}
use Rattle.qp_model.specs.declared.bodies.Body.TheVariants as body
use Rattle.qp_model.specs.Told.{for_object, plain}
use Rattle.qp_calls.specs.LaneView.{LaneView}
use Rattle.qp_dispatch.specs.declared.objects.Turn.{Turn}
use Rattle.qp_dispatch.specs.declared.objects.Turn.TheVariants as turn
use Rattle.qp_told.specs.Steps.{TellsSteps}
use Rattle.qp_port_lanes.specs.declared.cursor.Cursor.{Cursor}

-- no stimulus has begun: no record came, or the `spill` of a full lane
abbrev pub NotBegun : LaneView → LaneView → Type 0
NotBegun v w = (w.told ≡ v.told) ⊎ ((n : ℕ) × (w.told ≡ v.told ++ for_object 0 (plain (body.Spill n)) ∷ []))

-- a turn ends at this stimulus: it was told, or it has not begun
abbrev pub EndTells : ℕ → LaneView → LaneView → List ℕ → List ℕ → Type 0
EndTells place v w old new = (new ≡ place ∷ old) ⊎ ((new ≡ old) × NotBegun v w)

-- where the turn goes on to its end nothing was told of the next stimulus
abbrev pub TurnEndTells : ℕ → LaneView → LaneView → List ℕ → List ℕ → Turn → Type 0
TurnEndTells place v w old new turn.Idle = new ≡ old
TurnEndTells place v w old new turn.Stopped = EndTells place v w old new
TurnEndTells place v w old new turn.Memory = EndTells place v w old new

abbrev pub NextTells : Cursor → Cursor → LaneView → LaneView → List ℕ → List ℕ → Option Turn → Type 0
NextTells x y v w old new None = new ≡ y.begun ∷ old
NextTells x y v w old new (Some t) = (y.begun ≡ x.begun) × TurnEndTells (x.begun + 1) v w old new t

-- each stimulus that was done was told, and perhaps one more
abbrev pub BreakTells : Cursor → Cursor → List ℕ → List ℕ → Type 0
BreakTells x y old new = TellsSteps x.begun y.begun old new ⊎ TellsSteps x.begun (y.begun + 1) old new

-- Each stimulus that was done was told. Where the turn broke off the one at which it ended may have been told too.
abbrev pub SourceTells : Cursor → Cursor → List ℕ → List ℕ → Turn → Type 0
SourceTells x y old new turn.Idle = TellsSteps x.begun y.begun old new
SourceTells x y old new turn.Stopped = BreakTells x y old new
SourceTells x y old new turn.Memory = BreakTells x y old new
