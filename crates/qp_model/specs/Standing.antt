-- Where an object stands in its course, and what its pieces so far have to do with what is to come.
use Rattle.std.specs.Prelude.{List, ◌++◌, Some}
use Rattle.std.specs.declared.option.Option.{Option}
use Rattle.qp_model.specs.declared.systems.System.{System}
use Rattle.qp_model.specs.declared.bodies.Entry.{Entry}
use Rattle.qp_model.specs.Told.{Event}
use Rattle.qp_model.specs.Pieces.{Piece}
use Rattle.qp_model.specs.Acts.{Actor, Config, Moment}
use Rattle.qp_model.specs.Step.{Remainder, DoesLeft, StepGoesOn}
use Rattle.qp_model.specs.Course.{Course}

-- an object between two steps, or in a step over an entry, with what is left of it
pub data Standing : Type 0 where
  Between : (c : Config) → Standing
  Within : (ev : Event) (e : Entry) (left : Remainder) (c : Config) → Standing

-- the pieces over these entries leave the object standing so: they are a course, or they are one with whatever ends the step
unfoldable pub Leaves : System → Actor → Config → List Entry → List Piece → Standing → Type 0
unfolding Course StepGoesOn
Leaves sys a first es ps (Between c) = Course sys a first es ps (Some c)
Leaves sys a first es ps (Within ev e left c) =
    (qs : List Piece) (end : Option Config) → StepGoesOn sys a ev e left c qs end → Course sys a first es (ps ++ qs) end

-- whatever goes on from the second of the two goes on from the first, behind these pieces
unfoldable pub StepAdvances : System → Actor → Event → Entry → Remainder → Config → List Piece → Remainder → Config → Type 0
unfolding StepGoesOn
StepAdvances sys a ev e left c g later d =
    (qs : List Piece) (end : Option Config) → StepGoesOn sys a ev e later d qs end → StepGoesOn sys a ev e left c (g ++ qs) end

-- the same of an agenda alone, of a start or of a step: whatever does the second does the first, behind these pieces
unfoldable pub AgendaReaches : System → Actor → Moment → Remainder → Config → List Piece → Remainder → Config → Type 0
unfolding DoesLeft
AgendaReaches sys a at left c g later d =
    (body : List Piece) (mid : Option Config) → DoesLeft sys a at later.publishing later.posts later.tasks d body mid
    → DoesLeft sys a at left.publishing left.posts left.tasks c (g ++ body) mid
