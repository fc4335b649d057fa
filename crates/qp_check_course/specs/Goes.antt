-- What may still come in an object's course, read from the front.
use Rattle.std.specs.Prelude.{◌≡◌, ℕ, max, List, [], ◌∷◌, ◌++◌, slice_set, Some, None}
use Rattle.std.specs.declared.option.Option.{Option}
use Rattle.std.specs.Bool.{MatchBool}
use Rattle.qp_chart.specs.Task.{Task, Begin, Run, Unhandled, Exit, Enter, Init, Done, Do, Raise, Restore}
use Rattle.qp_chart.specs.Agenda.{start_plan, step_plan}
use Rattle.qp_model.specs.declared.systems.System.{System}
use Rattle.qp_model.specs.declared.bodies.Entry.{Entry}
use Rattle.qp_model.specs.declared.bodies.Body.TheVariants as item
use Rattle.qp_model.specs.Told.{Told, Event, plain, raised}
use Rattle.qp_model.specs.Calls.{Call, Answer, Deed, Sets, Says, Calls, deed_of, ok_after, is_assertion}
use Rattle.qp_model.specs.Shapes.{Fits, Drops}
use Rattle.qp_model.specs.Deferral.{KeepsDeferred}
use Rattle.qp_model.specs.Pieces.{Piece, Point, pieces_of, tell}
use Rattle.qp_model.specs.Acts.{Config, Actor, Moment, Later, names_of, Notes}
use Rattle.qp_model.specs.Step.{moment}
use Rattle.qp_model.specs.Course.{Steps, at_start}

-- what is under way: a start, whose list has no points; or a step over an entry
pub data Way : Type 0 where
  Starting : Way
  Stepping : (ev : Event) (e : Entry) → Way

abbrev pub moment_of : Way → Moment
moment_of Starting = at_start
moment_of (Stepping ev e) = moment ev e

-- the end of an action: a point of a step, and nothing in a start
abbrev pub Ends : Way → (List Piece → Type 0) → List Piece → Type 0
Ends Starting later ps = later ps
Ends (Stepping ev e) later ps = (rest : List Piece) × (ps ≡ Point ∷ rest) × later rest

-- the pieces of a call, in a start without points
abbrev pub call_pieces : Way → Call → List Told → List Piece
call_pieces Starting x g = tell g
call_pieces (Stepping ev e) x g = pieces_of x g

-- a call, and what comes after it: nothing, where it ends in an assertion
unfoldable pub CallGoes : System → Actor → Way → Config → Later → Call → List Piece → Type 0
unfolding Fits KeepsDeferred pieces_of
CallGoes sys a way c later x ps =
    (answer : Answer) × (g : List Told) × (kept : List Entry) × Fits sys a.o (moment_of way).entry x answer g × KeepsDeferred a.room x g c.kept kept
    × MatchBool (is_assertion answer)
    (ps ≡ call_pieces way x g)
    ((rest : List Piece) × (ps ≡ call_pieces way x g ++ rest) × Ends way (later (record c { ok = ok_after answer c.ok; kept = kept })) rest)

-- an action, and what comes after it
unfoldable pub DeedGoes : System → Actor → Way → Config → Later → Deed → List Piece → Type 0
unfolding CallGoes
DeedGoes sys a way c later (Sets var value) ps = Ends way (later (record c { vars = slice_set c.vars var value })) ps
DeedGoes sys a way c later (Says value) ps = Notes (plain (item.Say value)) (Ends way (later c)) ps
DeedGoes sys a way c later (Calls x) ps = CallGoes sys a way c later x ps

-- a task, and what comes after it
unfoldable pub TaskGoes : System → Actor → Way → Config → Later → Task → List Piece → Type 0
unfolding DeedGoes deed_of
TaskGoes sys a way c later (Do p) ps = DeedGoes sys a way c later (deed_of (names_of a c (moment_of way).event) p) ps
TaskGoes sys a way c later (Raise ceiling) ps =
    (former : ℕ) × Notes (raised (max former ceiling) former) (later (record c { former = former })) ps
TaskGoes sys a way c later Restore ps = Notes (plain (item.Unlock c.former)) (Ends way (later c)) ps
TaskGoes sys a way c later Begin ps = Notes (plain item.Begin) (later c) ps
TaskGoes sys a way c later (Run s k) ps = Notes (plain (item.Run s k)) (later c) ps
TaskGoes sys a way c later Unhandled ps = Notes (plain item.Unhandled) (later c) ps
TaskGoes sys a way c later (Exit s) ps = Notes (plain (item.Exit s)) (later c) ps
TaskGoes sys a way c later (Enter s) ps = Notes (plain (item.Enter s)) (later c) ps
TaskGoes sys a way c later (Init s) ps = Notes (plain (item.Init s)) (later c) ps
TaskGoes sys a way c later Done ps = Notes (plain item.Done) (later c) ps

-- some tasks, and what comes after them
unfoldable pub TasksGo : System → Actor → Way → Later → List Task → Config → List Piece → Type 0
unfolding TaskGoes
TasksGo sys a way later [] c ps = later c ps
TasksGo sys a way later (t ∷ ts) c ps = TaskGoes sys a way c (λ d rest. TasksGo sys a way later ts d rest) t ps

-- what is asked of the configuration in which a course ends
abbrev pub Aim : Type 1
Aim = Config → Type 0

-- nothing is
abbrev pub anywhere : Aim
anywhere c = Unit {0}

-- a course that an assertion broke off has none
abbrev pub MeetsAim : Aim → Option Config → Type 0
MeetsAim aim None = Unit {0}
MeetsAim aim (Some c) = aim c

-- between steps: some more of them
unfoldable pub StepsGo : System → Actor → Aim → Config → List Piece → Type 0
unfolding Steps
StepsGo sys a aim c ps = (es : List Entry) × (end : Option Config) × Steps sys a es (Some c) ps end × MeetsAim aim end

-- after the tasks of a start or of a step: the release of the step's entry, and then more steps
unfoldable pub Closing : System → Actor → Aim → Way → ℕ → Config → List Piece → Type 0
unfolding StepsGo Drops
Closing sys a aim Starting leaf c ps = StepsGo sys a aim (record c { leaf = leaf }) ps
Closing sys a aim (Stepping ev e) leaf c ps =
    (rel : List Told) × (rest : List Piece) × Drops e rel × (ps ≡ tell rel ++ rest) × StepsGo sys a aim (record c { leaf = leaf }) rest

-- the tasks left of a start or of a step, and all that comes after them
unfoldable pub LeftGoes : System → Actor → Aim → Way → List Task → ℕ → Config → List Piece → Type 0
unfolding TasksGo Closing
LeftGoes sys a aim way ts leaf c ps = TasksGo sys a way (Closing sys a aim way leaf) ts c ps

-- the whole course of an object, from its first configuration
unfoldable pub CourseGoes : System → Actor → Aim → Config → List Piece → Type 0
unfolding LeftGoes start_plan
CourseGoes sys a aim first ps = LeftGoes sys a aim Starting (start_plan a.chart).tasks (start_plan a.chart).leaf first ps

-- a step over an event, after its `took`
unfoldable pub StepGoes : System → Actor → Aim → Event → Entry → Config → List Piece → Type 0
unfolding LeftGoes step_plan
StepGoes sys a aim ev e c ps =
    LeftGoes sys a aim (Stepping ev e) (step_plan a.chart c.leaf (names_of a c ev) ev.sig).tasks (step_plan a.chart c.leaf (names_of a c ev) ev.sig).leaf c ps
