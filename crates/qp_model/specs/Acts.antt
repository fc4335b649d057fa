-- The items of an action list, and what they leave.
use Rattle.std.specs.Prelude.{◌≡◌, ℕ, max, ℤ, List, [], ◌∷◌, ◌++◌, slice_set, Some, None}
use Rattle.std.specs.declared.option.Option.{Option}
use Rattle.std.specs.Bool.{MatchBool}
use Rattle.qp_chart.specs.Expr.{Names}
use Rattle.qp_chart.specs.declared.checked.Chart.{Chart}
use Rattle.qp_chart.specs.Task.{Task, Begin, Run, Unhandled, Exit, Enter, Init, Done, Do, Raise, Restore}
use Rattle.qp_model.specs.declared.systems.System.{System}
use Rattle.qp_model.specs.declared.bodies.Entry.{Entry}
use Rattle.qp_model.specs.declared.bodies.Body.TheVariants as item
use Rattle.qp_model.specs.Told.{Told, Event, plain, raised}
use Rattle.qp_model.specs.Calls.{Call, Answer, Deed, Sets, Says, Calls, deed_of, ok_after, is_assertion}
use Rattle.qp_model.specs.Shapes.{Fits}
use Rattle.qp_model.specs.Deferral.{KeepsDeferred}
use Rattle.qp_model.specs.Pieces.{Piece, Tell, Point, pieces_of}

-- what an object has from step to step: its leaf, its variables, `ok`, its deferred list, and the ceiling that `locked` restores
pub record Config : Type 0 where
  pub leaf : ℕ
  pub vars : List ℤ
  pub ok : ℤ
  pub kept : List Entry
  pub former : ℕ

-- an object by its priority, its chart, and the capacity of its deferred list
pub record Actor : Type 0 where
  pub o : ℕ
  pub chart : Chart
  pub room : ℕ

-- what a step works on: an event, and its entry; a start has none
pub record Moment : Type 0 where
  pub event : Event
  pub entry : Option Entry

-- what the names of an expression stand for
abbrev pub names_of : Actor → Config → Event → Names
names_of a c ev = record { vars = c.vars; pars = ev.pars; ok = c.ok; me = a.o }

-- what is to come: the pieces after these, from the configuration that these leave
abbrev pub Later : Type 1
Later = Config → List Piece → Type 0

-- a call with some answer: its records, and then a point and what is to come, or nothing after an assertion
unfoldable pub DoesCall : System → Actor → Option Entry → Config → Later → Type 0 → Call → List Piece → Type 0
unfolding Fits KeepsDeferred pieces_of
DoesCall sys a now c later asserted x ps =
    (answer : Answer) × (g : List Told) × (kept : List Entry) × Fits sys a.o now x answer g × KeepsDeferred a.room x g c.kept kept
    × MatchBool (is_assertion answer)
    ((ps ≡ pieces_of x g) × asserted)
    ((rest : List Piece) × (ps ≡ pieces_of x g ++ (Point ∷ rest)) × later (record c { ok = ok_after answer c.ok; kept = kept }) rest)

-- an action: it ends with a point, also where it leaves no record
unfoldable pub DoesDeed : System → Actor → Option Entry → Config → Later → Type 0 → Deed → List Piece → Type 0
unfolding DoesCall
DoesDeed sys a now c later asserted (Sets var value) ps =
    (rest : List Piece) × (ps ≡ Point ∷ rest) × later (record c { vars = slice_set c.vars var value }) rest
DoesDeed sys a now c later asserted (Says value) ps =
    (rest : List Piece) × (ps ≡ Tell (plain (item.Say value)) ∷ Point ∷ rest) × later c rest
DoesDeed sys a now c later asserted (Calls x) ps = DoesCall sys a now c later asserted x ps

-- a record, and then what is to come
abbrev pub Notes : Told → (List Piece → Type 0) → List Piece → Type 0
Notes t later ps = (rest : List Piece) × (ps ≡ Tell t ∷ rest) × later rest

-- a task: a note, an action, or a mark of `locked`, whose end is the end of an action
unfoldable pub DoesTask : System → Actor → Moment → Config → Later → Type 0 → Task → List Piece → Type 0
unfolding DoesDeed deed_of
DoesTask sys a at c later asserted (Do p) ps = DoesDeed sys a at.entry c later asserted (deed_of (names_of a c at.event) p) ps
DoesTask sys a at c later asserted (Raise ceiling) ps =
    (former : ℕ) × Notes (raised (max former ceiling) former) (later (record c { former = former })) ps
DoesTask sys a at c later asserted Restore ps =
    Notes (plain (item.Unlock c.former)) (λ more. (rest : List Piece) × (more ≡ Point ∷ rest) × later c rest) ps
DoesTask sys a at c later asserted Begin ps = Notes (plain item.Begin) (later c) ps
DoesTask sys a at c later asserted (Run s k) ps = Notes (plain (item.Run s k)) (later c) ps
DoesTask sys a at c later asserted Unhandled ps = Notes (plain item.Unhandled) (later c) ps
DoesTask sys a at c later asserted (Exit s) ps = Notes (plain (item.Exit s)) (later c) ps
DoesTask sys a at c later asserted (Enter s) ps = Notes (plain (item.Enter s)) (later c) ps
DoesTask sys a at c later asserted (Init s) ps = Notes (plain (item.Init s)) (later c) ps
DoesTask sys a at c later asserted Done ps = Notes (plain item.Done) (later c) ps

-- the tasks, done one after another from c, leave these pieces and the configuration `end`, or None after an assertion
unfoldable pub Does : System → Actor → Moment → List Task → Config → List Piece → Option Config → Type 0
unfolding DoesTask
Does sys a at [] c ps end = (ps ≡ []) × (end ≡ Some c)
Does sys a at (t ∷ ts) c ps end = DoesTask sys a at c (λ d rest. Does sys a at ts d rest end) (end ≡ None) t ps
