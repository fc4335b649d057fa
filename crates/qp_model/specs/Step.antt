-- A step over one entry, from its `took` to the release.
use Rattle.std.specs.Prelude.{◌≡◌, ℕ, ◌⊎◌, pos, List, [], ◌∷◌, ◌++◌, Some, None}
use Rattle.std.specs.declared.option.Option.{Option}
use Rattle.qp_chart.specs.Task.{Task}
use Rattle.qp_chart.specs.Agenda.{step_plan}
use Rattle.qp_model.specs.declared.systems.System.{System}
use Rattle.qp_model.specs.declared.bodies.Entry.{Entry}
use Rattle.qp_model.specs.Told.{Told, Event, told_took}
use Rattle.qp_model.specs.Calls.{Granted, AtQueue}
use Rattle.qp_model.specs.Sites.{ring_of}
use Rattle.qp_model.specs.Shapes.{Drops, PostsOne, PublishesLast}
use Rattle.qp_model.specs.Pieces.{Piece, Tell, Point, tell}
use Rattle.qp_model.specs.Acts.{Config, Actor, Moment, Later, Does, names_of}

-- the configuration with this leaf, where nothing was asserted
abbrev pub at_leaf : ℕ → Option Config → Option Config
at_leaf leaf None = None
at_leaf leaf (Some c) = Some (record c { leaf = leaf })

-- the step's reference is released when it has run to completion
unfoldable pub Closes : Entry → Option Config → List Told → Type 0
unfolding Drops
Closes e None rel = rel ≡ []
Closes e (Some c) rel = Drops e rel

-- a step works on the event and its entry
abbrev pub moment : Event → Entry → Moment
moment ev e = record { event = ev; entry = Some e }

-- a step after its `took`: its agenda, and the release
unfoldable pub StepBehind : System → Actor → Event → Entry → Config → List Piece → Option Config → Type 0
unfolding Closes Does step_plan
StepBehind sys a ev e c ps end =
    (body : List Piece) × (rel : List Told) × (mid : Option Config)
    × Does sys a (moment ev e) (step_plan a.chart c.leaf (names_of a c ev) ev.sig).tasks c body mid × Closes e mid rel
    × (ps ≡ body ++ tell rel) × (end ≡ at_leaf (step_plan a.chart c.leaf (names_of a c ev) ev.sig).leaf mid)

-- a step over an entry
unfoldable pub Step : System → Actor → Entry → Config → List Piece → Option Config → Type 0
unfolding StepBehind
Step sys a e c ps end = (f l m : ℕ) × (ev : Event) × (rest : List Piece) × (ps ≡ Tell (told_took f l m e ev) ∷ rest) × StepBehind sys a ev e c rest end

-- a publication under way: its own entry, the ceiling to be restored, and the members for whom it raised it
pub record Publishing : Type 0 where
  pub entry : Entry
  pub former : ℕ
  pub members : List ℕ

-- a publication goes on: a post to each member left, then a point; and then its end, and the point of the action
unfoldable pub GoesOnPublishing : System → Actor → Config → Publishing → List ℕ → Later → Type 0 → List Piece → Type 0
unfolding PostsOne PublishesLast ring_of
GoesOnPublishing sys a c p [] later asserted ps =
    (last : List Told) × (rest : List Piece) × PublishesLast a.o p.entry p.former p.members last
    × (ps ≡ tell last ++ (Point ∷ rest)) × later (record c { ok = pos 1 }) rest
GoesOnPublishing sys a c p (to ∷ others) later asserted ps =
    ((g : List Told) × PostsOne (ring_of sys to) p.entry to AtQueue g × (ps ≡ tell g) × asserted)
    ⊎ ((g : List Told) × (rest : List Piece) × PostsOne (ring_of sys to) p.entry to Granted g
    × (ps ≡ tell g ++ (Point ∷ rest)) × GoesOnPublishing sys a c p others later asserted rest)

-- what is left of a step: perhaps a publication under way with the members to whom it still posts, then tasks; and the leaf after them
pub record Remainder : Type 0 where
  pub publishing : Option Publishing
  pub posts : List ℕ
  pub tasks : List Task
  pub leaf : ℕ

-- tasks with no publication under way
unfoldable pub tasks_left : List Task → ℕ → Remainder
tasks_left ts leaf = record { publishing = None; posts = []; tasks = ts; leaf = leaf }

-- a publication under way before tasks
unfoldable pub publishing_left : Publishing → List ℕ → List Task → ℕ → Remainder
publishing_left p posts ts leaf = record { publishing = Some p; posts = posts; tasks = ts; leaf = leaf }

-- what is left of an agenda is done
unfoldable pub DoesLeft : System → Actor → Moment → Option Publishing → List ℕ → List Task → Config → List Piece → Option Config → Type 0
unfolding Does GoesOnPublishing
DoesLeft sys a at None posts ts c ps end = Does sys a at ts c ps end
DoesLeft sys a at (Some p) posts ts c ps end = GoesOnPublishing sys a c p posts (λ d rest. Does sys a at ts d rest end) (end ≡ None) ps

-- a step under way goes on to its end
unfoldable pub StepGoesOn : System → Actor → Event → Entry → Remainder → Config → List Piece → Option Config → Type 0
unfolding Closes DoesLeft
StepGoesOn sys a ev e left c ps end =
    (body : List Piece) × (rel : List Told) × (mid : Option Config)
    × DoesLeft sys a (moment ev e) left.publishing left.posts left.tasks c body mid × Closes e mid rel
    × (ps ≡ body ++ tell rel) × (end ≡ at_leaf left.leaf mid)

-- the agenda of a step that begins, as what is left of it
unfoldable pub whole_step : Actor → Config → Event → Remainder
unfolding step_plan
whole_step a c ev = record {
  publishing = None;
  posts = [];
  tasks = (step_plan a.chart c.leaf (names_of a c ev) ev.sig).tasks;
  leaf = (step_plan a.chart c.leaf (names_of a c ev) ev.sig).leaf;
}
