-- Of a course's records only the first of each step is a `took`.
use Rattle.std.proofs.Common.{◌≡◌, ℕ, Bool, true, false, List, [], ◌∷◌, ◌++◌, ◌||◌, refl, sym, ◌∙◌, ap, subst, Some, None}
use Rattle.std.specs.declared.option.Option.{Option}
use Rattle.std.specs.Bool.{MatchBool}
use Rattle.std.proofs.lemmas.Bool.{and_parts}
use Rattle.std.proofs.lemmas.List.Elements.{filter_map-append}
use Rattle.qp_chart.specs.Task.{Task, Begin, Run, Unhandled, Exit, Enter, Init, Done, Do, Raise, Restore}
use Rattle.qp_chart.specs.Agenda.{start_plan}
use Rattle.qp_model.specs.declared.systems.System.{System}
use Rattle.qp_model.specs.declared.bodies.Entry.{Entry}
use Rattle.qp_model.specs.declared.bodies.Body.{Body}
use Rattle.qp_model.specs.declared.bodies.Body.TheVariants as item
use Rattle.qp_model.specs.Told.{Told}
use Rattle.qp_model.specs.Calls.{Call, Answer, Deed, Sets, Says, Calls, ok_after, is_assertion}
use Rattle.qp_model.specs.Shapes.{Drops, Fits}
use Rattle.qp_model.specs.Pieces.{Piece, Point, records_in, tell, pieces_of}
use Rattle.qp_model.specs.Acts.{Config, Actor, Moment, Later, DoesCall, DoesDeed, DoesTask, Does}
use Rattle.qp_model.specs.Step.{Step, StepBehind, Closes, moment}
use Rattle.qp_model.specs.Course.{Starts, Steps, Course, at_start}
use Rattle.qp_model.specs.Laws.{taken_entry, entries_taken_in}
use Rattle.qp_model.proofs.FitsLemmas.{is_calm, is_deferral, Usual, Ending, Answers, assertion_of, usual, calm-drops, fits-usual}
use Rattle.qp_model.proofs.GroupLemmas.{bare-append, bare-tell, bare-pieces_of}

-- no record of these is a `took`
TakesNone : List Told → Type 0
TakesNone g = entries_taken_in g ≡ []

pub taken_in-append : (g h : List Told) → entries_taken_in (g ++ h) ≡ entries_taken_in g ++ entries_taken_in h
unfolding entries_taken_in
taken_in-append g h = filter_map-append (λ t. taken_entry t.body) g h

none-append : (g h : List Told) → TakesNone g → TakesNone h → TakesNone (g ++ h)
unfolding TakesNone
none-append g h a b = taken_in-append g h ∙ rw (a, b) refl

none-nil : TakesNone []
unfolding TakesNone entries_taken_in
none-nil = refl

-- one record more in front
none-cons : (t : Told) (g : List Told) → taken_entry t.body ≡ None → TakesNone g → TakesNone (t ∷ g)
unfolding TakesNone entries_taken_in
none-cons t g first rest = rw first rest

none-along : (g h : List Told) → g ≡ h → TakesNone h → TakesNone g
none-along g h e n = subst TakesNone (sym e) n

-- neither a usual record nor an assertion is a `took`
usual-none : (b : Body) → (is_calm b || is_deferral b) ≡ true → taken_entry b ≡ None
unfolding is_calm is_deferral
usual-none (item.Took f l m e) h = absurd (cc)
usual-none _ h = refl

assertion-none : (b : Body) (answer : Answer) → assertion_of b ≡ Some answer → taken_entry b ≡ None
assertion-none (item.Took f l m e) answer h = absurd (cc)
assertion-none _ answer h = refl

all-usual-none : (g : List Told) → Usual g → TakesNone g
all-usual-none [] h = none-nil
all-usual-none (t ∷ g) h = let (first, rest) = and_parts _ _ h in none-cons t g (usual-none t.body first) (all-usual-none g rest)

answers-none : (answer : Answer) (g : List Told) → Answers Usual answer g → TakesNone g
unfolding Answers Ending
answers-none answer g h = by (is_assertion answer) h
  where
    by : (b : Bool) → MatchBool b (Ending Usual answer g) (Usual g) → TakesNone g
    by true (front, t, all, last, is) = none-along g _ is (none-append front _ (all-usual-none front all) (none-cons t [] (assertion-none t.body answer last) none-nil))
    by false h = all-usual-none g h

-- so no record of a call is one
fits-none : (sys : System) (o : ℕ) (now : Option Entry) (x : Call) (answer : Answer) (g : List Told) → Fits sys o now x answer g → TakesNone g
fits-none sys o now x answer g h = answers-none answer g (fits-usual sys o now x answer g h)

drops-none : (e : Entry) (g : List Told) → Drops e g → TakesNone g
drops-none e g h = all-usual-none g (usual g (calm-drops e g h))

-- what a call leaves to come takes nothing
call-none : (sys : System) (a : Actor) (now : Option Entry) (c : Config) (later : Later) (asserted : Type 0) (x : Call) (ps : List Piece)
    → ((d : Config) (qs : List Piece) → later d qs → TakesNone (records_in qs)) → DoesCall sys a now c later asserted x ps → TakesNone (records_in ps)
unfolding DoesCall records_in
call-none sys a now c later asserted x ps rest (answer, g, kept, fits, keeps, ends) = go (is_assertion answer) ends
  where
    go : (b : Bool) → MatchBool b ((ps ≡ pieces_of x g) × asserted) ((qs : List Piece) × (ps ≡ pieces_of x g ++ (Point ∷ qs)) × later (record c { ok = ok_after answer c.ok; kept = kept }) qs) → TakesNone (records_in ps)
    go true (is, failed) = none-along _ g (ap records_in is ∙ bare-pieces_of x g) (fits-none sys a.o now x answer g fits)
    go false (qs, is, on) =
        none-along _ (g ++ records_in qs) (ap records_in is ∙ bare-append (pieces_of x g) (Point ∷ qs) ∙ ap (λ u. u ++ records_in qs) (bare-pieces_of x g))
        (none-append g (records_in qs) (fits-none sys a.o now x answer g fits) (rest _ qs on))

deed-none : (sys : System) (a : Actor) (now : Option Entry) (c : Config) (later : Later) (asserted : Type 0) (d : Deed) (ps : List Piece)
    → ((e : Config) (qs : List Piece) → later e qs → TakesNone (records_in qs)) → DoesDeed sys a now c later asserted d ps → TakesNone (records_in ps)
unfolding DoesDeed records_in
deed-none sys a now c later asserted (Sets var value) ps rest (qs, is, on) = none-along _ (records_in qs) (ap records_in is) (rest _ qs on)
deed-none sys a now c later asserted (Says value) ps rest (qs, is, on) = none-along _ _ (ap records_in is) (none-cons _ (records_in qs) refl (rest _ qs on))
deed-none sys a now c later asserted (Calls x) ps rest h = call-none sys a now c later asserted x ps rest h

task-none : (sys : System) (a : Actor) (at : Moment) (c : Config) (later : Later) (asserted : Type 0) (t : Task) (ps : List Piece)
    → ((e : Config) (qs : List Piece) → later e qs → TakesNone (records_in qs)) → DoesTask sys a at c later asserted t ps → TakesNone (records_in ps)
unfolding DoesTask records_in
task-none sys a at c later asserted (Do p) ps rest h = deed-none sys a at.entry c later asserted _ ps rest h
task-none sys a at c later asserted (Raise ceiling) ps rest (former, (qs, is, on)) = none-along _ _ (ap records_in is) (none-cons _ (records_in qs) refl (rest _ qs on))
task-none sys a at c later asserted Restore ps rest (more, is, (qs, then, on)) =
    none-along _ _ (ap records_in is) (none-cons _ (records_in more) refl (none-along _ (records_in qs) (ap records_in then) (rest _ qs on)))
task-none sys a at c later asserted Begin ps rest (qs, is, on) = none-along _ _ (ap records_in is) (none-cons _ (records_in qs) refl (rest _ qs on))
task-none sys a at c later asserted (Run s k) ps rest (qs, is, on) = none-along _ _ (ap records_in is) (none-cons _ (records_in qs) refl (rest _ qs on))
task-none sys a at c later asserted Unhandled ps rest (qs, is, on) = none-along _ _ (ap records_in is) (none-cons _ (records_in qs) refl (rest _ qs on))
task-none sys a at c later asserted (Exit s) ps rest (qs, is, on) = none-along _ _ (ap records_in is) (none-cons _ (records_in qs) refl (rest _ qs on))
task-none sys a at c later asserted (Enter s) ps rest (qs, is, on) = none-along _ _ (ap records_in is) (none-cons _ (records_in qs) refl (rest _ qs on))
task-none sys a at c later asserted (Init s) ps rest (qs, is, on) = none-along _ _ (ap records_in is) (none-cons _ (records_in qs) refl (rest _ qs on))
task-none sys a at c later asserted Done ps rest (qs, is, on) = none-along _ _ (ap records_in is) (none-cons _ (records_in qs) refl (rest _ qs on))

does-none : (sys : System) (a : Actor) (at : Moment) (ts : List Task) (c : Config) (ps : List Piece) (end : Option Config) → Does sys a at ts c ps end → TakesNone (records_in ps)
unfolding Does records_in
does-none sys a at [] c ps end (is, e) = none-along _ [] (ap records_in is) none-nil
does-none sys a at (t ∷ ts) c ps end h = task-none sys a at c _ _ t ps (λ d qs on. does-none sys a at ts d qs end on) h

closes-none : (e : Entry) (mid : Option Config) (rel : List Told) → Closes e mid rel → TakesNone rel
unfolding Closes
closes-none e None rel is = none-along rel [] is none-nil
closes-none e (Some c) rel h = drops-none e rel h

-- a step takes its entry
step-takes : (sys : System) (a : Actor) (e : Entry) (c : Config) (ps : List Piece) (end : Option Config) → Step sys a e c ps end → entries_taken_in (records_in ps) ≡ e ∷ []
unfolding Step StepBehind records_in entries_taken_in TakesNone
step-takes sys a e c ps end (f, l, m, ev, rest, is, (body, rel, mid, does, closes, parts, at)) =
    let quiet : TakesNone (records_in rest) =
    none-along (records_in rest) (records_in body ++ rel) (ap records_in parts ∙ bare-append body (tell rel) ∙ ap (λ u. records_in body ++ u) (bare-tell rel))
    (none-append (records_in body) rel (does-none sys a (moment ev e) _ c body mid does) (closes-none e mid rel closes)) in
    ap (λ u. entries_taken_in (records_in u)) is ∙ ap (λ u. e ∷ u) quiet

-- steps take their entries, in order
steps-take : (sys : System) (a : Actor) (es : List Entry) (c : Option Config) (ps : List Piece) (end : Option Config) → Steps sys a es c ps end → entries_taken_in (records_in ps) ≡ es
unfolding Steps records_in entries_taken_in
steps-take sys a [] c ps end (is, at) = ap (λ u. entries_taken_in (records_in u)) is
steps-take sys a (e ∷ es) None ps end h = absurd h
steps-take sys a (e ∷ es) (Some c) ps end (one, rest, mid, is, first, more) =
    ap (λ u. entries_taken_in (records_in u)) is ∙ ap entries_taken_in (bare-append one rest) ∙ taken_in-append (records_in one) (records_in rest)
    ∙ ap (λ u. u ++ entries_taken_in (records_in rest)) (step-takes sys a e c one mid first) ∙ ap (λ u. e ∷ u) (steps-take sys a es mid rest end more)

-- and so does a course
pub course-takes : (sys : System) (a : Actor) (first : Config) (es : List Entry) (ps : List Piece) (end : Option Config) → Course sys a first es ps end → entries_taken_in (records_in ps) ≡ es
unfolding Course Starts TakesNone
course-takes sys a first es ps end (start, rest, mid, is, (all, at, does, told, leaf), steps) =
    let none : TakesNone (records_in start) = none-along (records_in start) (records_in all) (ap records_in told ∙ bare-tell (records_in all)) (does-none sys a at_start (start_plan a.chart).tasks first all at does) in
    ap (λ u. entries_taken_in (records_in u)) is ∙ ap entries_taken_in (bare-append start rest) ∙ taken_in-append (records_in start) (records_in rest)
    ∙ ap (λ u. u ++ entries_taken_in (records_in rest)) none ∙ steps-take sys a es mid rest end steps
