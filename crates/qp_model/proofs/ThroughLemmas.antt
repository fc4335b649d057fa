-- A course comes to its end exactly where no assertion is among its records.
use Rattle.std.proofs.Common.{◌≡◌, ℕ, max, Bool, true, false, not, List, [], ◌∷◌, ◌++◌, refl, sym, ◌∙◌, ap, subst, Option, Some, None, append-nil}
use Rattle.std.specs.Bool.{MatchBool}
use Rattle.std.proofs.lemmas.Bool.{and_parts}
use Rattle.std.proofs.lemmas.List.Folds.{list_all-append}
use Rattle.qp_chart.specs.declared.checked.Chart.{Chart}
use Rattle.qp_chart.specs.Task.{Task, Begin, Run, Unhandled, Exit, Enter, Init, Done, Do, Raise, Restore}
use Rattle.qp_chart.specs.Agenda.{step_plan, start_plan}
use Rattle.qp_model.specs.declared.systems.System.{System}
use Rattle.qp_model.specs.declared.systems.ObjectDef.{ObjectDef}
use Rattle.qp_model.specs.declared.bodies.Entry.{Entry}
use Rattle.qp_model.specs.declared.bodies.Body.TheVariants as item
use Rattle.qp_model.specs.Told.{Told, plain, raised, told_took}
use Rattle.qp_model.specs.Calls.{Call, Answer, Deed, Sets, Says, Calls, ok_after, is_assertion}
use Rattle.qp_model.specs.Pieces.{Piece, Point, records_in, tell, pieces_of}
use Rattle.qp_model.specs.Acts.{Config, Actor, Moment, Later, DoesCall, DoesDeed, DoesTask, Does, Notes, names_of}
use Rattle.qp_model.specs.Step.{Step, StepBehind, Closes, at_leaf, moment}
use Rattle.qp_model.specs.Course.{Starts, Steps, Course, Follows, FollowsAs, FollowsThrough, FollowsThroughAs, actor, first_config, chart_at, at_start}
use Rattle.qp_model.specs.ObjectShape.{asserts_none}
use Rattle.qp_model.specs.Ends.{is_assert}
use Rattle.qp_model.proofs.CourseLemmas.{through-follows}
use Rattle.qp_model.proofs.FitsLemmas.{Usual, Ending, Answers, answer-assert, fits-usual}
use Rattle.qp_model.proofs.GroupLemmas.{bare-append, bare-tell, bare-pieces_of}
use Rattle.qp_model.proofs.ShapeLemmas.{course-turns}
use Rattle.qp_model.proofs.LastLemmas.{Quiet, quiet-append, start-quiet, turns-quiet}

-- the back of records without an assertion has none
quiet-back : (g h : List Told) → Quiet (g ++ h) → Quiet h
quiet-back g h k = (and_parts _ _ (sym (list_all-append (λ t. not (is_assert t.body)) g h) ∙ k)).1

-- a call that asserts leaves an assertion
call-loud : (answer : Answer) (g : List Told) → is_assertion answer ≡ true → Answers Usual answer g → Quiet g → ⊥
unfolding Answers Ending
call-loud answer g is h k = by (subst (λ b. MatchBool b (Ending Usual answer g) (Usual g)) is h)
  where
    by : Ending Usual answer g → ⊥
    by (front, t, usual, asserts, whole) =
        let last : Quiet (t ∷ []) = quiet-back front (t ∷ []) (subst (λ us. Quiet us) whole k) in
        let quiet : not (is_assert t.body) ≡ true = (and_parts _ _ last).0 in
        let wrong : not true ≡ true = subst (λ b. not b ≡ true) (answer-assert t.body answer asserts) quiet in cc

module _ (sys : System) (a : Actor) where
  -- what comes to no end leaves an assertion
  call-fails : (now : Option Entry) (c : Config) (later : Later) (failed : Type 0) (x : Call) (ps : List Piece)
      → ((d : Config) (qs : List Piece) → later d qs → Quiet (records_in qs) → ⊥) → DoesCall sys a now c later failed x ps → Quiet (records_in ps) → ⊥
  unfolding DoesCall records_in
  call-fails now c later failed x ps rest (answer, g, kept, fits, keeps, ends) quiet = by (is_assertion answer) refl ends
    where
      by : (b : Bool) → is_assertion answer ≡ b
          → MatchBool b ((ps ≡ pieces_of x g) × failed) ((qs : List Piece) × (ps ≡ pieces_of x g ++ (Point ∷ qs)) × later (record c { ok = ok_after answer c.ok; kept = kept }) qs) → ⊥
      by true is (whole, _) =
          call-loud answer g is (fits-usual sys a.o now x answer g fits) (subst (λ us. Quiet us) (ap records_in whole ∙ bare-pieces_of x g) quiet)
      by false is (qs, whole, on) =
          rest _ qs on
          (quiet-back g (records_in qs) (subst (λ us. Quiet us) (ap records_in whole ∙ bare-append (pieces_of x g) (Point ∷ qs) ∙ ap (λ us. us ++ records_in qs) (bare-pieces_of x g)) quiet))

  note-fails : (t : Told) (later : List Piece → Type 0) (ps : List Piece) → ((qs : List Piece) → later qs → Quiet (records_in qs) → ⊥) → Notes t later ps → Quiet (records_in ps) → ⊥
  unfolding records_in
  note-fails t later ps rest (qs, is, on) quiet = rest qs on (quiet-back (t ∷ []) (records_in qs) (subst (λ us. Quiet us) (ap records_in is) quiet))

  deed-fails : (now : Option Entry) (c : Config) (later : Later) (failed : Type 0) (d : Deed) (ps : List Piece)
      → ((d : Config) (qs : List Piece) → later d qs → Quiet (records_in qs) → ⊥) → DoesDeed sys a now c later failed d ps → Quiet (records_in ps) → ⊥
  unfolding DoesDeed records_in
  deed-fails now c later failed (Sets var value) ps rest (qs, is, on) = λ quiet. rest _ qs on (subst (λ us. Quiet us) (ap records_in is) quiet)
  deed-fails now c later failed (Says value) ps rest (qs, is, on) =
      λ quiet. rest c qs on (quiet-back (plain (item.Say value) ∷ []) (records_in qs) (subst (λ us. Quiet us) (ap records_in is) quiet))
  deed-fails now c later failed (Calls x) ps rest h = call-fails now c later failed x ps rest h

  task-fails : (at : Moment) (c : Config) (later : Later) (failed : Type 0) (t : Task) (ps : List Piece)
      → ((d : Config) (qs : List Piece) → later d qs → Quiet (records_in qs) → ⊥) → DoesTask sys a at c later failed t ps → Quiet (records_in ps) → ⊥
  unfolding DoesTask records_in
  task-fails at c later failed (Do p) ps rest h = deed-fails at.entry c later failed _ ps rest h
  task-fails at c later failed (Raise ceiling) ps rest (former, note) =
      note-fails (raised (max former ceiling) former) (later (record c { former = former })) ps (λ qs. rest (record c { former = former }) qs) note
  task-fails at c later failed Restore ps rest note =
      note-fails (plain (item.Unlock c.former)) (λ more. (qs : List Piece) × (more ≡ Point ∷ qs) × later c qs) ps
      (λ more k quiet. rest c k.0 k.2 (subst (λ us. Quiet us) (ap records_in k.1) quiet)) note
  task-fails at c later failed Begin ps rest note = note-fails (plain item.Begin) (later c) ps (λ qs. rest c qs) note
  task-fails at c later failed (Run s k) ps rest note = note-fails (plain (item.Run s k)) (later c) ps (λ qs. rest c qs) note
  task-fails at c later failed Unhandled ps rest note = note-fails (plain item.Unhandled) (later c) ps (λ qs. rest c qs) note
  task-fails at c later failed (Exit s) ps rest note = note-fails (plain (item.Exit s)) (later c) ps (λ qs. rest c qs) note
  task-fails at c later failed (Enter s) ps rest note = note-fails (plain (item.Enter s)) (later c) ps (λ qs. rest c qs) note
  task-fails at c later failed (Init s) ps rest note = note-fails (plain (item.Init s)) (later c) ps (λ qs. rest c qs) note
  task-fails at c later failed Done ps rest note = note-fails (plain item.Done) (later c) ps (λ qs. rest c qs) note

  does-fails : (at : Moment) (ts : List Task) (c : Config) (ps : List Piece) → Does sys a at ts c ps None → Quiet (records_in ps) → ⊥
  unfolding Does
  does-fails at [] c ps (is, end) quiet = cc
  does-fails at (t ∷ ts) c ps h quiet = task-fails at c _ _ t ps (λ d qs on. does-fails at ts d qs on) h quiet

  none-leaf : (leaf : ℕ) (mid : Option Config) → None ≡ at_leaf leaf mid → mid ≡ None
  none-leaf leaf None h = refl
  none-leaf leaf (Some c) h = absurd (cc)

  step-fails : (e : Entry) (c : Config) (ps : List Piece) → Step sys a e c ps None → Quiet (records_in ps) → ⊥
  unfolding Step StepBehind Closes records_in
  step-fails e c ps (f, l, m, ev, rest, is, (body, rel, mid, does, closes, parts, end)) quiet =
      let none : mid ≡ None = none-leaf _ mid end in
      let nothing : rel ≡ [] = subst (λ o. Closes e o rel) none closes in
      let behind : Quiet (records_in rest) = quiet-back (told_took f l m e ev ∷ []) (records_in rest) (subst (λ us. Quiet us) (ap records_in is) quiet) in
      let whole : records_in rest ≡ records_in body =
      ap records_in parts ∙ bare-append body (tell rel) ∙ ap (λ us. records_in body ++ us) (bare-tell rel ∙ nothing) ∙ append-nil (records_in body) in
      does-fails (moment ev e) _ c body (subst (λ o. Does sys a (moment ev e) (step_plan a.chart c.leaf (names_of a c ev) ev.sig).tasks c body o) none does) (subst (λ us. Quiet us) whole behind)

  steps-fail : (es : List Entry) (c : Config) (ps : List Piece) → Steps sys a es (Some c) ps None → Quiet (records_in ps) → ⊥
  unfolding Steps
  steps-fail [] c ps (is, end) quiet = cc
  steps-fail (e ∷ es) c ps (one, rest, mid, is, step, more) quiet = by (λ d k. steps-fail es d rest k) mid step more
    where
      split : Quiet (records_in one ++ records_in rest)
      split = subst (λ us. Quiet us) (ap records_in is ∙ bare-append one rest) quiet

      by : ((d : Config) → Steps sys a es (Some d) rest None → Quiet (records_in rest) → ⊥) → (mid : Option Config) → Step sys a e c one mid → Steps sys a es mid rest None → ⊥
      by later None step more =
          step-fails e c one step (and_parts _ _ (sym (list_all-append (λ t. not (is_assert t.body)) (records_in one) (records_in rest)) ∙ split)).0
      by later (Some d) step more = later d more (quiet-back (records_in one) (records_in rest) split)

  -- a course that an assertion breaks off has one among its records
  pub course-fails : (first : Config) (es : List Entry) (ps : List Piece) → Course sys a first es ps None → Quiet (records_in ps) → ⊥
  unfolding Course Starts
  course-fails first es ps (start, rest, mid, is, (all, inner, does, told, leaf), steps) quiet = by mid leaf steps
    where
      split : Quiet (records_in start ++ records_in rest)
      split = subst (λ us. Quiet us) (ap records_in is ∙ bare-append start rest) quiet

      begun : Quiet (records_in all)
      begun =
          subst (λ us. Quiet us) (ap records_in told ∙ bare-tell (records_in all))
          (and_parts _ _ (sym (list_all-append (λ t. not (is_assert t.body)) (records_in start) (records_in rest)) ∙ split)).0

      by : (mid : Option Config) → mid ≡ at_leaf (start_plan a.chart).leaf inner → Steps sys a es mid rest None → ⊥
      by None leaf steps =
          does-fails at_start (start_plan a.chart).tasks first all (subst (λ o. Does sys a at_start (start_plan a.chart).tasks first all o) (none-leaf _ inner leaf) does) begun
      by (Some d) leaf steps = steps-fail es d rest steps (quiet-back (records_in start) (records_in rest) split)

  -- a course that comes to its end has none
  pub course-quiet : (first d : Config) (es : List Entry) (ps : List Piece) → Course sys a first es ps (Some d) → Quiet (records_in ps)
  course-quiet first d es ps h =
      let parts = course-turns sys a false first d es ps h in
      subst (λ us. Quiet us) (sym parts.4) (quiet-append parts.0 parts.1 (start-quiet sys a.o parts.0 parts.2) (turns-quiet sys a.o false parts.1 parts.3))

-- a list is whole exactly where it follows the chart and nothing was asserted in it
pub through-quiet : (sys : System) (d : ObjectDef) (ps : List Piece) → FollowsThrough sys d ps → Follows sys d ps × (asserts_none (records_in ps) ≡ true)
unfolding FollowsThrough FollowsThroughAs
through-quiet sys d ps h = (through-follows sys d ps h, by (chart_at sys d.chart) h)
  where
    by : (o : Option Chart) → FollowsThroughAs sys d o ps → Quiet (records_in ps)
    by None k = absurd k
    by (Some chart) (es, end, course) = course-quiet sys (actor d chart) (first_config d) end es ps course

pub quiet-through : (sys : System) (d : ObjectDef) (ps : List Piece) → Follows sys d ps → asserts_none (records_in ps) ≡ true → FollowsThrough sys d ps
unfolding Follows FollowsAs FollowsThrough FollowsThroughAs
quiet-through sys d ps h quiet = by (chart_at sys d.chart) h
  where
    by : (o : Option Chart) → FollowsAs sys d o ps → FollowsThroughAs sys d o ps
    by None k = absurd k
    by (Some chart) (es, None, course) = absurd (course-fails sys (actor d chart) (first_config d) es ps course quiet)
    by (Some chart) (es, Some end, course) = (es, end, course)
