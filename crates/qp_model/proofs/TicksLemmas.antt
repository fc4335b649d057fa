-- Assertion 4 shows the values that were refused.
use Rattle.std.proofs.lemmas.Bool.{not-true}
use Rattle.std.proofs.Common.{◌≡◌, ℕ, Bool, true, false, ◌&&◌, ◌||◌, List, [], ◌∷◌, ◌++◌, refl, sym, ◌∙◌, ap, subst, ◌⊎◌, inl, inr, Option, Some, None, IsFalse}
use Rattle.std.specs.Prelude.{slice_set}
use Rattle.std.specs.Bool.{MatchBool}
use Rattle.std.specs.List.{list_all}
use Rattle.qp_chart.specs.declared.actions.Plain.{Plain}
use Rattle.qp_chart.specs.declared.checked.Chart.{Chart}
use Rattle.qp_chart.specs.Task.{Task, Begin, Run, Unhandled, Exit, Enter, Init, Done, Do, Raise, Restore}
use Rattle.qp_chart.specs.Agenda.{start_plan, step_plan}
use Rattle.qp_model.specs.declared.systems.System.{System}
use Rattle.qp_model.specs.declared.systems.ObjectDef.{ObjectDef}
use Rattle.qp_model.specs.declared.bodies.Entry.{Entry}
use Rattle.qp_model.specs.declared.bodies.Body.{Body}
use Rattle.qp_model.specs.declared.bodies.Body.TheVariants as item
use Rattle.qp_model.specs.Told.{Told, plain, told_took, raised}
use Rattle.qp_model.specs.Calls as call
use Rattle.qp_model.specs.Calls.{Call, Answer, AtTicks, Deed, Sets, Says, Calls, deed_of, ok_after, is_assertion}
use Rattle.qp_model.specs.Parts.{timer_number}
use Rattle.qp_model.specs.Shapes.{Fits, NoBlockFor, Posts, PostsFront, PostsNew, PostsNewFront, Forwards, Publishes, Defers, Recalls, Subscribes, Unsubscribes, Arms, Rearms, Disarms, ticks_fit}
use Rattle.qp_model.specs.Pieces.{Piece, Tell, Point, records_in, tell, pieces_of}
use Rattle.qp_model.specs.Acts.{Config, Actor, Moment, DoesDeed, DoesTask, Does, names_of}
use Rattle.qp_model.specs.Step.{StepBehind, Step, Closes, moment}
use Rattle.qp_model.specs.Course.{Cut, Whole, FollowsTo, Follows, FollowsAs, Course, Starts, Steps, actor, at_start, chart_at, first_config}
use Rattle.qp_model.specs.CourseLaws as law
use Rattle.qp_model.specs.CourseLaws.{RefusesTicks, IsAgenda, OfStart, OfStep, WereRefused}
use Rattle.qp_model.proofs.CourseLemmas.{through-follows}
use Rattle.qp_model.proofs.FitsLemmas.{assertion_of, is_calm, is_deferral, Usual, usual, Ending, Answers, fits-usual, calm-drops}
use Rattle.qp_model.proofs.GroupLemmas.{bare-append, bare-tell, bare-pieces_of}

-- the record is one of the list
abbrev In : Told → List Told → Type 0
In t [] = ⊥
In t (u ∷ us) = (u ≡ t) ⊎ In t us

in-append : (t : Told) (g h : List Told) → In t (g ++ h) → In t g ⊎ In t h
in-append t [] h k = inr k
in-append t (u ∷ g) h (inl is) = inl (inl is)
in-append t (u ∷ g) h (inr k) = elim (in-append t g h k) [ inl a ↦ inl (inr a) | inr b ↦ inr b ]

in-front : (t : Told) (g h : List Told) → In t g → In t (g ++ h)
in-front t [] h k = absurd k
in-front t (u ∷ g) h (inl is) = inl is
in-front t (u ∷ g) h (inr k) = inr (in-front t g h k)

in-place : (t : Told) (earlier later : List Told) → In t (earlier ++ t ∷ later)
in-place t [] later = inl refl
in-place t (u ∷ earlier) later = inr (in-place t earlier later)

module _ (t ticks interval : ℕ) where
  -- an assertion 4 is no usual record of a call
  not-usual : (g : List Told) → Usual g → In (plain (item.BadTicks t ticks interval)) g → ⊥
  unfolding is_calm is_deferral
  not-usual [] h k = k
  not-usual (u ∷ g) h (inl is) = here u.body (ap (λ v. v.body) is) h
    where
      here : (b : Body) → b ≡ item.BadTicks t ticks interval
          → ((is_calm b || is_deferral b) && list_all (λ t. is_calm t.body || is_deferral t.body) g) ≡ true → ⊥
      here b is h = let wrong : false ≡ true = subst (λ b. ((is_calm b || is_deferral b) && list_all (λ t. is_calm t.body || is_deferral t.body) g) ≡ true) is h in absurd (cc)
  not-usual (u ∷ g) h (inr k) = not-usual g (behind (is_calm u.body || is_deferral u.body) h) k
    where
      behind : (b : Bool) → (b && list_all (λ t. is_calm t.body || is_deferral t.body) g) ≡ true → list_all (λ t. is_calm t.body || is_deferral t.body) g ≡ true
      behind true h = h
      behind false h = absurd (cc)

  -- it comes with no other answer
  answer-is : (answer : Answer) (g : List Told) → Answers Usual answer g → In (plain (item.BadTicks t ticks interval)) g → answer ≡ AtTicks
  unfolding Answers Ending
  answer-is answer g h k = by (is_assertion answer) h
    where
      by : (b : Bool) → MatchBool b (Ending Usual answer g) (Usual g) → answer ≡ AtTicks
      by false u = absurd (not-usual g u k)
      by true e = elim (in-append (plain (item.BadTicks t ticks interval)) e.0 (e.1 ∷ []) (subst (In (plain (item.BadTicks t ticks interval))) e.4 k)) [
        | inl front ↦ absurd (not-usual e.0 e.2 front)
        | inr last ↦ elim last [ inl is ↦ of_answer e.1.body (ap (λ v. v.body) is) e.3 | inr none ↦ absurd none ]
      ]
        where
          of_answer : (b : Body) → b ≡ item.BadTicks t ticks interval → assertion_of b ≡ Some answer → answer ≡ AtTicks
          of_answer b is h = let same : Some AtTicks ≡ Some answer = subst (λ b. assertion_of b ≡ Some answer) is h in cc

  -- a call with these records is `arm` or `rearm` with these values
  refused-call : (sys : System) (o : ℕ) (now : Option Entry) (x : Call) (g : List Told) → Fits sys o now x AtTicks g → In (plain (item.BadTicks t ticks interval)) g
      → RefusesTicks sys o t ticks interval (Calls x)
  unfolding Fits PostsNew PostsNewFront NoBlockFor Posts PostsFront Forwards Publishes Defers Recalls Subscribes Unsubscribes Arms Rearms Disarms
  refused-call sys o now (call.Arm timer v w) g h k = here (subst (In (plain (item.BadTicks t ticks interval))) h.0 k)
    where
      here : In (plain (item.BadTicks t ticks interval)) (plain (item.BadTicks (timer_number sys.timers o timer) v w) ∷ []) → RefusesTicks sys o t ticks interval (Calls (call.Arm timer v w))
      here (inr none) = absurd none
      here (inl is) =
          let same : item.BadTicks (timer_number sys.timers o timer) v w ≡ item.BadTicks t ticks interval = ap (λ u. u.body) is in
          let is_timer : timer_number sys.timers o timer ≡ t = cc in
          let is_ticks : v ≡ ticks = cc in
          let is_interval : w ≡ interval = cc in
          law.Arms timer (ap (λ v. Calls (call.Arm timer v w)) is_ticks ∙ ap (λ w. Calls (call.Arm timer ticks w)) is_interval) (sym is_timer)
          (subst (λ v. IsFalse (ticks_fit v interval)) is_ticks (subst (λ w. IsFalse (ticks_fit v w)) is_interval (not-true (ticks_fit v w) h.1)))
  refused-call sys o now (call.Rearm timer v) g h k = here (subst (In (plain (item.BadTicks t ticks interval))) h.0 k)
    where
      here : In (plain (item.BadTicks t ticks interval)) (plain (item.BadTicks (timer_number sys.timers o timer) v 0) ∷ []) → RefusesTicks sys o t ticks interval (Calls (call.Rearm timer v))
      here (inr none) = absurd none
      here (inl is) =
          let same : item.BadTicks (timer_number sys.timers o timer) v 0 ≡ item.BadTicks t ticks interval = ap (λ u. u.body) is in
          let is_timer : timer_number sys.timers o timer ≡ t = cc in
          let is_ticks : v ≡ ticks = cc in
          let is_interval : 0 ≡ interval = cc in
          law.Rearms timer (ap (λ v. Calls (call.Rearm timer v)) is_ticks) (sym is_timer) (sym is_interval) (subst (λ v. IsFalse (ticks_fit v 0)) is_ticks (not-true (ticks_fit v 0) h.1))
  refused-call sys o now (call.Post to sig pars margin None) g (inl h) k = absurd h
  refused-call sys o now (call.Post to sig pars margin (Some r)) g (inl h) k = absurd h
  refused-call sys o now (call.Post to sig pars None reserve) g (inr h) k = absurd h.3
  refused-call sys o now (call.Post to sig pars (Some m) reserve) g (inr h) k = absurd h.3
  refused-call sys o now (call.Lifo sig pars None) g (inl h) k = absurd h
  refused-call sys o now (call.Lifo sig pars (Some r)) g (inl h) k = absurd h
  refused-call sys o now (call.Lifo sig pars reserve) g (inr h) k = absurd h.3
  refused-call sys o now (call.Forward to None) g h k = absurd h.3
  refused-call sys o now (call.Forward to (Some m)) g h k = absurd h.3
  refused-call sys o now (call.Publish sig pars None) g h k = absurd h
  refused-call sys o now (call.Publish sig pars (Some r)) g h k = absurd h
  refused-call sys o now _ g h k = absurd h

  call-refuses : (sys : System) (o : ℕ) (now : Option Entry) (x : Call) (answer : Answer) (g : List Told) → Fits sys o now x answer g
      → In (plain (item.BadTicks t ticks interval)) g → RefusesTicks sys o t ticks interval (Calls x)
  call-refuses sys o now x answer g h k =
      let is : answer ≡ AtTicks = answer-is answer g (fits-usual sys o now x answer g h) k in
      refused-call sys o now x g (subst (λ r. Fits sys o now x r g) is h) k

  -- a record that is another stands in front
  behind : (u : Told) (ps rest : List Piece) → (u.body ≡ item.BadTicks t ticks interval → ⊥) → ps ≡ Tell u ∷ rest → In (plain (item.BadTicks t ticks interval)) (records_in ps)
      → In (plain (item.BadTicks t ticks interval)) (records_in rest)
  unfolding records_in
  behind u ps rest other is k = go (subst (λ ps. In (plain (item.BadTicks t ticks interval)) (records_in ps)) is k)
    where
      go : In (plain (item.BadTicks t ticks interval)) (u ∷ records_in rest) → In (plain (item.BadTicks t ticks interval)) (records_in rest)
      go (inl same) = absurd (other (ap (λ v. v.body) same))
      go (inr k) = k

  module _ (sys : System) (a : Actor) (at : Moment) where
    -- the action that is refused, and what the tasks before it have left
    record At (c : Config) (ts : List Task) : Type 0 where
      done : List Task
      action : Plain
      left : List Task
      split : ts ≡ done ++ Do action ∷ left
      reached : Config
      pieces : List Piece
      reaches : Does sys a at done c pieces (Some reached)
      refused : RefusesTicks sys a.o t ticks interval (deed_of (names_of a reached at.event) action)

    -- one task more in front
    further : (c d : Config) (task : Task) (ts : List Task) (k : At d ts) (qs : List Piece)
        → DoesTask sys a at c (λ d rest. Does sys a at k.done d rest (Some k.reached)) (Some k.reached ≡ None) task qs → At c (task ∷ ts)
    unfolding Does
    further c d task ts k qs h = record {
      done = task ∷ k.done;
      action = k.action;
      left = k.left;
      split = ap (λ ts. task ∷ ts) k.split;
      reached = k.reached;
      pieces = qs;
      reaches = h;
      refused = k.refused;
    }

    -- the first task is the action
    first : (c : Config) (p : Plain) (ts : List Task) → RefusesTicks sys a.o t ticks interval (deed_of (names_of a c at.event) p) → At c (Do p ∷ ts)
    unfolding Does
    first c p ts h = record { done = []; action = p; left = ts; split = refl; reached = c; pieces = []; reaches = (refl, refl); refused = h }

    module _ (ts : List Task) (end : Option Config) (ps : List Piece) (k : In (plain (item.BadTicks t ticks interval)) (records_in ps))
        (later : (d : Config) (rest : List Piece) → Does sys a at ts d rest end → In (plain (item.BadTicks t ticks interval)) (records_in rest) → At d ts) where
      deed-step : (c : Config) (p : Plain) (deed : Deed) → deed_of (names_of a c at.event) p ≡ deed
          → DoesDeed sys a at.entry c (λ d rest. Does sys a at ts d rest end) (end ≡ None) deed ps → At c (Do p ∷ ts)
      unfolding DoesDeed DoesTask records_in
      deed-step c p (Sets var value) is h =
          let here = later (record c { vars = slice_set c.vars var value }) h.0 h.2 (subst (λ ps. In (plain (item.BadTicks t ticks interval)) (records_in ps)) h.1 k) in
          further c (record c { vars = slice_set c.vars var value }) (Do p) ts here (Point ∷ here.pieces)
          (subst (λ deed. DoesDeed sys a at.entry c (λ d rest. Does sys a at here.done d rest (Some here.reached)) (Some here.reached ≡ None) deed (Point ∷ here.pieces)) (sym is) (here.pieces, refl, here.reaches))
      deed-step c p (Says value) is h =
          let here = later c h.0 h.2 (behind (plain (item.Say value)) ps (Point ∷ h.0) (λ e. absurd (cc)) h.1 k) in
          further c c (Do p) ts here (Tell (plain (item.Say value)) ∷ Point ∷ here.pieces)
          (subst (λ deed. DoesDeed sys a at.entry c (λ d rest. Does sys a at here.done d rest (Some here.reached)) (Some here.reached ≡ None) deed (Tell (plain (item.Say value)) ∷ Point ∷ here.pieces)) (sym is)
          (here.pieces, refl, here.reaches))
      deed-step c p (Calls x) is (answer, g, kept, fits, keeps, h) = either (is_assertion answer) refl h
        where
          refuses : In (plain (item.BadTicks t ticks interval)) g → At c (Do p ∷ ts)
          refuses k = first c p ts (subst (RefusesTicks sys a.o t ticks interval) (sym is) (call-refuses sys a.o at.entry x answer g fits k))

          either : (b : Bool) → is_assertion answer ≡ b
              → MatchBool b ((ps ≡ pieces_of x g) × (end ≡ None))
              ((rest : List Piece) × (ps ≡ pieces_of x g ++ (Point ∷ rest)) × Does sys a at ts (record c { ok = ok_after answer c.ok; kept = kept }) rest end)
              → At c (Do p ∷ ts)
          either true e h = refuses (subst (In (plain (item.BadTicks t ticks interval))) (ap records_in h.0 ∙ bare-pieces_of x g) k)
          either false e (rest, split, does) =
              elim (in-append (plain (item.BadTicks t ticks interval)) g (records_in rest)
              (subst (In (plain (item.BadTicks t ticks interval)))
              (ap records_in split ∙ bare-append (pieces_of x g) (Point ∷ rest) ∙ ap (λ us. us ++ records_in rest) (bare-pieces_of x g)) k)) [
                | inl own ↦ refuses own
                | inr other ↦ passed (later (record c { ok = ok_after answer c.ok; kept = kept }) rest does other)
              ]
            where
              passed : At (record c { ok = ok_after answer c.ok; kept = kept }) ts → At c (Do p ∷ ts)
              passed here =
                  further c (record c { ok = ok_after answer c.ok; kept = kept }) (Do p) ts here (pieces_of x g ++ (Point ∷ here.pieces))
                  (subst (λ deed. DoesDeed sys a at.entry c (λ d rest. Does sys a at here.done d rest (Some here.reached)) (Some here.reached ≡ None) deed (pieces_of x g ++ (Point ∷ here.pieces))) (sym is) (
                    answer,
                    g,
                    kept,
                    fits,
                    keeps,
                    subst (λ b. MatchBool b ((pieces_of x g ++ (Point ∷ here.pieces) ≡ pieces_of x g) × (Some here.reached ≡ None))
                        ((rest : List Piece) × (pieces_of x g ++ (Point ∷ here.pieces) ≡ pieces_of x g ++ (Point ∷ rest))
                        × Does sys a at here.done (record c { ok = ok_after answer c.ok; kept = kept }) rest (Some here.reached))) (sym e)
                        (here.pieces, refl, here.reaches),
                  ))

      task-step : (c : Config) (task : Task) → DoesTask sys a at c (λ d rest. Does sys a at ts d rest end) (end ≡ None) task ps → At c (task ∷ ts)
      unfolding DoesTask records_in
      task-step c (Do p) h = deed-step c p (deed_of (names_of a c at.event) p) refl h
      task-step c (Raise ceiling) (former, h) =
          let here = later (record c { former = former }) h.0 h.2 (behind (raised _ former) ps h.0 (λ e. absurd (cc)) h.1 k) in
          further c (record c { former = former }) (Raise ceiling) ts here (Tell (raised _ former) ∷ here.pieces) (former, (here.pieces, refl, here.reaches))
      task-step c Restore (more, is, (rest, point, does)) =
          let in_more = behind (plain (item.Unlock c.former)) ps more (λ e. absurd (cc)) is k in
          let here = later c rest does (subst (λ ps. In (plain (item.BadTicks t ticks interval)) (records_in ps)) point in_more) in
          further c c Restore ts here (Tell (plain (item.Unlock c.former)) ∷ Point ∷ here.pieces) (Point ∷ here.pieces, refl, (here.pieces, refl, here.reaches))
      task-step c Begin h =
          let here = later c h.0 h.2 (behind (plain item.Begin) ps h.0 (λ e. absurd (cc)) h.1 k) in
          further c c Begin ts here (Tell (plain item.Begin) ∷ here.pieces) (here.pieces, refl, here.reaches)
      task-step c (Run s n) h =
          let here = later c h.0 h.2 (behind (plain (item.Run s n)) ps h.0 (λ e. absurd (cc)) h.1 k) in
          further c c (Run s n) ts here (Tell (plain (item.Run s n)) ∷ here.pieces) (here.pieces, refl, here.reaches)
      task-step c Unhandled h =
          let here = later c h.0 h.2 (behind (plain item.Unhandled) ps h.0 (λ e. absurd (cc)) h.1 k) in
          further c c Unhandled ts here (Tell (plain item.Unhandled) ∷ here.pieces) (here.pieces, refl, here.reaches)
      task-step c (Exit s) h =
          let here = later c h.0 h.2 (behind (plain (item.Exit s)) ps h.0 (λ e. absurd (cc)) h.1 k) in
          further c c (Exit s) ts here (Tell (plain (item.Exit s)) ∷ here.pieces) (here.pieces, refl, here.reaches)
      task-step c (Enter s) h =
          let here = later c h.0 h.2 (behind (plain (item.Enter s)) ps h.0 (λ e. absurd (cc)) h.1 k) in
          further c c (Enter s) ts here (Tell (plain (item.Enter s)) ∷ here.pieces) (here.pieces, refl, here.reaches)
      task-step c (Init s) h =
          let here = later c h.0 h.2 (behind (plain (item.Init s)) ps h.0 (λ e. absurd (cc)) h.1 k) in
          further c c (Init s) ts here (Tell (plain (item.Init s)) ∷ here.pieces) (here.pieces, refl, here.reaches)
      task-step c Done h =
          let here = later c h.0 h.2 (behind (plain item.Done) ps h.0 (λ e. absurd (cc)) h.1 k) in
          further c c Done ts here (Tell (plain item.Done) ∷ here.pieces) (here.pieces, refl, here.reaches)

    agenda-step : (ts : List Task) (c : Config) (ps : List Piece) (end : Option Config) → Does sys a at ts c ps end → In (plain (item.BadTicks t ticks interval)) (records_in ps) → At c ts
    unfolding Does records_in
    agenda-step [] c ps end h k = absurd (subst (λ ps. In (plain (item.BadTicks t ticks interval)) (records_in ps)) h.0 k)
    agenda-step (task ∷ ts) c ps end h k = task-step ts end ps k (λ d rest h k. agenda-step ts d rest end h k) c task h

  module _ (sys : System) (a : Actor) where
    in-agenda : (at : Moment) (c : Config) (ts : List Task) → IsAgenda a at c ts → At sys a at c ts → WereRefused sys a t ticks interval
    in-agenda at c ts agenda h = record {
      at = at;
      first = c;
      done = h.done;
      action = h.action;
      left = h.left;
      agenda = subst (IsAgenda a at c) h.split agenda;
      reached = h.reached;
      pieces = h.pieces;
      reaches = h.reaches;
      refused = h.refused;
    }

    start-refuses : (c : Config) (ps : List Piece) (end : Option Config) → Starts sys a c ps end → In (plain (item.BadTicks t ticks interval)) (records_in ps) → WereRefused sys a t ticks interval
    unfolding Starts
    start-refuses c ps end (all, mid, does, is, last) k =
        in-agenda at_start c (start_plan a.chart).tasks (OfStart refl refl)
        (agenda-step sys a at_start (start_plan a.chart).tasks c all mid does (subst (In (plain (item.BadTicks t ticks interval))) (ap records_in is ∙ bare-tell (records_in all)) k))

    not-released : (e : Entry) (mid : Option Config) (rel : List Told) → Closes e mid rel → In (plain (item.BadTicks t ticks interval)) rel → ⊥
    unfolding Closes
    not-released e None rel h k = subst (In (plain (item.BadTicks t ticks interval))) h k
    not-released e (Some c) rel h k = not-usual rel (usual rel (calm-drops e rel h)) k

    step-refuses : (e : Entry) (c : Config) (ps : List Piece) (end : Option Config) → Step sys a e c ps end → In (plain (item.BadTicks t ticks interval)) (records_in ps) → WereRefused sys a t ticks interval
    unfolding Step StepBehind
    step-refuses e c ps end (f, l, m, ev, rest, is, (body, rel, mid, does, closes, split, last)) k =
        let in_rest = behind (told_took f l m e ev) ps rest (λ e. absurd (cc)) is k in
        let both : records_in rest ≡ records_in body ++ rel = ap records_in split ∙ bare-append body (tell rel) ∙ ap (λ us. records_in body ++ us) (bare-tell rel) in
        elim (in-append (plain (item.BadTicks t ticks interval)) (records_in body) rel (subst (In (plain (item.BadTicks t ticks interval))) both in_rest)) [
          | inl own ↦ in-agenda (moment ev e) c (step_plan a.chart c.leaf (names_of a c ev) ev.sig).tasks (OfStep ev e refl refl)
              (agenda-step sys a (moment ev e) (step_plan a.chart c.leaf (names_of a c ev) ev.sig).tasks c body mid does own)
          | inr other ↦ absurd (not-released e mid rel closes other)
        ]

    steps-refuse : (es : List Entry) (c : Option Config) (ps : List Piece) (end : Option Config) → Steps sys a es c ps end → In (plain (item.BadTicks t ticks interval)) (records_in ps) → WereRefused sys a t ticks interval
    unfolding Steps records_in
    steps-refuse [] c ps end h k = absurd (subst (λ ps. In (plain (item.BadTicks t ticks interval)) (records_in ps)) h.0 k)
    steps-refuse (e ∷ es) None ps end h k = absurd h
    steps-refuse (e ∷ es) (Some c) ps end (one, rest, mid, is, step, more) k =
        elim (in-append (plain (item.BadTicks t ticks interval)) (records_in one) (records_in rest) (subst (In (plain (item.BadTicks t ticks interval))) (ap records_in is ∙ bare-append one rest) k)) [
          | inl own ↦ step-refuses e c one mid step own
          | inr other ↦ steps-refuse es mid rest end more other
        ]

    course-refuses : (c : Config) (es : List Entry) (ps : List Piece) (end : Option Config) → Course sys a c es ps end → In (plain (item.BadTicks t ticks interval)) (records_in ps) → WereRefused sys a t ticks interval
    unfolding Course
    course-refuses c es ps end (start, rest, mid, is, starts, steps) k =
        elim (in-append (plain (item.BadTicks t ticks interval)) (records_in start) (records_in rest) (subst (In (plain (item.BadTicks t ticks interval))) (ap records_in is ∙ bare-append start rest) k)) [
          | inl own ↦ start-refuses c start mid starts own
          | inr other ↦ steps-refuse es mid rest end steps other
        ]

  module _ (sys : System) (d : ObjectDef) where
    follows-refuses : (ps : List Piece) → Follows sys d ps → In (plain (item.BadTicks t ticks interval)) (records_in ps)
        → (chart : Chart) × (chart_at sys d.chart ≡ Some chart) × WereRefused sys (actor d chart) t ticks interval
    unfolding Follows FollowsAs
    follows-refuses ps h k = by (chart_at sys d.chart) refl h
      where
        by : (o : Option Chart) → chart_at sys d.chart ≡ o → FollowsAs sys d o ps → (chart : Chart) × (chart_at sys d.chart ≡ Some chart) × WereRefused sys (actor d chart) t ticks interval
        by None is h = absurd h
        by (Some chart) is (es, end, course) = (chart, is, course-refuses sys (actor d chart) (first_config d) es ps end course k)

    in-more : (ps back : List Piece) → In (plain (item.BadTicks t ticks interval)) (records_in ps) → In (plain (item.BadTicks t ticks interval)) (records_in (ps ++ back))
    in-more ps back k = subst (In (plain (item.BadTicks t ticks interval))) (sym (bare-append ps back)) (in-front (plain (item.BadTicks t ticks interval)) (records_in ps) (records_in back) k)

    cut-refuses : (cut : Cut) (ps : List Piece) → FollowsTo sys d cut ps → In (plain (item.BadTicks t ticks interval)) (records_in ps)
        → (chart : Chart) × (chart_at sys d.chart ≡ Some chart) × WereRefused sys (actor d chart) t ticks interval
    unfolding FollowsTo
    cut-refuses Whole ps h k = follows-refuses ps (through-follows sys d ps h) k
    cut-refuses _ ps h k = follows-refuses (ps ++ h.0) h.1 (in-more ps h.0 k)

pub assertion_shows_ticks : law.AssertionShowsTicks
unfolding law.AssertionShowsTicks
assertion_shows_ticks sys d cut ps h earlier later t ticks interval is =
    cut-refuses t ticks interval sys d cut ps h (subst (In (plain (item.BadTicks t ticks interval))) (sym is) (in-place (plain (item.BadTicks t ticks interval)) earlier later))
