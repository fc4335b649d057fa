-- The deferred list of a course: its records leave the list that its configuration has.
use Rattle.std.proofs.Common.{◌≡◌, ℕ, max, Bool, true, false, ◌&&◌, List, [], ◌∷◌, ◌++◌, refl, sym, ◌∙◌, ap, subst, inl, inr, ◌⊎◌, Option, Some, None, is_some, append-nil, cond}
use Rattle.std.specs.Bool.{MatchBool}
use Rattle.std.specs.Option.{option_and_then}
use Rattle.std.specs.List.{list_all, filter}
use Rattle.qp_chart.specs.Task.{Task, Begin, Run, Unhandled, Exit, Enter, Init, Done, Do, Raise, Restore}
use Rattle.qp_chart.specs.Agenda.{step_plan, start_plan}
use Rattle.qp_chart.specs.declared.checked.Chart.{Chart}
use Rattle.qp_model.specs.declared.systems.System.{System}
use Rattle.qp_model.specs.declared.systems.ObjectDef.{ObjectDef}
use Rattle.qp_model.specs.declared.bodies.Entry.{Entry}
use Rattle.qp_model.specs.declared.bodies.Body.{Body}
use Rattle.qp_model.specs.declared.bodies.Body.TheVariants as item
use Rattle.qp_model.specs.Told.{Told, plain, raised, told_took}
use Rattle.qp_model.specs.Calls as call
use Rattle.qp_model.specs.Calls.{Call, Answer, Deed, Sets, Says, Calls, deed_of, ok_after, is_assertion}
use Rattle.qp_model.specs.Shapes.{Fits}
use Rattle.qp_model.specs.Deferral.{keep, kept_after, KeepsDeferred}
use Rattle.qp_model.specs.Pieces.{Piece, Point, records_in, tell, pieces_of}
use Rattle.qp_model.specs.Acts.{Config, Actor, Moment, Later, DoesCall, DoesDeed, DoesTask, Does, names_of}
use Rattle.qp_model.specs.Step.{Step, StepBehind, Closes, at_leaf, moment}
use Rattle.qp_model.specs.Course.{Starts, Steps, Course, Follows, FollowsAs, FollowsTo, Cut, Whole, at_start, actor, first_config, chart_at}
use Rattle.qp_model.proofs.CourseLemmas.{through-follows}
use Rattle.qp_model.proofs.GroupLemmas.{bare-append, bare-tell, bare-pieces_of}
use Rattle.qp_model.proofs.FitsLemmas.{is_calm, is_deferral, is_other, Calm, Ending, Answers, answer-assert, fits-calm, calm-drops}
use Rattle.qp_model.specs.Ends.{is_assert}

-- the records of two lists, one after another
pub kept-append : (room : ℕ) (old mid : List Entry) (g h : List Told) → kept_after room old g ≡ Some mid → kept_after room old (g ++ h) ≡ kept_after room mid h
unfolding kept_after
kept-append room old mid [] h e = let same : old ≡ mid = cc in rw same refl
kept-append room old mid (t ∷ g) h e = by (keep room old t.body) (λ next k. kept-append room next mid g h k) e
  where
    by : (o : Option (List Entry)) → ((next : List Entry) → kept_after room next g ≡ Some mid → kept_after room next (g ++ h) ≡ kept_after room mid h)
        → option_and_then (λ rest. kept_after room rest g) o ≡ Some mid → option_and_then (λ rest. kept_after room rest (g ++ h)) o ≡ kept_after room mid h
    by None go e = absurd (cc)
    by (Some next) go e = go next e

-- a record that is none of deferral leaves the list
keep-other : (room : ℕ) (old : List Entry) (b : Body) → is_deferral b ≡ false → keep room old b ≡ Some old
unfolding keep is_deferral
keep-other room old (item.Defer e) h = absurd (cc)
keep-other room old item.NoDefer h = absurd (cc)
keep-other room old (item.Recall e) h = absurd (cc)
keep-other room old item.NoRecall h = absurd (cc)
keep-other room old (item.Flush e) h = absurd (cc)
keep-other room old b h = refl

-- records that are none of deferral may be left out
pub kept-filter : (room : ℕ) (f : Told → Bool) → ((t : Told) → f t ≡ false → is_deferral t.body ≡ false) → (old : List Entry) (g : List Told)
    → kept_after room old (filter f g) ≡ kept_after room old g
unfolding kept_after
kept-filter room f none old [] = refl
kept-filter room f none old (t ∷ g) = by (λ next. kept-filter room f none next g) (f t) refl
  where
    later : (o : Option (List Entry)) → ((next : List Entry) → kept_after room next (filter f g) ≡ kept_after room next g)
        → option_and_then (λ rest. kept_after room rest (filter f g)) o ≡ option_and_then (λ rest. kept_after room rest g) o
    later None go = refl
    later (Some next) go = go next

    by : ((next : List Entry) → kept_after room next (filter f g) ≡ kept_after room next g) → (b : Bool) → f t ≡ b
        → kept_after room old (cond b (t ∷ filter f g) (filter f g)) ≡ option_and_then (λ rest. kept_after room rest g) (keep room old t.body)
    by go true is = later (keep room old t.body) go
    by go false is = rw (keep-other room old t.body (none t is)) (go old)

calm-other : (b : Body) → is_calm b ≡ true → is_deferral b ≡ false
unfolding is_calm is_deferral
calm-other (item.Defer e) h = absurd (cc)
calm-other item.NoDefer h = absurd (cc)
calm-other (item.Recall e) h = absurd (cc)
calm-other item.NoRecall h = absurd (cc)
calm-other (item.Flush e) h = absurd (cc)
calm-other b h = refl

assert-other : (b : Body) → is_assert b ≡ true → is_deferral b ≡ false
unfolding is_deferral
assert-other (item.Defer e) h = absurd (cc)
assert-other item.NoDefer h = absurd (cc)
assert-other (item.Recall e) h = absurd (cc)
assert-other item.NoRecall h = absurd (cc)
assert-other (item.Flush e) h = absurd (cc)
assert-other b h = refl

pub kept-calm : (room : ℕ) (old : List Entry) (g : List Told) → Calm g → kept_after room old g ≡ Some old
unfolding kept_after
kept-calm room old [] h = refl
kept-calm room old (t ∷ g) h = by (is_calm t.body) refl h (kept-calm room old g)
  where
    by : (b : Bool) → is_calm t.body ≡ b → (b && list_all (λ t. is_calm t.body) g) ≡ true → (Calm g → kept_after room old g ≡ Some old)
        → option_and_then (λ rest. kept_after room rest g) (keep room old t.body) ≡ Some old
    by false is h go = absurd (cc)
    by true is h go = rw (keep-other room old t.body (calm-other t.body is)) (go h)

kept-ending : (room : ℕ) (old : List Entry) (answer : Answer) (g : List Told) → Ending Calm answer g → kept_after room old g ≡ Some old
unfolding Ending kept_after
kept-ending room old answer g h =
    subst (λ us. kept_after room old us ≡ Some old) (sym h.4)
    (kept-append room old old h.0 (h.1 ∷ []) (kept-calm room old h.0 h.2) ∙ one (keep-other room old h.1.body (assert-other h.1.body (answer-assert h.1.body answer h.3))))
  where
    one : keep room old h.1.body ≡ Some old → option_and_then (λ rest. kept_after room rest []) (keep room old h.1.body) ≡ Some old
    one e = rw e refl

-- a call leaves the list that its configuration gets
call-kept : (sys : System) (a : Actor) (now : Option Entry) (x : Call) (answer : Answer) (g : List Told) (old new : List Entry)
    → Fits sys a.o now x answer g → KeepsDeferred a.room x g old new → kept_after a.room old g ≡ Some new
unfolding KeepsDeferred Answers is_other
call-kept sys a now x answer g old new fits keeps = by x refl keeps
  where
    answered : (x : Call) → is_other x ≡ true → Fits sys a.o now x answer g → new ≡ old → kept_after a.room old g ≡ Some new
    answered x is fits same = either (is_assertion answer) (fits-calm sys a.o now x answer g is fits) ∙ ap Some (sym same)
      where
        either : (b : Bool) → MatchBool b (Ending Calm answer g) (Calm g) → kept_after a.room old g ≡ Some old
        either true h = kept-ending a.room old answer g h
        either false h = kept-calm a.room old g h

    by : (y : Call) → x ≡ y → KeepsDeferred a.room y g old new → kept_after a.room old g ≡ Some new
    by call.Flush is k = k.0
    by (call.Post to sig pars margin reserve) is k = answered (call.Post to sig pars margin reserve) refl (subst (λ z. Fits sys a.o now z answer g) is fits) k
    by (call.Lifo sig pars reserve) is k = answered (call.Lifo sig pars reserve) refl (subst (λ z. Fits sys a.o now z answer g) is fits) k
    by (call.Forward to margin) is k = answered (call.Forward to margin) refl (subst (λ z. Fits sys a.o now z answer g) is fits) k
    by (call.Publish sig pars reserve) is k = answered (call.Publish sig pars reserve) refl (subst (λ z. Fits sys a.o now z answer g) is fits) k
    by (call.Subscribe sig) is k = answered (call.Subscribe sig) refl (subst (λ z. Fits sys a.o now z answer g) is fits) k
    by (call.Unsubscribe sig) is k = answered (call.Unsubscribe sig) refl (subst (λ z. Fits sys a.o now z answer g) is fits) k
    by (call.Arm t ticks interval) is k = answered (call.Arm t ticks interval) refl (subst (λ z. Fits sys a.o now z answer g) is fits) k
    by (call.Rearm t ticks) is k = answered (call.Rearm t ticks) refl (subst (λ z. Fits sys a.o now z answer g) is fits) k
    by (call.Disarm t) is k = answered (call.Disarm t) refl (subst (λ z. Fits sys a.o now z answer g) is fits) k
    by _ is k = k

-- records that leave the list of the configuration after them, or some list after an assertion
unfoldable pub Kept : ℕ → List Entry → List Told → Option Config → Type 0
unfolding kept_after
Kept room old g (Some d) = kept_after room old g ≡ Some d.kept
Kept room old g None = (new : List Entry) × (kept_after room old g ≡ Some new)

-- records before them
kept-before : (room : ℕ) (old mid : List Entry) (g h : List Told) (end : Option Config) → kept_after room old g ≡ Some mid → Kept room mid h end → Kept room old (g ++ h) end
unfolding Kept
kept-before room old mid g h (Some d) e k = kept-append room old mid g h e ∙ k
kept-before room old mid g h None e k = (k.0, kept-append room old mid g h e ∙ k.1)

kept-same : (room : ℕ) (old : List Entry) (g h : List Told) (end : Option Config) → g ≡ h → Kept room old h end → Kept room old g end
kept-same room old g h end e k = subst (λ us. Kept room old us end) (sym e) k

module _ (sys : System) (a : Actor) (at : Moment) where
  -- records that leave the next configuration's list, and then what is to come
  KeptThen : Config → Later → List Piece → Type 0
  KeptThen c later ps = (g : List Told) × (d : Config) × (rest : List Piece) × (kept_after a.room c.kept g ≡ Some d.kept) × (records_in ps ≡ g ++ records_in rest) × later d rest

  -- or they end in an assertion
  KeptLast : Config → Type 0 → List Piece → Type 0
  KeptLast c failed ps = ((new : List Entry) × (kept_after a.room c.kept (records_in ps) ≡ Some new)) × failed

  call-keeps : (c : Config) (later : Later) (failed : Type 0) (x : Call) (ps : List Piece) → DoesCall sys a at.entry c later failed x ps → KeptThen c later ps ⊎ KeptLast c failed ps
  unfolding DoesCall KeptThen KeptLast records_in
  call-keeps c later failed x ps h = by (is_assertion h.0) h.5
    where
      kept : kept_after a.room c.kept h.1 ≡ Some h.2
      kept = call-kept sys a at.entry x h.0 h.1 c.kept h.2 h.3 h.4

      by : (b : Bool) → MatchBool b ((ps ≡ pieces_of x h.1) × failed) ((rest : List Piece) × (ps ≡ pieces_of x h.1 ++ (Point ∷ rest)) × later (record c { ok = ok_after h.0 c.ok; kept = h.2 }) rest)
          → KeptThen c later ps ⊎ KeptLast c failed ps
      by true k = inr ((h.2, subst (λ us. kept_after a.room c.kept us ≡ Some h.2) (sym (ap records_in k.0 ∙ bare-pieces_of x h.1)) kept), k.1)
      by false k = inl (
        h.1,
        record c { ok = ok_after h.0 c.ok; kept = h.2 },
        k.0,
        kept,
        ap records_in k.1 ∙ bare-append (pieces_of x h.1) (Point ∷ k.0) ∙ ap (λ us. us ++ records_in (Point ∷ k.0)) (bare-pieces_of x h.1),
        k.2,
      )

  task-keeps : (c : Config) (later : Later) (failed : Type 0) (t : Task) (ps : List Piece) → DoesTask sys a at c later failed t ps → KeptThen c later ps ⊎ KeptLast c failed ps
  unfolding DoesTask DoesDeed KeptThen kept_after records_in
  task-keeps c later failed (Do p) ps h = by (deed_of (names_of a c at.event) p) h
    where
      by : (d : Deed) → DoesDeed sys a at.entry c later failed d ps → KeptThen c later ps ⊎ KeptLast c failed ps
      by (Sets var value) h = inl ([], _, h.0, refl, ap records_in h.1, h.2)
      by (Says value) h = inl (plain (item.Say value) ∷ [], c, h.0, refl, ap records_in h.1, h.2)
      by (Calls x) h = call-keeps c later failed x ps h
  task-keeps c later failed (Raise ceiling) ps h = inl (raised (max h.0 ceiling) h.0 ∷ [], record c { former = h.0 }, h.1.0, refl, ap records_in h.1.1, h.1.2)
  task-keeps c later failed Restore ps h = inl (plain (item.Unlock c.former) ∷ [], c, h.2.0, refl, ap records_in h.1 ∙ ap (λ us. plain (item.Unlock c.former) ∷ records_in us) h.2.1, h.2.2)
  task-keeps c later failed Begin ps h = inl (plain item.Begin ∷ [], c, h.0, refl, ap records_in h.1, h.2)
  task-keeps c later failed (Run s k) ps h = inl (plain (item.Run s k) ∷ [], c, h.0, refl, ap records_in h.1, h.2)
  task-keeps c later failed Unhandled ps h = inl (plain item.Unhandled ∷ [], c, h.0, refl, ap records_in h.1, h.2)
  task-keeps c later failed (Exit s) ps h = inl (plain (item.Exit s) ∷ [], c, h.0, refl, ap records_in h.1, h.2)
  task-keeps c later failed (Enter s) ps h = inl (plain (item.Enter s) ∷ [], c, h.0, refl, ap records_in h.1, h.2)
  task-keeps c later failed (Init s) ps h = inl (plain (item.Init s) ∷ [], c, h.0, refl, ap records_in h.1, h.2)
  task-keeps c later failed Done ps h = inl (plain item.Done ∷ [], c, h.0, refl, ap records_in h.1, h.2)

  pub does-keeps : (ts : List Task) (c : Config) (ps : List Piece) (end : Option Config) → Does sys a at ts c ps end → Kept a.room c.kept (records_in ps) end
  unfolding Does Kept kept_after KeptThen KeptLast records_in
  does-keeps [] c ps end h = subst (λ x. Kept a.room c.kept (records_in ps) x) (sym h.1) (ap (λ us. kept_after a.room c.kept (records_in us)) h.0)
  does-keeps (t ∷ ts) c ps end h = by (λ d rest k. does-keeps ts d rest end k) (task-keeps c (λ d rest. Does sys a at ts d rest end) (end ≡ None) t ps h)
    where
      by : ((d : Config) (rest : List Piece) → Does sys a at ts d rest end → Kept a.room d.kept (records_in rest) end)
          → KeptThen c (λ d rest. Does sys a at ts d rest end) ps ⊎ KeptLast c (end ≡ None) ps → Kept a.room c.kept (records_in ps) end
      by go (inl k) = kept-same a.room c.kept (records_in ps) (k.0 ++ records_in k.2) end k.4 (kept-before a.room c.kept k.1.kept k.0 (records_in k.2) end k.3 (go k.1 k.2 k.5))
      by go (inr k) = subst (λ x. Kept a.room c.kept (records_in ps) x) (sym k.1) k.0

module _ (sys : System) (a : Actor) where
  at_leaf-kept : (leaf : ℕ) (old : List Entry) (g : List Told) (mid end : Option Config) → end ≡ at_leaf leaf mid → Kept a.room old g mid → Kept a.room old g end
  unfolding Kept
  at_leaf-kept leaf old g None end is h = subst (λ x. Kept a.room old g x) (sym is) h
  at_leaf-kept leaf old g (Some d) end is h = subst (λ x. Kept a.room old g x) (sym is) h

  step-keeps : (e : Entry) (c : Config) (ps : List Piece) (end : Option Config) → Step sys a e c ps end → Kept a.room c.kept (records_in ps) end
  unfolding Step StepBehind Closes Kept kept_after records_in
  step-keeps e c ps end h =
      at_leaf-kept _ c.kept (records_in ps) h.6.2 end h.6.6 (kept-same a.room c.kept (records_in ps) (told_took h.0 h.1 h.2 e h.3 ∷ (records_in h.6.0 ++ h.6.1)) h.6.2 whole (took h.6.2 (closed h.6.2 h.6.4 (does-keeps sys a (moment h.3 e) (step_plan a.chart c.leaf (names_of a c h.3) h.3.sig).tasks c h.6.0 h.6.2 h.6.3))))
    where
      whole : records_in ps ≡ told_took h.0 h.1 h.2 e h.3 ∷ (records_in h.6.0 ++ h.6.1)
      whole =
          ap records_in h.5 ∙ ap (λ us. told_took h.0 h.1 h.2 e h.3 ∷ us) (ap records_in h.6.5 ∙ bare-append h.6.0 (tell h.6.1) ∙ ap (λ us. records_in h.6.0 ++ us) (bare-tell h.6.1))

      closed : (mid : Option Config) → Closes e mid h.6.1 → Kept a.room c.kept (records_in h.6.0) mid → Kept a.room c.kept (records_in h.6.0 ++ h.6.1) mid
      closed None is k = subst (λ us. Kept a.room c.kept (records_in h.6.0 ++ us) None) (sym is) (subst (λ us. Kept a.room c.kept us None) (sym (append-nil (records_in h.6.0))) k)
      closed (Some d) drops k = kept-append a.room c.kept d.kept (records_in h.6.0) h.6.1 k ∙ kept-calm a.room d.kept h.6.1 (calm-drops e h.6.1 drops)

      took : (mid : Option Config) → Kept a.room c.kept (records_in h.6.0 ++ h.6.1) mid → Kept a.room c.kept (told_took h.0 h.1 h.2 e h.3 ∷ (records_in h.6.0 ++ h.6.1)) mid
      took None k = k
      took (Some d) k = k

  steps-keeps : (es : List Entry) (c : Config) (ps : List Piece) (end : Option Config) → Steps sys a es (Some c) ps end → Kept a.room c.kept (records_in ps) end
  unfolding Steps Kept kept_after records_in
  steps-keeps [] c ps end h = subst (λ x. Kept a.room c.kept (records_in ps) x) (sym h.1) (ap (λ us. kept_after a.room c.kept (records_in us)) h.0)
  steps-keeps (e ∷ es) c ps end h =
      kept-same a.room c.kept (records_in ps) (records_in h.0 ++ records_in h.1) end (ap records_in h.3 ∙ bare-append h.0 h.1)
      (by h.2 (step-keeps e c h.0 h.2 h.4) (λ d k. steps-keeps es d h.1 end k) h.5)
    where
      nothing : (es : List Entry) (ps : List Piece) → Steps sys a es None ps end → (records_in ps ≡ []) × (end ≡ None)
      nothing [] ps k = (ap records_in k.0, k.1)
      nothing (x ∷ xs) ps k = absurd k

      by : (mid : Option Config) → Kept a.room c.kept (records_in h.0) mid → ((d : Config) → Steps sys a es (Some d) h.1 end → Kept a.room d.kept (records_in h.1) end) → Steps sys a es mid h.1 end
          → Kept a.room c.kept (records_in h.0 ++ records_in h.1) end
      by (Some d) one go k = kept-before a.room c.kept d.kept (records_in h.0) (records_in h.1) end one (go d k)
      by None one go k =
          let gone = nothing es h.1 k in
          subst (λ x. Kept a.room c.kept (records_in h.0 ++ records_in h.1) x) (sym gone.1)
          (subst (λ us. Kept a.room c.kept (records_in h.0 ++ us) None) (sym gone.0) (subst (λ us. Kept a.room c.kept us None) (sym (append-nil (records_in h.0))) one))

  starts-keeps : (first : Config) (ps : List Piece) (end : Option Config) → Starts sys a first ps end → Kept a.room first.kept (records_in ps) end
  unfolding Starts
  starts-keeps first ps end h =
      at_leaf-kept _ first.kept (records_in ps) h.1 end h.4 (kept-same a.room first.kept (records_in ps) (records_in h.0) h.1 (ap records_in h.3 ∙ bare-tell (records_in h.0)) (does-keeps sys a at_start (start_plan a.chart).tasks first h.0 h.1 h.2))

  -- the records of a course leave the deferred list of its configuration
  pub course-keeps : (first : Config) (es : List Entry) (ps : List Piece) (end : Option Config) → Course sys a first es ps end → Kept a.room first.kept (records_in ps) end
  unfolding Course Steps Kept records_in
  course-keeps first es ps end h =
      kept-same a.room first.kept (records_in ps) (records_in h.0 ++ records_in h.1) end (ap records_in h.3 ∙ bare-append h.0 h.1) (by h.2 (starts-keeps first h.0 h.2 h.4) h.5)
    where
      nothing : (es : List Entry) (ps : List Piece) → Steps sys a es None ps end → (records_in ps ≡ []) × (end ≡ None)
      nothing [] ps k = (ap records_in k.0, k.1)
      nothing (x ∷ xs) ps k = absurd k

      by : (mid : Option Config) → Kept a.room first.kept (records_in h.0) mid → Steps sys a es mid h.1 end → Kept a.room first.kept (records_in h.0 ++ records_in h.1) end
      by (Some d) one k = kept-before a.room first.kept d.kept (records_in h.0) (records_in h.1) end one (steps-keeps es d h.1 end k)
      by None one k =
          let gone = nothing es h.1 k in
          subst (λ x. Kept a.room first.kept (records_in h.0 ++ records_in h.1) x) (sym gone.1)
          (subst (λ us. Kept a.room first.kept (records_in h.0 ++ us) None) (sym gone.0) (subst (λ us. Kept a.room first.kept us None) (sym (append-nil (records_in h.0))) one))

  -- so each record of deferral stands where the list allows it
  pub course-deferral : (first : Config) (es : List Entry) (ps : List Piece) (end : Option Config) → Course sys a first es ps end → is_some (kept_after a.room first.kept (records_in ps)) ≡ true
  unfolding Kept
  course-deferral first es ps end h = by end (course-keeps first es ps end h)
    where
      by : (end : Option Config) → Kept a.room first.kept (records_in ps) end → is_some (kept_after a.room first.kept (records_in ps)) ≡ true
      by None k = rw k.1 refl
      by (Some d) k = rw k refl

-- a front of records that can stand can stand
pub kept-front : (room : ℕ) (old : List Entry) (g h : List Told) → is_some (kept_after room old (g ++ h)) ≡ true → is_some (kept_after room old g) ≡ true
unfolding kept_after
kept-front room old [] h k = refl
kept-front room old (t ∷ g) h k = by (keep room old t.body) (λ next k. kept-front room next g h k) k
  where
    by : (o : Option (List Entry)) → ((next : List Entry) → is_some (kept_after room next (g ++ h)) ≡ true → is_some (kept_after room next g) ≡ true)
        → is_some (option_and_then (λ rest. kept_after room rest (g ++ h)) o) ≡ true → is_some (option_and_then (λ rest. kept_after room rest g) o) ≡ true
    by None go k = absurd (cc)
    by (Some next) go k = go next k

-- in what follows its chart each record of deferral stands where the list allows it
pub follows-deferral : (sys : System) (d : ObjectDef) (cut : Cut) (ps : List Piece) → FollowsTo sys d cut ps → is_some (kept_after d.defer [] (records_in ps)) ≡ true
unfolding FollowsTo Follows FollowsAs
follows-deferral sys d cut ps h = by cut h
  where
    by_chart : (o : Option Chart) (ps : List Piece) → FollowsAs sys d o ps → is_some (kept_after d.defer [] (records_in ps)) ≡ true
    by_chart None ps k = absurd k
    by_chart (Some chart) ps k = course-deferral sys (actor d chart) (first_config d) k.0 ps k.1 k.2

    longer : (back : List Piece) → FollowsAs sys d (chart_at sys d.chart) (ps ++ back) → is_some (kept_after d.defer [] (records_in ps)) ≡ true
    longer back k =
        kept-front d.defer [] (records_in ps) (records_in back)
        (subst (λ us. is_some (kept_after d.defer [] us) ≡ true) (bare-append ps back) (by_chart (chart_at sys d.chart) (ps ++ back) k))

    by : (cut : Cut) → FollowsTo sys d cut ps → is_some (kept_after d.defer [] (records_in ps)) ≡ true
    by Whole k = by_chart (chart_at sys d.chart) ps (through-follows sys d ps k)
    by _ k = longer k.0 k.1
