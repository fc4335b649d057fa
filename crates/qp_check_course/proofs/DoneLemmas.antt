-- A course counts its steps: between two of them as many are done as began, and the start.
use Rattle.std.proofs.Common.{◌≡◌, ℕ, zero, suc, ◌+◌, Bool, true, false, not, ◌&&◌, List, [], ◌∷◌, ◌++◌, map, cond, refl, sym, ◌∙◌, ap, subst, inl, inr, ◌⊎◌, Option, Some, None, arith, append_assoc}
use Rattle.std.specs.Prelude.{slice_set}
use Rattle.std.specs.Option.{option_and_then}
use Rattle.std.specs.List.{count_by}
use Rattle.std.proofs.lemmas.List.Sums.{sum_by-cons}
use Rattle.std.proofs.lemmas.Option.{none-some}
use Rattle.qp_chart.specs.declared.actions.Plain.{Plain}
use Rattle.qp_chart.specs.Task as task
use Rattle.qp_chart.specs.Task.{Task}
use Rattle.qp_chart.specs.Agenda.{step_plan, start_plan}
use Rattle.qp_model.specs.declared.systems.System.{System}
use Rattle.qp_model.specs.declared.bodies.Entry.{Entry}
use Rattle.qp_model.specs.declared.bodies.Body.{Body}
use Rattle.qp_model.specs.declared.bodies.Body.TheVariants as item
use Rattle.qp_model.specs.Told.{Told, Event}
use Rattle.qp_model.specs.Groups.{is_post}
use Rattle.qp_model.specs.Calls.{Deed, Sets, Says, Calls, deed_of, ok_after, is_assertion}
use Rattle.qp_model.specs.ObjectShape.{nothing_after, asserts_last, asserts_none}
use Rattle.qp_model.specs.Ends.{is_assert}
use Rattle.qp_model.specs.Acts.{Config, Actor, names_of}
use Rattle.qp_model.specs.OutputSummary.{is_took, is_done_record}
use Rattle.qp_model.proofs.BlockLemmas.{Block, Exits, Enters, Inits, Acts, Locks, spread, Blocks, step-blocks, start-blocks}
use Rattle.qp_check_calls.specs.CallState.{CallStage, Whole, CallState}
use Rattle.qp_check_calls.specs.CallStateNext.{call_state_begin, call_state_next, stage_answer}
use Rattle.qp_check_course.specs.Note.{Note, Run, Unhandled, Done, body_of_note, tells, raised_from, entry_and_event_taken, dropped_by, comes_back}
use Rattle.qp_check_course.specs.Goes.{Way, Starting, Stepping, moment_of}
use Rattle.qp_check_course.specs.Machine.{State, Between, Telling, Raising, AtPoint, InCall, AtPost, Releasing, Returning, Asserted, has_inner, action_done, answered, resumed, resume, deed_state, task_state, step_closed, closing, tasks_state, behind_note, call_told, step_state, start_state, behind_dec, tell_next}
use Rattle.qp_check_course.specs.Passing.{through, settle_past, pass_actions, pass, run_told}
use Rattle.qp_check_course.specs.Standing.{config_left_in}
use Rattle.qp_check_course.proofs.NoteLemmas.{tells-is, raised-is, taken-is, dropped-is, back-is}
use Rattle.qp_check_course.proofs.PassLemmas.{Shape, settle-shape, through-none}
use Rattle.qp_check_course.proofs.QuietLemmas.{call-plain}
use Rattle.qp_model.proofs.KernelLaneLemmas.{granted}
use Rattle.qp_model.proofs.AbleLemmas.{some-same}
use Rattle.qp_model.proofs.ListLemmas.{mapped}

-- `done` is the last of these tasks, and no other is
abbrev pub ends_once : List Task → Bool
ends_once [] = false
ends_once (task.Done ∷ []) = true
ends_once (task.Done ∷ t ∷ ts) = false
ends_once (t ∷ ts) = ends_once ts

dos-end : (ps : List Plain) (ts : List Task) → ends_once ts ≡ true → ends_once (map task.Do ps ++ ts) ≡ true
dos-end [] ts h = h
dos-end (p ∷ ps) ts h = dos-end ps ts h

spread-ends : (bs : List Block) → ends_once (spread bs ++ task.Done ∷ []) ≡ true
unfolding spread
spread-ends [] = refl
spread-ends (Exits s ∷ bs) = spread-ends bs
spread-ends (Enters s ∷ bs) = spread-ends bs
spread-ends (Inits s ∷ bs) = spread-ends bs
spread-ends (Acts p ∷ bs) = spread-ends bs
spread-ends (Locks ceiling ps ∷ bs) =
    ap ends_once (append_assoc (map task.Do ps) (task.Restore ∷ spread bs) (task.Done ∷ [])) ∙ dos-end ps (task.Restore ∷ (spread bs ++ task.Done ∷ [])) (spread-ends bs)

blocks-end : (ts : List Task) → Blocks ts → ends_once (ts ++ task.Done ∷ []) ≡ true
unfolding Blocks
blocks-end ts (bs, is) = ap (λ us. ends_once (us ++ task.Done ∷ [])) is ∙ spread-ends bs

-- the note of the last task is the one of `done`, behind which nothing is left
abbrev pub note_ends : Note → Bool → List Task → Bool
note_ends Done false [] = true
note_ends Done ends ts = false
note_ends n ends ts = ends_once ts

-- what is left ends with `done`
abbrev pub WillEnd : State → Type 0
WillEnd (Telling way n ends ts leaf c) = note_ends n ends ts ≡ true
WillEnd (Raising way ceiling ts leaf c) = ends_once ts ≡ true
WillEnd (AtPoint ev e ts leaf c) = ends_once ts ≡ true
WillEnd (InCall way inner rest ts leaf c) = ends_once ts ≡ true
WillEnd (AtPost way rest ts leaf c) = ends_once ts ≡ true
WillEnd s = Unit {0}

-- a start or a step is under way
abbrev pub open_of : Option Config → ℕ
open_of None = 1
open_of (Some c) = 0

abbrev pub open_in : State → ℕ
open_in s = open_of (config_left_in s)

abbrev pub IsUnder : State → Type 0
IsUnder s = WillEnd s × (open_in s ≡ 1)

module _ (a : Actor) (way : Way) (leaf : ℕ) (ts : List Task) (go : Config → State) where
  done-under : ends_once ts ≡ true → ((d : Config) → IsUnder (go d)) → (d : Config) → IsUnder (action_done way leaf ts go d)
  done-under h more d = by way
    where
      by : (way : Way) → IsUnder (action_done way leaf ts go d)
      by Starting = more d
      by (Stepping ev e) = (h, refl)

  answered-under : ends_once ts ≡ true → ((d : Config) → IsUnder (go d)) → (b : Bool) (d : Config) → IsUnder (answered b way leaf ts go d)
  answered-under h more true d = (tt, refl)
  answered-under h more false d = done-under h more d

  resume-under : ends_once ts ≡ true → ((d : Config) → IsUnder (go d)) → (inner : Bool) (rest : CallState) (c : Config) → IsUnder (resume way inner rest leaf ts go c)
  resume-under h more inner rest c = by rest.stage
    where
      by : (s : CallStage) → IsUnder (resumed (stage_answer s) way inner rest leaf ts go c)
      by (Whole own) = answered-under h more (is_assertion own) (record c { ok = ok_after own c.ok; kept = rest.kept })
      by s = (h, refl)

  deed-under : ends_once ts ≡ true → ((d : Config) → IsUnder (go d)) → (d : Deed) (c : Config) → IsUnder (deed_state a way leaf ts go c d)
  unfolding deed_state
  deed-under h more (Sets var value) c = done-under h more (record c { vars = slice_set c.vars var value })
  deed-under h more (Says value) c = (h, refl)
  deed-under h more (Calls x) c = resume-under h more (has_inner way x) (call_state_begin a.room c.kept x) c

last-ends : (ts : List Task) → ends_once (task.Done ∷ ts) ≡ true → note_ends Done false ts ≡ true
last-ends [] h = refl
last-ends (t ∷ ts) h = absurd (cc)

-- the state in which such tasks are left is one of a start or a step that is under way
pub settle-under : (a : Actor) (way : Way) (leaf : ℕ) (ts : List Task) (c : Config) → ends_once ts ≡ true → IsUnder (tasks_state a way leaf ts c)
unfolding tasks_state task_state
settle-under a way leaf [] c h = absurd (cc)
settle-under a way leaf (task.Do p ∷ ts) c h =
    deed-under a way leaf ts (λ d. tasks_state a way leaf ts d) h (λ d. settle-under a way leaf ts d h) (deed_of (names_of a c (moment_of way).event) p) c
settle-under a way leaf (task.Done ∷ ts) c h = (last-ends ts h, refl)
settle-under a way leaf _ c h = (h, refl)

pub start-under : (a : Actor) (c : Config) → IsUnder (start_state a c)
unfolding start_state
start-under a c =
    let plan = start-blocks a.chart in
    settle-under a Starting (start_plan a.chart).leaf (start_plan a.chart).tasks c (ap ends_once plan.2 ∙ blocks-end plan.0 plan.1)

step-under : (a : Actor) (e : Entry) (ev : Event) (c : Config) → IsUnder (step_state a e ev c)
unfolding step_state
step-under a e ev c =
    let plan = step-blocks a.chart c.leaf (names_of a c ev) ev.sig in
    settle-under a (Stepping ev e) (step_plan a.chart c.leaf (names_of a c ev) ev.sig).leaf (step_plan a.chart c.leaf (names_of a c ev) ev.sig).tasks c
    (ap ends_once plan.4 ∙ headed plan.0 plan.1 plan.2 (blocks-end plan.1 plan.3))
  where
    headed : (head : Task) (ts : List Task) → (head ≡ task.Unhandled) ⊎ ((s k : ℕ) × (head ≡ task.Run s k)) → ends_once (ts ++ task.Done ∷ []) ≡ true
        → ends_once (head ∷ (ts ++ task.Done ∷ [])) ≡ true
    headed head ts (inl is) h = ap (λ t. ends_once (t ∷ (ts ++ task.Done ∷ []))) is ∙ h
    headed head ts (inr (s, k, is)) h = ap (λ t. ends_once (t ∷ (ts ++ task.Done ∷ []))) is ∙ h

noted-under : (a : Actor) (way : Way) (ends : Bool) (leaf : ℕ) (ts : List Task) (c : Config) → ends_once ts ≡ true → IsUnder (behind_note a way ends leaf ts c)
noted-under a way true leaf ts c h = done-under a way leaf ts (tasks_state a way leaf ts) h (λ d. settle-under a way leaf ts d h) c
noted-under a way false leaf ts c h = settle-under a way leaf ts c h

posted-under : (b : Bool) (a : Actor) (way : Way) (inner : Bool) (rest : CallState) (leaf : ℕ) (ts : List Task) (c : Config) → ends_once ts ≡ true → IsUnder (call_told b a way inner rest leaf ts c)
posted-under true a way inner rest leaf ts c h = (h, refl)
posted-under false a way inner rest leaf ts c h = resume-under a way leaf ts (tasks_state a way leaf ts) h (λ d. settle-under a way leaf ts d h) inner rest c

-- points that are passed leave it so
past-under : (a : Actor) (ev : Event) (e : Entry) (leaf : ℕ) (ts : List Task) (c : Config) → ends_once ts ≡ true → IsUnder (settle_past a ev e leaf ts c)
unfolding settle_past
past-under a ev e leaf [] c h = absurd (cc)
past-under a ev e leaf (t ∷ ts) c h =
    by (λ d k. past-under a ev e leaf ts d k) (tasks_state a (Stepping ev e) leaf (t ∷ ts) c) (settle-shape a ev e leaf t ts c) (settle-under a (Stepping ev e) leaf (t ∷ ts) c h)
  where
    by : ((d : Config) → ends_once ts ≡ true → IsUnder (settle_past a ev e leaf ts d)) → (s : State) → Shape ev e leaf ts s → IsUnder s
        → IsUnder (through s (λ d. settle_past a ev e leaf ts d))
    by more s (inl (d, is)) under =
        let at : IsUnder (AtPoint ev e ts leaf d) = subst IsUnder is under in
        subst (λ x. IsUnder (through x (λ d. settle_past a ev e leaf ts d))) (sym is) (more d at.0)
    by more s (inr none) under = subst IsUnder (sym (through-none a s (λ d. settle_past a ev e leaf ts d) none)) under

-- the same of a state, whether it is under way or not
abbrev pub Keeps : State → State → Type 0
Keeps s later = WillEnd later × (open_in later ≡ open_in s)

actions-keep : (a : Actor) (s : State) → WillEnd s → Keeps s (pass_actions a s)
unfolding pass_actions
actions-keep a (AtPoint ev e ts leaf c) h = past-under a ev e leaf ts c h
actions-keep a _ h = (h, refl)

pass-keeps : (a : Actor) (s : State) → WillEnd s → Keeps s (pass a s)
unfolding pass
pass-keeps a (AtPost way rest ts leaf c) h =
    let under = resume-under a way leaf ts (tasks_state a way leaf ts) h (λ d. settle-under a way leaf ts d h) true rest c in
    let on = actions-keep a (resume way true rest leaf ts (tasks_state a way leaf ts) c) under.0 in
    (on.0, on.1 ∙ under.1)
pass-keeps a other h = actions-keep a other h

abbrev pub one_if : Bool → ℕ
one_if b = cond b 1 0

-- What a record makes of the counts: a step is done or begins with it, or neither; behind an assertion it is under way.
pub record Counts (s : State) (b : Body) (later : State) : Type 0 where
  pub ends : WillEnd later
  pub counts : one_if (is_done_record b) + open_in later ≡ one_if (is_took b) + open_in s
  pub loud : is_assert b ≡ true → open_in later ≡ 1

-- a record that neither begins nor ends a step
pub record IsPlain (b : Body) : Type 0 where
  pub done : is_done_record b ≡ false
  pub took : is_took b ≡ false

under-counts : (s later : State) (b : Body) → open_in s ≡ 1 → IsPlain b → IsUnder later → Counts s b later
under-counts s later b going is under = record {
  ends = under.0;
  counts = rw (is.done, is.took, under.1, going) refl;
  loud = λ h. under.1;
}

-- the state of no step
rests-count : (s later : State) (b : Body) → open_in s ≡ 0 → open_in later ≡ 0 → WillEnd later → IsPlain b → is_assert b ≡ false → Counts s b later
rests-count s later b one two ends is quiet = record {
  ends = ends;
  counts = rw (is.done, is.took, one, two) refl;
  loud = λ h. let wrong : true ≡ false = sym h ∙ quiet in absurd (cc);
}

abbrev is_final : Note → Bool
is_final Done = true
is_final n = false

note-plain : (n : Note) → is_final n ≡ false → IsPlain (body_of_note n)
note-plain Done h = absurd (cc)
note-plain _ h = record { done = refl; took = refl }

note-left : (n : Note) (ends : Bool) (ts : List Task) → is_final n ≡ false → note_ends n ends ts ≡ true → ends_once ts ≡ true
note-left Done ends ts h k = absurd (cc)
note-left _ ends ts h k = k

-- the end of a start or of a step
closed-rests : (p : ℕ) (e : Entry) (c : Config) → WillEnd (step_closed p e c) × (open_in (step_closed p e c) ≡ 0)
closed-rests zero e c = (tt, refl)
closed-rests (suc p) e c = (tt, refl)

closing-rests : (way : Way) (leaf : ℕ) (c : Config) → WillEnd (closing way leaf c) × (open_in (closing way leaf c) ≡ 0)
closing-rests Starting leaf c = (tt, refl)
closing-rests (Stepping ev e) leaf c = closed-rests e.pool e (record c { leaf = leaf })

last-counts : (a : Actor) (way : Way) (ends : Bool) (ts : List Task) (leaf : ℕ) (c : Config) → note_ends Done ends ts ≡ true
    → Counts (Telling way Done ends ts leaf c) item.Done (behind_note a way ends leaf ts c)
unfolding tasks_state
last-counts a way true ts leaf c h = absurd (cc)
last-counts a way false [] leaf c h =
    let at = closing-rests way leaf c in record { ends = at.0; counts = rw at.1 refl; loud = λ h. absurd (cc) }
last-counts a way false (t ∷ ts) leaf c h = absurd (cc)

telling-counts : (a : Actor) (way : Way) (n : Note) (ends : Bool) (ts : List Task) (leaf : ℕ) (c : Config) → note_ends n ends ts ≡ true
    → Counts (Telling way n ends ts leaf c) (body_of_note n) (behind_note a way ends leaf ts c)
telling-counts a way Done ends ts leaf c h = last-counts a way ends ts leaf c h
telling-counts a way n ends ts leaf c h = by (is_final n) refl
  where
    by : (b : Bool) → is_final n ≡ b → Counts (Telling way n ends ts leaf c) (body_of_note n) (behind_note a way ends leaf ts c)
    by true is = absurd (final n is)
      where
        final : (n : Note) → is_final n ≡ true → ⊥
        final n h = cc
    by false is =
        under-counts (Telling way n ends ts leaf c) (behind_note a way ends leaf ts c) (body_of_note n) refl (note-plain n is)
        (noted-under a way ends leaf ts c (note-left n ends ts is h))

same-body : {t u : Told} → t ≡ u → t.body ≡ u.body
same-body is = ap (λ (t : Told). t.body) is

module _ (sys : System) (a : Actor) where
  pub next-counts : (s : State) (t : Told) (later : State) → tell_next sys a s t ≡ Some later → WillEnd s → Counts s t.body later
  unfolding tell_next
  next-counts (Between c) t later e h =
      let at = mapped (λ (x : Entry × Event). step_state a x.0 x.1 c) (entry_and_event_taken t.body t.known) later e in
      let took = taken-is at.0.0 at.0.1 t.body t.known at.1 in
      let under = step-under a at.0.0 at.0.1 c in
      let body : t.body ≡ item.Took took.0 took.1 took.2 at.0.0 = same-body took.3 in
      subst (λ b. Counts (Between c) b later) (sym body) (subst (λ s. Counts (Between c) (item.Took took.0 took.1 took.2 at.0.0) s) at.2
      (record { ends = under.0; counts = rw under.1 refl; loud = λ k. under.1 }))
  next-counts (Telling way n ends ts leaf c) t later e h =
      let at = granted (tells n t.body t.known) (behind_note a way ends leaf ts c) later e in
      let body : t.body ≡ body_of_note n = same-body (tells-is n t.body t.known at.0) in
      subst (λ b. Counts (Telling way n ends ts leaf c) b later) (sym body) (subst (λ s. Counts (Telling way n ends ts leaf c) (body_of_note n) s) at.1 (telling-counts a way n ends ts leaf c h))
  next-counts (Raising way ceiling ts leaf c) t later e h =
      let at = mapped (λ former. tasks_state a way leaf ts (record c { former = former })) (raised_from ceiling t.body t.known) later e in
      let body = same-body (raised-is ceiling at.0 t.body t.known at.1) in
      under-counts (Raising way ceiling ts leaf c) later t.body refl (record { done = ap is_done_record body; took = ap is_took body })
      (subst IsUnder at.2 (settle-under a way leaf ts (record c { former = at.0 }) h))
  next-counts (AtPoint ev x ts leaf c) t later e h = absurd (none-some _ e)
  next-counts (InCall way inner rest ts leaf c) t later e h =
      let at = mapped (λ more. call_told (inner && is_post t.body) a way inner more leaf ts (record c { kept = more.kept })) (call_state_next sys a.o (moment_of way).entry rest t) later e in
      let is = call-plain sys a.o (moment_of way).entry rest t at.0 at.1 in
      under-counts (InCall way inner rest ts leaf c) later t.body refl (record { done = is.0; took = is.1 })
      (subst IsUnder at.2 (posted-under (inner && is_post t.body) a way inner at.0 leaf ts (record c { kept = at.0.kept }) h))
  next-counts (AtPost way rest ts leaf c) t later e h = absurd (none-some _ e)
  next-counts (Releasing x c) t later e h =
      let at = mapped (λ (y : ℕ × ℕ). behind_dec x y.0 y.1 c) (dropped_by x t.body t.known) later e in
      let body = same-body (dropped-is x at.0 t.body t.known at.1) in
      let rests = over at.0.0 at.0.1 in
      rests-count (Releasing x c) later t.body refl (ap open_in (sym at.2) ∙ rests.1) (subst WillEnd at.2 rests.0) (record { done = ap is_done_record body; took = ap is_took body }) (ap is_assert body)
    where
      over : (d left : ℕ) → WillEnd (behind_dec x d left c) × (open_in (behind_dec x d left c) ≡ 0)
      over d zero = (tt, refl)
      over d (suc left) = (tt, refl)
  next-counts (Returning p b d c) t later e h =
      let at = granted (comes_back p b d t.body t.known) (Between c) later e in
      let body = same-body (back-is p b d t.body t.known at.0).1 in
      rests-count (Returning p b d c) later t.body refl (ap open_in (sym at.1)) (subst WillEnd at.1 tt) (record { done = ap is_done_record body; took = ap is_took body }) (ap is_assert body)
  next-counts Asserted t later e h = absurd (none-some _ e)

  -- records that are read, as many steps done as began
  pub told-counts : (g : List Told) (s later : State) → run_told sys a s g ≡ Some later → WillEnd s
      → count_by (λ t. is_done_record t.body) g + open_in later ≡ count_by (λ t. is_took t.body) g + open_in s
  unfolding run_told
  told-counts [] s later e h = let same : open_in later ≡ open_in s = ap open_in (sym (some-same e)) in omega (arith, same)
  told-counts (t ∷ g) s later e h = by (λ mid k ends. told-counts g mid later k ends) (tell_next sys a (pass a s) t) refl e
    where
      by : ((mid : State) → run_told sys a mid g ≡ Some later → WillEnd mid → count_by (λ t. is_done_record t.body) g + open_in later ≡ count_by (λ t. is_took t.body) g + open_in mid)
          → (o : Option State) → tell_next sys a (pass a s) t ≡ o → option_and_then (λ x. run_told sys a x g) o ≡ Some later
          → count_by (λ t. is_done_record t.body) (t ∷ g) + open_in later ≡ count_by (λ t. is_took t.body) (t ∷ g) + open_in s
      by more None is k = absurd (cc)
      by more (Some mid) is k =
          let passed = pass-keeps a s h in
          let one = next-counts (pass a s) t mid is passed.0 in
          let counts = one.counts in
          let same = passed.1 in
          let rest = more mid k one.ends in
          let dones = sum_by-cons (λ (t : Told). one_if (is_done_record t.body)) t g in
          let tooks = sum_by-cons (λ (t : Told). one_if (is_took t.body)) t g in
          omega (arith, counts, same, rest, dones, tooks)

  -- records that leave no step under way have no assertion, which could only stand last
  pub told-quiet : (g : List Told) (s later : State) → run_told sys a s g ≡ Some later → WillEnd s → open_in later ≡ 0 → asserts_last g ≡ true → asserts_none g ≡ true
  unfolding run_told asserts_last
  told-quiet [] s later e h rests last = refl
  told-quiet (t ∷ g) s later e h rests last = by (λ mid k ends last. told-quiet g mid later k ends rests last) (tell_next sys a (pass a s) t) refl e
    where
      by : ((mid : State) → run_told sys a mid g ≡ Some later → WillEnd mid → asserts_last g ≡ true → asserts_none g ≡ true)
          → (o : Option State) → tell_next sys a (pass a s) t ≡ o → option_and_then (λ x. run_told sys a x g) o ≡ Some later
          → asserts_none (t ∷ g) ≡ true
      by more None is k = absurd (cc)
      by more (Some mid) is k =
          let one = next-counts (pass a s) t mid is (pass-keeps a s h).0 in
          ended g (is_assert t.body) one.loud k last (more mid k one.ends)
        where
          ended : (g : List Told) (b : Bool) → (b ≡ true → open_in mid ≡ 1) → run_told sys a mid g ≡ Some later → (nothing_after b g && asserts_last g) ≡ true
              → (asserts_last g ≡ true → asserts_none g ≡ true) → (not b && asserts_none g) ≡ true
          ended [] false loud k last more = more last
          ended (u ∷ g) false loud k last more = more last
          ended [] true loud k last more =
              let same : open_in mid ≡ open_in later = ap open_in (some-same k) in
              let one = loud refl in absurd (omega (arith, one, same, rests))
          ended (u ∷ g) true loud k last more = absurd (cc)
