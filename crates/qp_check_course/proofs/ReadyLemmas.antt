-- A course that can go on can still do so after each piece.
use Rattle.std.proofs.Common.{◌≡◌, ℕ, zero, suc, ◌≤◌, Bool, true, false, ◌&&◌, List, [], ◌∷◌, length, refl, ap, subst, Option, Some, is_some}
use Rattle.std.specs.Prelude.{slice_set}
use Rattle.std.proofs.lemmas.List.{length-map}
use Rattle.std.proofs.lemmas.Option.{none-some}
use Rattle.qp_chart.specs.Expr.{Names}
use Rattle.qp_chart.specs.declared.actions.Plain.{Plain}
use Rattle.qp_chart.specs.declared.actions.Plain.TheVariants as action
use Rattle.qp_chart.specs.Task as task
use Rattle.qp_chart.specs.Task.{Task}
use Rattle.qp_chart.specs.Agenda.{step_plan, start_plan}
use Rattle.qp_model.specs.declared.systems.System.{System}
use Rattle.qp_model.specs.declared.bodies.Entry.{Entry}
use Rattle.qp_model.specs.Told.{Told, Event}
use Rattle.qp_model.specs.Groups.{is_post}
use Rattle.qp_model.specs.Calls.{Call, Answer, Deed, Sets, Says, Calls, deed_of, values_of, ok_after, is_assertion, Flushed}
use Rattle.qp_model.specs.Able.{is_able, task_able, chart_able}
use Rattle.qp_model.specs.Pieces.{Piece, Tell, Point}
use Rattle.qp_model.specs.Acts.{Config, Actor, names_of}
use Rattle.qp_model.proofs.AbleLemmas.{step-able, start-able, some-same}
use Rattle.qp_model.proofs.Completes.{able-first, able-rest}
use Rattle.qp_check_calls.specs.CallState.{CallStage, Whole, CallState}
use Rattle.qp_check_calls.specs.CallStateNext.{call_state_begin, call_state_next, stage_answer}
use Rattle.qp_check_calls.specs.Reads.{IsRestOfCall, call_able}
use Rattle.qp_check_calls.specs.CallStateLaws.{ReadsBegin, ReadsNext, OpenBegin, OpenNext}
use Rattle.qp_check_course.specs.Note.{tells, raised_from, entry_and_event_taken, dropped_by, comes_back}
use Rattle.qp_check_course.specs.Goes.{Way, Starting, Stepping, moment_of}
use Rattle.qp_check_course.specs.Machine.{State, Between, Telling, Raising, AtPoint, InCall, AtPost, Releasing, Returning, Asserted, has_inner, action_done, answered, resumed, resume, deed_state, task_state, step_closed, tasks_state, behind_note, call_told, step_state, start_state, behind_dec, tell_next, point_next, state_next}
use Rattle.qp_check_course.specs.Ready.{AreTasksAble, IsWithin, CanGoOn, MayGoOnFrom}
use Rattle.qp_check_course.proofs.KeptLemmas.{keeps-within}
use Rattle.qp_check_course.proofs.FlushedLemmas.{flushed-few}
use Rattle.qp_model.proofs.KernelLaneLemmas.{granted}
use Rattle.qp_model.proofs.ListLemmas.{mapped}

-- what a deed asks for
abbrev DeedAble : System → Option Entry → Deed → Type 0
DeedAble sys now (Calls x) = call_able sys now x ≡ true
DeedAble sys now d = Unit {0}

deed-able : (sys : System) (now : Option Entry) (names : Names) (p : Plain) → is_able sys (is_some now) p ≡ true → DeedAble sys now (deed_of names p)
unfolding is_able deed_of call_able values_of
deed-able sys now names (action.Set var value) h = tt
deed-able sys now names (action.Say value) h = tt
deed-able sys now names (action.Post to sig pars margin reserve) h = rw length-map h
deed-able sys now names (action.Lifo sig pars reserve) h = rw length-map h
deed-able sys now names (action.Forward to margin) h = h
deed-able sys now names (action.Publish sig pars reserve) h = rw length-map h
deed-able sys now names action.Defer h = h
deed-able sys now names _ h = refl

module _ (sys : System) (a : Actor) (way : Way) (leaf : ℕ) (ts : List Task) (able : AreTasksAble sys way ts) (go : Config → State)
    (ready : (d : Config) → IsWithin a d → MayGoOnFrom sys a (go d)) where
  ready-done : (c : Config) → IsWithin a c → MayGoOnFrom sys a (action_done way leaf ts go c)
  ready-done c within = by way able
    where
      by : (w : Way) → AreTasksAble sys w ts → MayGoOnFrom sys a (action_done w leaf ts go c)
      by Starting able = ready c within
      by (Stepping ev e) able = (able, within)

  pub ready-resume : (inner : Bool) (rest : CallState) (c : Config) → CanGoOn sys a way rest → MayGoOnFrom sys a (resume way inner rest leaf ts go c)
  unfolding IsRestOfCall
  ready-resume inner rest c can = by rest.stage refl
    where
      ended : (own : Answer) (b : Bool) → length rest.kept ≤ a.room → MayGoOnFrom sys a (answered b way leaf ts go (record c { ok = ok_after own c.ok; kept = rest.kept }))
      ended own true within = tt
      ended own false within = ready-done (record c { ok = ok_after own c.ok; kept = rest.kept }) within

      by : (s : CallStage) → rest.stage ≡ s → MayGoOnFrom sys a (resumed (stage_answer s) way inner rest leaf ts go c)
      by (Whole own) is = ended own (is_assertion own) (can.within own rest.kept [] (ap (λ s. record { stage = s; kept = rest.kept }) is))
      by s is = (ap stage_answer is, can, able)

  ready-begin : ReadsBegin → OpenBegin → (x : Call) (c : Config) → call_able sys (moment_of way).entry x ≡ true → IsWithin a c
      → CanGoOn sys a way (call_state_begin a.room c.kept x)
  ready-begin begin first x c asked within = record {
    some = first sys (moment_of way).entry a.room c.kept x asked;
    within = λ answer kept g reads.
        let both = (begin sys a.o (moment_of way).entry a.room c.kept x answer kept g).0 reads in keeps-within a.room x g c.kept kept both.1 within;
    flushed = λ n kept g reads.
        let both = (begin sys a.o (moment_of way).entry a.room c.kept x (Flushed n) kept g).0 reads in
        flushed-few sys a.o (moment_of way).entry a.room x n g c.kept kept both.0 both.1 within;
  }

  ready-deed : ReadsBegin → OpenBegin → (d : Deed) (c : Config) → DeedAble sys (moment_of way).entry d → IsWithin a c → MayGoOnFrom sys a (deed_state a way leaf ts go c d)
  unfolding deed_state
  ready-deed begin first (Sets var value) c asked within = ready-done (record c { vars = slice_set c.vars var value }) within
  ready-deed begin first (Says value) c asked within = (able, within)
  ready-deed begin first (Calls x) c asked within = ready-resume (has_inner way x) (call_state_begin a.room c.kept x) c (ready-begin begin first x c asked within)

  ready-task : ReadsBegin → OpenBegin → (t : Task) (c : Config) → task_able sys (is_some (moment_of way).entry) t ≡ true → IsWithin a c
      → MayGoOnFrom sys a (task_state a way leaf ts go c t)
  unfolding task_state task_able
  ready-task begin first (task.Do p) c asked within =
      ready-deed begin first (deed_of (names_of a c (moment_of way).event) p) c (deed-able sys (moment_of way).entry (names_of a c (moment_of way).event) p asked) within
  ready-task begin first _ c asked within = (able, within)

pub ready-settle : ReadsBegin → OpenBegin → (sys : System) (a : Actor) (way : Way) (leaf : ℕ) (ts : List Task) (c : Config) → AreTasksAble sys way ts → IsWithin a c
    → MayGoOnFrom sys a (tasks_state a way leaf ts c)
unfolding tasks_state
ready-settle begin first sys a Starting leaf [] c able within = within
ready-settle begin first sys a (Stepping ev e) leaf [] c able within = by e.pool
  where
    by : (p : ℕ) → MayGoOnFrom sys a (step_closed p e (record c { leaf = leaf }))
    by zero = within
    by (suc p) = within
ready-settle begin first sys a way leaf (t ∷ ts) c able within =
    let rest = able-rest (task_able sys (is_some (moment_of way).entry)) t ts able in
    ready-task sys a way leaf ts rest (tasks_state a way leaf ts) (λ d w. ready-settle begin first sys a way leaf ts d rest w) begin first t c
    (able-first (task_able sys (is_some (moment_of way).entry)) t ts able) within

module _ (begin : ReadsBegin) (reads_next : ReadsNext) (first : OpenBegin) (open_next : OpenNext) (sys : System) (a : Actor) (able : chart_able sys a.chart ≡ true) where
  ready-step : (e : Entry) (ev : Event) (c : Config) → IsWithin a c → MayGoOnFrom sys a (step_state a e ev c)
  unfolding step_state
  ready-step e ev c within =
      ready-settle begin first sys a (Stepping ev e) (step_plan a.chart c.leaf (names_of a c ev) ev.sig).leaf (step_plan a.chart c.leaf (names_of a c ev) ev.sig).tasks c
      (step-able sys a.chart able c.leaf (names_of a c ev) ev.sig) within

  -- an object's course can begin
  pub ready-start : (c : Config) → IsWithin a c → MayGoOnFrom sys a (start_state a c)
  unfolding start_state
  ready-start c within = ready-settle begin first sys a Starting (start_plan a.chart).leaf (start_plan a.chart).tasks c (start-able sys a.chart able) within

  ready-noted : (way : Way) (ends : Bool) (leaf : ℕ) (ts : List Task) (c : Config) → AreTasksAble sys way ts → IsWithin a c → MayGoOnFrom sys a (behind_note a way ends leaf ts c)
  ready-noted way true leaf ts c asked within = ready-done sys a way leaf ts asked (tasks_state a way leaf ts) (λ d w. ready-settle begin first sys a way leaf ts d asked w) c within
  ready-noted way false leaf ts c asked within = ready-settle begin first sys a way leaf ts c asked within

  ready-posted : (b : Bool) (way : Way) (inner : Bool) (rest : CallState) (leaf : ℕ) (ts : List Task) (c : Config) → AreTasksAble sys way ts → CanGoOn sys a way rest
      → MayGoOnFrom sys a (call_told b a way inner rest leaf ts c)
  ready-posted true way inner rest leaf ts c asked can = (can, asked)
  ready-posted false way inner rest leaf ts c asked can =
      ready-resume sys a way leaf ts asked (tasks_state a way leaf ts) (λ d w. ready-settle begin first sys a way leaf ts d asked w) inner rest c can

  -- a record of a call leaves it so
  pub can-next : (way : Way) (rest more : CallState) (t : Told) → call_state_next sys a.o (moment_of way).entry rest t ≡ Some more → CanGoOn sys a way rest → CanGoOn sys a way more
  can-next way rest more t is can = record {
    some = open_next sys a.o (moment_of way).entry rest more t is;
    within = λ answer kept g reads. can.within answer kept (t ∷ g) ((reads_next sys a.o (moment_of way).entry rest answer kept t g).1 (more, is, reads));
    flushed = λ n kept g reads. can.flushed n kept (t ∷ g) ((reads_next sys a.o (moment_of way).entry rest (Flushed n) kept t g).1 (more, is, reads));
  }

  pub ready-next : (s : State) (p : Piece) (later : State) → state_next sys a s p ≡ Some later → MayGoOnFrom sys a s → MayGoOnFrom sys a later
  unfolding state_next tell_next point_next
  ready-next (Between c) (Tell t) later e h =
      let at = mapped (λ (x : Entry × Event). step_state a x.0 x.1 c) (entry_and_event_taken t.body t.known) later e in
      subst (MayGoOnFrom sys a) at.2 (ready-step at.0.0 at.0.1 c h)
  ready-next (Telling way n ends ts leaf c) (Tell t) later e h =
      let at = granted (tells n t.body t.known) (behind_note a way ends leaf ts c) later e in
      subst (MayGoOnFrom sys a) at.1 (ready-noted way ends leaf ts c h.0 h.1)
  ready-next (Raising way ceiling ts leaf c) (Tell t) later e h =
      let at = mapped (λ former. tasks_state a way leaf ts (record c { former = former })) (raised_from ceiling t.body t.known) later e in
      let former : ℕ = at.0 in
      subst (MayGoOnFrom sys a) at.2 (ready-settle begin first sys a way leaf ts (record c { former = former }) h.0 h.1)
  ready-next (AtPoint ev x ts leaf c) (Tell t) later e h = absurd (none-some _ e)
  ready-next (InCall way inner rest ts leaf c) (Tell t) later e h =
      let at = mapped (λ more. call_told (inner && is_post t.body) a way inner more leaf ts (record c { kept = more.kept })) (call_state_next sys a.o (moment_of way).entry rest t) later e in
      subst (MayGoOnFrom sys a) at.2 (ready-posted (inner && is_post t.body) way inner at.0 leaf ts (record c { kept = at.0.kept }) h.2 (can-next way rest at.0 t at.1 h.1))
  ready-next (AtPost way rest ts leaf c) (Tell t) later e h = absurd (none-some _ e)
  ready-next (Releasing x c) (Tell t) later e h =
      let at = mapped (λ (y : ℕ × ℕ). behind_dec x y.0 y.1 c) (dropped_by x t.body t.known) later e in
      subst (MayGoOnFrom sys a) at.2 (by at.0.0 at.0.1)
    where
      by : (d left : ℕ) → MayGoOnFrom sys a (behind_dec x d left c)
      by d zero = h
      by d (suc left) = h
  ready-next (Returning p b d c) (Tell t) later e h =
      let at = granted (comes_back p b d t.body t.known) (Between c) later e in
      subst (MayGoOnFrom sys a) at.1 h
  ready-next Asserted (Tell t) later e h = absurd (none-some _ e)
  ready-next (AtPoint ev x ts leaf c) Point later e h =
      subst (MayGoOnFrom sys a) (some-same e) (ready-settle begin first sys a (Stepping ev x) leaf ts c h.0 h.1)
  ready-next (AtPost way rest ts leaf c) Point later e h =
      subst (MayGoOnFrom sys a) (some-same e)
      (ready-resume sys a way leaf ts h.1 (tasks_state a way leaf ts) (λ d w. ready-settle begin first sys a way leaf ts d h.1 w) true rest c h.0)
  ready-next s Point later e h = absurd (none-some _ e)
