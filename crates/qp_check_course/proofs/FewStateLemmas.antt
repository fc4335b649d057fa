-- The tasks left in each state of a course make events of at most eight parameters.
use Rattle.std.proofs.Common.{◌≡◌, ℕ, zero, suc, Bool, true, false, ◌&&◌, List, [], ◌∷◌, subst, Some, is_some}
use Rattle.std.specs.Prelude.{slice_set}
use Rattle.std.proofs.lemmas.Option.{none-some}
use Rattle.qp_chart.specs.Task as task
use Rattle.qp_chart.specs.Task.{Task}
use Rattle.qp_chart.specs.Agenda.{step_plan, start_plan}
use Rattle.qp_model.specs.declared.systems.System.{System}
use Rattle.qp_model.specs.declared.bodies.Entry.{Entry}
use Rattle.qp_model.specs.Told.{Event}
use Rattle.qp_model.specs.Groups.{is_post}
use Rattle.qp_model.specs.Calls.{Answer, Deed, Sets, Says, Calls, deed_of, ok_after, is_assertion}
use Rattle.qp_model.specs.Able.{task_able, chart_able}
use Rattle.qp_model.specs.Pieces.{Piece, Tell, Point}
use Rattle.qp_model.specs.Acts.{Config, Actor, names_of}
use Rattle.qp_model.proofs.AbleLemmas.{step-able, start-able, some-same}
use Rattle.qp_model.proofs.Completes.{able-rest}
use Rattle.qp_check_calls.specs.CallState.{CallStage, Whole, CallState}
use Rattle.qp_check_calls.specs.CallStateNext.{call_state_begin, call_state_next, stage_answer}
use Rattle.qp_check_course.specs.Note.{tells, raised_from, entry_and_event_taken, dropped_by, comes_back}
use Rattle.qp_check_course.specs.Goes.{Way, Starting, Stepping, moment_of}
use Rattle.qp_check_course.specs.Machine.{State, Between, Telling, Raising, AtPoint, InCall, AtPost, Releasing, Returning, Asserted, has_inner, action_done, answered, resumed, resume, deed_state, task_state, step_closed, tasks_state, behind_note, call_told, step_state, start_state, behind_dec, tell_next, point_next, state_next}
use Rattle.qp_check_course.specs.Followable.{with_eight}
use Rattle.qp_check_course.specs.FewLeft.{AreFew, FewLeft}
use Rattle.qp_model.proofs.KernelLaneLemmas.{granted}
use Rattle.qp_model.proofs.ListLemmas.{mapped}

module _ (a : Actor) (way : Way) (leaf : ℕ) (ts : List Task) (few : AreFew way ts) (go : Config → State) (goes : (d : Config) → FewLeft (go d)) where
  few-done : (c : Config) → FewLeft (action_done way leaf ts go c)
  few-done c = by way few
    where
      by : (w : Way) → AreFew w ts → FewLeft (action_done w leaf ts go c)
      by Starting few = goes c
      by (Stepping ev e) few = few

  pub few-resume : (inner : Bool) (rest : CallState) (c : Config) → FewLeft (resume way inner rest leaf ts go c)
  few-resume inner rest c = by rest.stage
    where
      ended : (own : Answer) (b : Bool) → FewLeft (answered b way leaf ts go (record c { ok = ok_after own c.ok; kept = rest.kept }))
      ended own true = tt
      ended own false = few-done (record c { ok = ok_after own c.ok; kept = rest.kept })

      by : (s : CallStage) → FewLeft (resumed (stage_answer s) way inner rest leaf ts go c)
      by (Whole own) = ended own (is_assertion own)
      by s = few

  few-deed : (d : Deed) (c : Config) → FewLeft (deed_state a way leaf ts go c d)
  unfolding deed_state
  few-deed (Sets var value) c = few-done (record c { vars = slice_set c.vars var value })
  few-deed (Says value) c = few
  few-deed (Calls x) c = few-resume (has_inner way x) (call_state_begin a.room c.kept x) c

  few-task : (t : Task) (c : Config) → FewLeft (task_state a way leaf ts go c t)
  unfolding task_state
  few-task (task.Do p) c = few-deed (deed_of (names_of a c (moment_of way).event) p) c
  few-task _ c = few

pub few-settle : (a : Actor) (way : Way) (leaf : ℕ) (ts : List Task) (c : Config) → AreFew way ts → FewLeft (tasks_state a way leaf ts c)
unfolding tasks_state
few-settle a Starting leaf [] c few = tt
few-settle a (Stepping ev e) leaf [] c few = by e.pool
  where
    by : (p : ℕ) → FewLeft (step_closed p e (record c { leaf = leaf }))
    by zero = tt
    by (suc p) = tt
few-settle a way leaf (t ∷ ts) c few =
    let rest = able-rest (task_able with_eight (is_some (moment_of way).entry)) t ts few in
    few-task a way leaf ts rest (tasks_state a way leaf ts) (λ d. few-settle a way leaf ts d rest) t c

module _ (sys : System) (a : Actor) (few : chart_able with_eight a.chart ≡ true) where
  few-step : (e : Entry) (ev : Event) (c : Config) → FewLeft (step_state a e ev c)
  unfolding step_state
  few-step e ev c =
      few-settle a (Stepping ev e) (step_plan a.chart c.leaf (names_of a c ev) ev.sig).leaf (step_plan a.chart c.leaf (names_of a c ev) ev.sig).tasks c
      (step-able with_eight a.chart few c.leaf (names_of a c ev) ev.sig)

  -- so a course begins
  pub few-start : (c : Config) → FewLeft (start_state a c)
  unfolding start_state
  few-start c = few-settle a Starting (start_plan a.chart).leaf (start_plan a.chart).tasks c (start-able with_eight a.chart few)

  few-noted : (way : Way) (ends : Bool) (leaf : ℕ) (ts : List Task) (c : Config) → AreFew way ts → FewLeft (behind_note a way ends leaf ts c)
  few-noted way true leaf ts c asked = few-done a way leaf ts asked (tasks_state a way leaf ts) (λ d. few-settle a way leaf ts d asked) c
  few-noted way false leaf ts c asked = few-settle a way leaf ts c asked

  few-posted : (b : Bool) (way : Way) (inner : Bool) (rest : CallState) (leaf : ℕ) (ts : List Task) (c : Config) → AreFew way ts → FewLeft (call_told b a way inner rest leaf ts c)
  few-posted true way inner rest leaf ts c asked = asked
  few-posted false way inner rest leaf ts c asked = few-resume a way leaf ts asked (tasks_state a way leaf ts) (λ d. few-settle a way leaf ts d asked) inner rest c

  -- and so it goes on
  pub few-next : (s : State) (p : Piece) (later : State) → state_next sys a s p ≡ Some later → FewLeft s → FewLeft later
  unfolding state_next tell_next point_next
  few-next (Between c) (Tell t) later e h =
      let at = mapped (λ (x : Entry × Event). step_state a x.0 x.1 c) (entry_and_event_taken t.body t.known) later e in
      subst FewLeft at.2 (few-step at.0.0 at.0.1 c)
  few-next (Telling way n ends ts leaf c) (Tell t) later e h =
      let at = granted (tells n t.body t.known) (behind_note a way ends leaf ts c) later e in
      subst FewLeft at.1 (few-noted way ends leaf ts c h)
  few-next (Raising way ceiling ts leaf c) (Tell t) later e h =
      let at = mapped (λ former. tasks_state a way leaf ts (record c { former = former })) (raised_from ceiling t.body t.known) later e in
      let former : ℕ = at.0 in
      subst FewLeft at.2 (few-settle a way leaf ts (record c { former = former }) h)
  few-next (AtPoint ev x ts leaf c) (Tell t) later e h = absurd (none-some _ e)
  few-next (InCall way inner rest ts leaf c) (Tell t) later e h =
      let at = mapped (λ more. call_told (inner && is_post t.body) a way inner more leaf ts (record c { kept = more.kept })) (call_state_next sys a.o (moment_of way).entry rest t) later e in
      subst FewLeft at.2 (few-posted (inner && is_post t.body) way inner at.0 leaf ts (record c { kept = at.0.kept }) h)
  few-next (AtPost way rest ts leaf c) (Tell t) later e h = absurd (none-some _ e)
  few-next (Releasing x c) (Tell t) later e h =
      let at = mapped (λ (y : ℕ × ℕ). behind_dec x y.0 y.1 c) (dropped_by x t.body t.known) later e in
      subst FewLeft at.2 (by at.0.0 at.0.1)
    where
      by : (d left : ℕ) → FewLeft (behind_dec x d left c)
      by d zero = tt
      by d (suc left) = tt
  few-next (Returning p b d c) (Tell t) later e h =
      let at = granted (comes_back p b d t.body t.known) (Between c) later e in
      subst FewLeft at.1 tt
  few-next Asserted (Tell t) later e h = absurd (none-some _ e)
  few-next (AtPoint ev x ts leaf c) Point later e h = subst FewLeft (some-same e) (few-settle a (Stepping ev x) leaf ts c h)
  few-next (AtPost way rest ts leaf c) Point later e h =
      subst FewLeft (some-same e) (few-resume a way leaf ts h (tasks_state a way leaf ts) (λ d. few-settle a way leaf ts d h) true rest c)
  few-next s Point later e h = absurd (none-some _ e)
