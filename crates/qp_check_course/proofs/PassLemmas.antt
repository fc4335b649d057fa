-- Points that are passed.
use Rattle.std.proofs.Common.{◌≡◌, ℕ, zero, suc, Bool, true, false, List, [], ◌∷◌, ◌++◌, refl, sym, ◌∙◌, ap, subst, inl, inr, ◌⊎◌, Some}
use Rattle.std.specs.Prelude.{slice_set}
use Rattle.std.proofs.lemmas.Option.{none-some}
use Rattle.qp_chart.specs.Task as task
use Rattle.qp_chart.specs.Task.{Task}
use Rattle.qp_model.specs.declared.systems.System.{System}
use Rattle.qp_model.specs.declared.bodies.Entry.{Entry}
use Rattle.qp_model.specs.Told.{Event}
use Rattle.qp_model.specs.Calls.{Answer, Deed, Sets, Says, Calls, deed_of, ok_after, is_assertion}
use Rattle.qp_model.specs.Pieces.{Piece, Point, records_in}
use Rattle.qp_model.specs.Acts.{Config, Actor, names_of}
use Rattle.qp_check_calls.specs.CallState.{CallStage, Whole, CallState}
use Rattle.qp_check_calls.specs.CallStateNext.{call_state_begin, stage_answer}
use Rattle.qp_check_calls.specs.CallStateLaws.{ReadsBegin, ReadsWhole, ReadsNext}
use Rattle.qp_check_course.specs.Goes.{Aim, Way, Starting, Stepping, moment_of}
use Rattle.qp_check_course.specs.Machine.{State, AtPoint, InCall, AtPost, Asserted, Goes, has_inner, answered, resumed, resume, deed_state, task_state, step_closed, closing, tasks_state, point_next, state_next, expects_point}
use Rattle.qp_check_course.specs.Passing.{through, settle_past, pass_actions, pass}
use Rattle.qp_check_course.proofs.BackLemmas.{next-goes}
use Rattle.qp_model.proofs.AbleLemmas.{some-same}

-- no point is expected
pub pass-none : (a : Actor) (s : State) → expects_point s ≡ false → pass a s ≡ s
unfolding pass pass_actions
pass-none a (AtPoint ev e ts leaf c) h = absurd (cc)
pass-none a (AtPost way rest ts leaf c) h = absurd (cc)
pass-none a _ h = refl

-- a state is the point of an action before these tasks, or expects no point
abbrev pub Shape : (ev : Event) (e : Entry) → ℕ → List Task → State → Type 0
Shape ev e leaf ts s = ((c : Config) × (s ≡ AtPoint ev e ts leaf c)) ⊎ (expects_point s ≡ false)

module _ (a : Actor) (ev : Event) (e : Entry) (leaf : ℕ) (ts : List Task) (go : Config → State) where
  pub resume-shape : (inner : Bool) (rest : CallState) (c : Config) → Shape ev e leaf ts (resume (Stepping ev e) inner rest leaf ts go c)
  resume-shape inner rest c = by rest.stage
    where
      ended : (own : Answer) (b : Bool) (d : Config) → Shape ev e leaf ts (answered b (Stepping ev e) leaf ts go d)
      ended own true d = inr refl
      ended own false d = inl (d, refl)

      by : (s : CallStage) → Shape ev e leaf ts (resumed (stage_answer s) (Stepping ev e) inner rest leaf ts go c)
      by (Whole own) = ended own (is_assertion own) (record c { ok = ok_after own c.ok; kept = rest.kept })
      by s = inr refl

  deed-shape : (d : Deed) (c : Config) → Shape ev e leaf ts (deed_state a (Stepping ev e) leaf ts go c d)
  unfolding deed_state
  deed-shape (Sets var value) c = inl (record c { vars = slice_set c.vars var value }, refl)
  deed-shape (Says value) c = inr refl
  deed-shape (Calls x) c = resume-shape (has_inner (Stepping ev e) x) (call_state_begin a.room c.kept x) c

  task-shape : (t : Task) (c : Config) → Shape ev e leaf ts (task_state a (Stepping ev e) leaf ts go c t)
  unfolding task_state
  task-shape (task.Do p) c = deed-shape (deed_of (names_of a c ev) p) c
  task-shape _ c = inr refl

at_point : (a : Actor) (ev : Event) (e : Entry) (ts : List Task) (leaf : ℕ) (d : Config) → pass a (AtPoint ev e ts leaf d) ≡ pass_actions a (AtPoint ev e ts leaf d)
unfolding pass
at_point a ev e ts leaf d = refl

module _ (a : Actor) where
  pub settle-shape : (ev : Event) (e : Entry) (leaf : ℕ) (t : Task) (ts : List Task) (c : Config) → Shape ev e leaf ts (tasks_state a (Stepping ev e) leaf (t ∷ ts) c)
  unfolding tasks_state
  settle-shape ev e leaf t ts c = task-shape a ev e leaf ts (λ d. tasks_state a (Stepping ev e) leaf ts d) t c

  pub through-none : (s : State) (go : Config → State) → expects_point s ≡ false → through s go ≡ s
  through-none (AtPoint ev e ts leaf c) go h = absurd (cc)
  through-none (AtPost way rest ts leaf c) go h = absurd (cc)
  through-none _ go h = refl

  -- the end of a step expects no point
  closed-none : (p : ℕ) (e : Entry) (c : Config) → expects_point (step_closed p e c) ≡ false
  closed-none zero e c = refl
  closed-none (suc p) e c = refl

  -- what tasks of a step come to once their points are passed
  pub pass-settle : (ev : Event) (e : Entry) (leaf : ℕ) (ts : List Task) (c : Config) → pass a (tasks_state a (Stepping ev e) leaf ts c) ≡ settle_past a ev e leaf ts c
  unfolding settle_past tasks_state pass pass_actions
  pass-settle ev e leaf [] c = pass-none a (closing (Stepping ev e) leaf c) (closed-none e.pool e (record c { leaf = leaf }))
  pass-settle ev e leaf (t ∷ ts) c = by (tasks_state a (Stepping ev e) leaf (t ∷ ts) c) (settle-shape ev e leaf t ts c)
    where
      by : (s : State) → Shape ev e leaf ts s → pass a s ≡ through s (λ d. settle_past a ev e leaf ts d)
      by s (inl (d, is)) = subst (λ x. pass a x ≡ through x (λ d. settle_past a ev e leaf ts d)) (sym is) refl
      by s (inr none) = pass-none a s none ∙ sym (through-none s (λ d. settle_past a ev e leaf ts d) none)

  actions-none : (s : State) → expects_point s ≡ false → pass_actions a s ≡ s
  unfolding pass_actions
  actions-none (AtPoint ev e ts leaf c) h = absurd (cc)
  actions-none (AtPost way rest ts leaf c) h = absurd (cc)
  actions-none _ h = refl

  -- a start expects no point
  pub start-none : (leaf : ℕ) (ts : List Task) (c : Config) → expects_point (tasks_state a Starting leaf ts c) ≡ false
  unfolding tasks_state
  start-none leaf [] c = refl
  start-none leaf (t ∷ ts) c = by_task (λ d. start-none leaf ts d) t
    where
      ended : ((d : Config) → expects_point (tasks_state a Starting leaf ts d) ≡ false) → (b : Bool) (d : Config) → expects_point (answered b Starting leaf ts (λ d. tasks_state a Starting leaf ts d) d) ≡ false
      ended none true d = refl
      ended none false d = none d

      by_stage : ((d : Config) → expects_point (tasks_state a Starting leaf ts d) ≡ false) → (inner : Bool) (rest : CallState) (s : CallStage) → expects_point (resumed (stage_answer s) Starting inner rest leaf ts (λ d. tasks_state a Starting leaf ts d) c) ≡ false
      by_stage none inner rest (Whole own) = ended none (is_assertion own) (record c { ok = ok_after own c.ok; kept = rest.kept })
      by_stage none inner rest s = refl

      by_deed : ((d : Config) → expects_point (tasks_state a Starting leaf ts d) ≡ false) → (d : Deed) → expects_point (deed_state a Starting leaf ts (λ d. tasks_state a Starting leaf ts d) c d) ≡ false
      by_deed none (Sets var value) = none (record c { vars = slice_set c.vars var value })
      by_deed none (Says value) = refl
      by_deed none (Calls x) = by_stage none (has_inner Starting x) (call_state_begin a.room c.kept x) (call_state_begin a.room c.kept x).stage

      by_task : ((d : Config) → expects_point (tasks_state a Starting leaf ts d) ≡ false) → (t : Task) → expects_point (task_state a Starting leaf ts (λ d. tasks_state a Starting leaf ts d) c t) ≡ false
      by_task none (task.Do p) = by_deed none (deed_of (names_of a c (moment_of Starting).event) p)
      by_task none _ = refl

  -- behind a post of a publication an action's point is expected, or none
  resume-plain : (way : Way) (inner : Bool) (rest : CallState) (ts : List Task) (leaf : ℕ) (c : Config)
      → pass a (resume way inner rest leaf ts (tasks_state a way leaf ts) c) ≡ pass_actions a (resume way inner rest leaf ts (tasks_state a way leaf ts) c)
  resume-plain (Stepping ev e) inner rest ts leaf c = by (resume (Stepping ev e) inner rest leaf ts (tasks_state a (Stepping ev e) leaf ts) c) (resume-shape a ev e leaf ts (tasks_state a (Stepping ev e) leaf ts) inner rest c)
    where
      at : (d : Config) → pass a (AtPoint ev e ts leaf d) ≡ pass_actions a (AtPoint ev e ts leaf d)
      at d = at_point a ev e ts leaf d

      by : (s : State) → Shape ev e leaf ts s → pass a s ≡ pass_actions a s
      by s (inl (d, is)) = subst (λ x. pass a x ≡ pass_actions a x) (sym is) (at d)
      by s (inr none) = pass-none a s none ∙ sym (actions-none s none)
  resume-plain Starting inner rest ts leaf c = by_stage rest.stage
    where
      none : (s : State) → expects_point s ≡ false → pass a s ≡ pass_actions a s
      none s h = pass-none a s h ∙ sym (actions-none s h)

      ended : (b : Bool) (d : Config) → pass a (answered b Starting leaf ts (tasks_state a Starting leaf ts) d) ≡ pass_actions a (answered b Starting leaf ts (tasks_state a Starting leaf ts) d)
      ended true d = none Asserted refl
      ended false d = none (tasks_state a Starting leaf ts d) (start-none leaf ts d)

      by_stage : (s : CallStage) → pass a (resumed (stage_answer s) Starting inner rest leaf ts (tasks_state a Starting leaf ts) c)
          ≡ pass_actions a (resumed (stage_answer s) Starting inner rest leaf ts (tasks_state a Starting leaf ts) c)
      by_stage (Whole own) = ended (is_assertion own) (record c { ok = ok_after own c.ok; kept = rest.kept })
      by_stage s = none (InCall Starting inner rest ts leaf c) refl

  -- a point that is read is one that is passed
  pub pass-point : (s later : State) → point_next a s ≡ Some later → pass a later ≡ pass a s
  unfolding point_next pass pass_actions
  pass-point (AtPoint ev e ts leaf c) later h = ap (pass a) (sym (some-same h)) ∙ pass-settle ev e leaf ts c
  pass-point (AtPost way rest ts leaf c) later h = ap (pass a) (sym (some-same h)) ∙ resume-plain way true rest ts leaf c
  pass-point s later h = absurd (none-some _ h)

module _ (begin : ReadsBegin) (whole : ReadsWhole) (reads_next : ReadsNext) (sys : System) (a : Actor) (aim : Aim) where
  -- what may come behind points may come with points before it
  abbrev Unpassed : State → List Piece → Type 0
  Unpassed s zs = (us : List Piece) × (records_in us ≡ []) × Goes sys a aim s (us ++ zs)

  point-before : (s later : State) (zs : List Piece) → state_next sys a s Point ≡ Some later → Unpassed later zs → Unpassed s zs
  unfolding records_in
  point-before s later zs is (us, none, k) = (Point ∷ us, none, next-goes begin whole reads_next sys a aim s Point (us ++ zs) later is k)

  unsettle : (ev : Event) (e : Entry) (leaf : ℕ) (ts : List Task) (c : Config) (zs : List Piece) → Goes sys a aim (settle_past a ev e leaf ts c) zs
      → Unpassed (tasks_state a (Stepping ev e) leaf ts c) zs
  unfolding settle_past tasks_state state_next point_next records_in
  unsettle ev e leaf [] c zs h = ([], refl, h)
  unsettle ev e leaf (t ∷ ts) c zs h = by (λ d k. unsettle ev e leaf ts d zs k) (tasks_state a (Stepping ev e) leaf (t ∷ ts) c) (settle-shape a ev e leaf t ts c) h
    where
      by : ((d : Config) → Goes sys a aim (settle_past a ev e leaf ts d) zs → Unpassed (tasks_state a (Stepping ev e) leaf ts d) zs) → (s : State) → Shape ev e leaf ts s
          → Goes sys a aim (through s (λ d. settle_past a ev e leaf ts d)) zs → Unpassed s zs
      by more s (inl (d, is)) k =
          let here : Goes sys a aim (settle_past a ev e leaf ts d) zs = subst (λ x. Goes sys a aim (through x (λ d. settle_past a ev e leaf ts d)) zs) is k in
          subst (λ x. Unpassed x zs) (sym is) (point-before (AtPoint ev e ts leaf d) (tasks_state a (Stepping ev e) leaf ts d) zs refl (more d here))
      by more s (inr none) k = ([], refl, subst (λ x. Goes sys a aim x zs) (through-none a s (λ d. settle_past a ev e leaf ts d) none) k)

  unpass-actions : (s : State) (zs : List Piece) → Goes sys a aim (pass_actions a s) zs → Unpassed s zs
  unfolding pass_actions state_next point_next records_in
  unpass-actions (AtPoint ev e ts leaf c) zs h = point-before (AtPoint ev e ts leaf c) (tasks_state a (Stepping ev e) leaf ts c) zs refl (unsettle ev e leaf ts c zs h)
  unpass-actions s zs h = ([], refl, h)

  pub unpass : (s : State) (zs : List Piece) → Goes sys a aim (pass a s) zs → Unpassed s zs
  unfolding pass state_next point_next
  unpass (AtPost way rest ts leaf c) zs h =
      point-before (AtPost way rest ts leaf c) (resume way true rest leaf ts (tasks_state a way leaf ts) c) zs refl
      (unpass-actions (resume way true rest leaf ts (tasks_state a way leaf ts) c) zs h)
  unpass s zs h = unpass-actions s zs h
