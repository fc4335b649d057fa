-- The state in which tasks are left is read as the tasks are.
use Rattle.std.proofs.Common.{◌≡◌, ℕ, zero, suc, Bool, true, false, List, [], ◌∷◌, ◌++◌, refl, sym, ◌∙◌, ap, subst}
use Rattle.std.specs.Prelude.{slice_set}
use Rattle.std.specs.Bool.{MatchBool}
use Rattle.qp_chart.specs.Task as task
use Rattle.qp_chart.specs.Task.{Task}
use Rattle.qp_model.specs.declared.systems.System.{System}
use Rattle.qp_model.specs.declared.bodies.Entry.{Entry}
use Rattle.qp_model.specs.Told.{Told}
use Rattle.qp_model.specs.Calls as call
use Rattle.qp_model.specs.Calls.{Call, Answer, Deed, Sets, Says, Calls, deed_of, ok_after, is_assertion}
use Rattle.qp_model.specs.Shapes.{Drops, releases_by}
use Rattle.qp_model.specs.Pieces.{Piece, tell, pieces_of, with_points}
use Rattle.qp_model.specs.Acts.{Config, Actor, Later, names_of}
use Rattle.qp_check_calls.specs.CallState.{CallStage, Whole, CallState}
use Rattle.qp_check_calls.specs.CallStateNext.{call_state_begin, stage_answer}
use Rattle.qp_check_calls.specs.Reads.{IsRestOfCall}
use Rattle.qp_check_calls.specs.CallStateLaws.{ReadsBegin, ReadsWhole}
use Rattle.qp_check_course.specs.Goes.{Aim, Way, Starting, Stepping, moment_of, Ends, call_pieces, CallGoes, DeedGoes, TaskGoes, TasksGo, Closing, StepsGo, LeftGoes}
use Rattle.qp_check_course.specs.Machine.{State, inner_pieces, has_inner, CallStateGoes, Goes, action_done, answered, resumed, resume, deed_state, task_state, step_closed, tasks_state}

-- the pieces of a call, by whether it has points inside
pub pieces-inner : (way : Way) (x : Call) (g : List Told) → call_pieces way x g ≡ inner_pieces (has_inner way x) g
unfolding pieces_of
pieces-inner Starting x g = refl
pieces-inner (Stepping ev e) (call.Publish sig pars reserve) g = refl
pieces-inner (Stepping ev e) (call.Post to sig pars margin reserve) g = refl
pieces-inner (Stepping ev e) (call.Lifo sig pars reserve) g = refl
pieces-inner (Stepping ev e) (call.Forward to margin) g = refl
pieces-inner (Stepping ev e) call.Defer g = refl
pieces-inner (Stepping ev e) call.Recall g = refl
pieces-inner (Stepping ev e) call.Flush g = refl
pieces-inner (Stepping ev e) (call.Subscribe sig) g = refl
pieces-inner (Stepping ev e) (call.Unsubscribe sig) g = refl
pieces-inner (Stepping ev e) (call.Arm timer ticks interval) g = refl
pieces-inner (Stepping ev e) (call.Rearm timer ticks) g = refl
pieces-inner (Stepping ev e) (call.Disarm timer) g = refl

-- what follows records of a call with this answer
abbrev Follows : Way → Later → Config → List Piece → List Piece → Answer → List Entry → Type 0
Follows way later c ps g answer kept =
    MatchBool (is_assertion answer) (ps ≡ g) ((more : List Piece) × (ps ≡ g ++ more) × Ends way (later (record c { ok = ok_after answer c.ok; kept = kept })) more)

module _ (sys : System) (a : Actor) (aim : Aim) (way : Way) (leaf : ℕ) (ts : List Task) (go : Config → State) where
  -- what is left after the first task is read as its state is
  abbrev pub Into : Type 0
  Into = (d : Config) (ps : List Piece) → LeftGoes sys a aim way ts leaf d ps → Goes sys a aim (go d) ps

  abbrev pub Back : Type 0
  Back = (d : Config) (ps : List Piece) → Goes sys a aim (go d) ps → LeftGoes sys a aim way ts leaf d ps

  pub into-done : Into → (d : Config) (ps : List Piece) → Ends way (LeftGoes sys a aim way ts leaf d) ps → Goes sys a aim (action_done way leaf ts go d) ps
  unfolding Goes
  into-done into d ps = by way into
    where
      by : (way : Way) → ((d : Config) (ps : List Piece) → LeftGoes sys a aim way ts leaf d ps → Goes sys a aim (go d) ps) → Ends way (LeftGoes sys a aim way ts leaf d) ps → Goes sys a aim (action_done way leaf ts go d) ps
      by Starting into h = into d ps h
      by (Stepping ev e) into h = h

  pub back-done : Back → (d : Config) (ps : List Piece) → Goes sys a aim (action_done way leaf ts go d) ps → Ends way (LeftGoes sys a aim way ts leaf d) ps
  unfolding Goes
  back-done back d ps = by way back
    where
      by : (way : Way) → ((d : Config) (ps : List Piece) → Goes sys a aim (go d) ps → LeftGoes sys a aim way ts leaf d ps) → Goes sys a aim (action_done way leaf ts go d) ps → Ends way (LeftGoes sys a aim way ts leaf d) ps
      by Starting back h = back d ps h
      by (Stepping ev e) back h = h

  none : (inner : Bool) → inner_pieces inner [] ≡ []
  unfolding with_points
  none true = refl
  none false = refl

  -- the rest of a call, or what comes after it
  pub into-resume : ReadsWhole → Into → (inner : Bool) (rest : CallState) (c : Config) (ps : List Piece)
      → CallStateGoes sys a way inner rest (LeftGoes sys a aim way ts leaf) c ps → Goes sys a aim (resume way inner rest leaf ts go c) ps
  unfolding Goes CallStateGoes
  into-resume whole into inner rest c ps h = by rest.stage refl h
    where
      ended : (own : Answer) (b : Bool)
          → MatchBool b (ps ≡ inner_pieces inner []) ((more : List Piece) × (ps ≡ inner_pieces inner [] ++ more) × Ends way (LeftGoes sys a aim way ts leaf (record c { ok = ok_after own c.ok; kept = rest.kept })) more)
          → Goes sys a aim (answered b way leaf ts go (record c { ok = ok_after own c.ok; kept = rest.kept })) ps
      ended own true k = k ∙ none inner
      ended own false k =
          let same : ps ≡ k.0 = k.1 ∙ ap (λ zs. zs ++ k.0) (none inner) in
          into-done into (record c { ok = ok_after own c.ok; kept = rest.kept }) ps (subst (Ends way (LeftGoes sys a aim way ts leaf (record c { ok = ok_after own c.ok; kept = rest.kept }))) (sym same) k.2)

      by : (s : CallStage) → rest.stage ≡ s → CallStateGoes sys a way inner rest (LeftGoes sys a aim way ts leaf) c ps → Goes sys a aim (resumed (stage_answer s) way inner rest leaf ts go c) ps
      by (Whole own) is (answer, g, kept, reads, k) =
          let here : CallState = record { stage = Whole own; kept = rest.kept } in
          let at : rest ≡ here = ap (λ s. record { stage = s; kept = rest.kept }) is in
          let w = whole sys a.o (moment_of way).entry own answer rest.kept kept g (subst (λ r. IsRestOfCall sys a.o (moment_of way).entry r answer kept g) at reads) in
          let one : Follows way (LeftGoes sys a aim way ts leaf) c ps (inner_pieces inner []) answer kept = subst (λ zs. Follows way (LeftGoes sys a aim way ts leaf) c ps (inner_pieces inner zs) answer kept) w.0 k in
          let two : Follows way (LeftGoes sys a aim way ts leaf) c ps (inner_pieces inner []) own kept = subst (λ z. Follows way (LeftGoes sys a aim way ts leaf) c ps (inner_pieces inner []) z kept) w.1 one in
          let three : Follows way (LeftGoes sys a aim way ts leaf) c ps (inner_pieces inner []) own rest.kept = subst (λ z. Follows way (LeftGoes sys a aim way ts leaf) c ps (inner_pieces inner []) own z) w.2 two in
          ended own (is_assertion own) three
      by s is k = k

  -- and back
  pub back-resume : Back → (inner : Bool) (rest : CallState) (c : Config) (ps : List Piece)
      → Goes sys a aim (resume way inner rest leaf ts go c) ps → CallStateGoes sys a way inner rest (LeftGoes sys a aim way ts leaf) c ps
  unfolding Goes CallStateGoes IsRestOfCall
  back-resume back inner rest c ps h = by rest.stage refl h
    where
      ended : (own : Answer) (b : Bool) → Goes sys a aim (answered b way leaf ts go (record c { ok = ok_after own c.ok; kept = rest.kept })) ps
          → MatchBool b (ps ≡ inner_pieces inner []) ((more : List Piece) × (ps ≡ inner_pieces inner [] ++ more) × Ends way (LeftGoes sys a aim way ts leaf (record c { ok = ok_after own c.ok; kept = rest.kept })) more)
      ended own true k = k ∙ sym (none inner)
      ended own false k = (ps, ap (λ zs. zs ++ ps) (sym (none inner)), back-done back (record c { ok = ok_after own c.ok; kept = rest.kept }) ps k)

      by : (s : CallStage) → rest.stage ≡ s → Goes sys a aim (resumed (stage_answer s) way inner rest leaf ts go c) ps → CallStateGoes sys a way inner rest (LeftGoes sys a aim way ts leaf) c ps
      by (Whole own) is k = (own, [], rest.kept, ap (λ s. record { stage = s; kept = rest.kept }) is, ended own (is_assertion own) k)
      by s is k = k

  -- a call that begins
  into-call : ReadsBegin → (x : Call) (c : Config) (ps : List Piece) → CallGoes sys a way c (LeftGoes sys a aim way ts leaf) x ps
      → CallStateGoes sys a way (has_inner way x) (call_state_begin a.room c.kept x) (LeftGoes sys a aim way ts leaf) c ps
  unfolding CallGoes CallStateGoes
  into-call begin x c ps (answer, g, kept, fits, keeps, k) = (
    answer,
    g,
    kept,
    (begin sys a.o (moment_of way).entry a.room c.kept x answer kept g).1 (fits, keeps),
    subst (λ zs. Follows way (LeftGoes sys a aim way ts leaf) c ps zs answer kept) (pieces-inner way x g) k,
  )

  back-call : ReadsBegin → (x : Call) (c : Config) (ps : List Piece) → CallStateGoes sys a way (has_inner way x) (call_state_begin a.room c.kept x) (LeftGoes sys a aim way ts leaf) c ps
      → CallGoes sys a way c (LeftGoes sys a aim way ts leaf) x ps
  unfolding CallGoes CallStateGoes
  back-call begin x c ps (answer, g, kept, reads, k) =
      let both = (begin sys a.o (moment_of way).entry a.room c.kept x answer kept g).0 reads in (
        answer,
        g,
        kept,
        both.0,
        both.1,
        subst (λ zs. Follows way (LeftGoes sys a aim way ts leaf) c ps zs answer kept) (sym (pieces-inner way x g)) k,
      )

  into-deed : ReadsBegin → ReadsWhole → Into → (d : Deed) (c : Config) (ps : List Piece) → DeedGoes sys a way c (LeftGoes sys a aim way ts leaf) d ps
      → Goes sys a aim (deed_state a way leaf ts go c d) ps
  unfolding DeedGoes deed_state Goes
  into-deed begin whole into (Sets var value) c ps h = into-done into (record c { vars = slice_set c.vars var value }) ps h
  into-deed begin whole into (Says value) c ps h = h
  into-deed begin whole into (Calls x) c ps h = into-resume whole into (has_inner way x) (call_state_begin a.room c.kept x) c ps (into-call begin x c ps h)

  back-deed : ReadsBegin → Back → (d : Deed) (c : Config) (ps : List Piece) → Goes sys a aim (deed_state a way leaf ts go c d) ps
      → DeedGoes sys a way c (LeftGoes sys a aim way ts leaf) d ps
  unfolding DeedGoes deed_state Goes
  back-deed begin back (Sets var value) c ps h = back-done back (record c { vars = slice_set c.vars var value }) ps h
  back-deed begin back (Says value) c ps h = h
  back-deed begin back (Calls x) c ps h = back-call begin x c ps (back-resume back (has_inner way x) (call_state_begin a.room c.kept x) c ps h)

  into-task : ReadsBegin → ReadsWhole → Into → (t : Task) (c : Config) (ps : List Piece) → TaskGoes sys a way c (LeftGoes sys a aim way ts leaf) t ps
      → Goes sys a aim (task_state a way leaf ts go c t) ps
  unfolding TaskGoes task_state Goes
  into-task begin whole into (task.Do p) c ps h = into-deed begin whole into (deed_of (names_of a c (moment_of way).event) p) c ps h
  into-task begin whole into (task.Raise ceiling) c ps h = h
  into-task begin whole into task.Restore c ps h = h
  into-task begin whole into task.Begin c ps h = h
  into-task begin whole into (task.Run s k) c ps h = h
  into-task begin whole into task.Unhandled c ps h = h
  into-task begin whole into (task.Exit s) c ps h = h
  into-task begin whole into (task.Enter s) c ps h = h
  into-task begin whole into (task.Init s) c ps h = h
  into-task begin whole into task.Done c ps h = h

  back-task : ReadsBegin → Back → (t : Task) (c : Config) (ps : List Piece) → Goes sys a aim (task_state a way leaf ts go c t) ps
      → TaskGoes sys a way c (LeftGoes sys a aim way ts leaf) t ps
  unfolding TaskGoes task_state Goes
  back-task begin back (task.Do p) c ps h = back-deed begin back (deed_of (names_of a c (moment_of way).event) p) c ps h
  back-task begin back (task.Raise ceiling) c ps h = h
  back-task begin back task.Restore c ps h = h
  back-task begin back task.Begin c ps h = h
  back-task begin back (task.Run s k) c ps h = h
  back-task begin back task.Unhandled c ps h = h
  back-task begin back (task.Exit s) c ps h = h
  back-task begin back (task.Enter s) c ps h = h
  back-task begin back (task.Init s) c ps h = h
  back-task begin back task.Done c ps h = h

-- the tasks left, and the state in which they are left
pub into-settle : ReadsBegin → ReadsWhole → (sys : System) (a : Actor) (aim : Aim) (way : Way) (leaf : ℕ) (ts : List Task) (c : Config) (ps : List Piece)
    → LeftGoes sys a aim way ts leaf c ps → Goes sys a aim (tasks_state a way leaf ts c) ps
unfolding LeftGoes TasksGo tasks_state Goes Closing Drops
into-settle begin whole sys a aim Starting leaf [] c ps h = h
into-settle begin whole sys a aim (Stepping ev e) leaf [] c ps h = by e.pool h
  where
    by : (p : ℕ) → (rel : List Told) × (rest : List Piece) × releases_by p e rel × (ps ≡ tell rel ++ rest) × StepsGo sys a aim (record c { leaf = leaf }) rest
        → Goes sys a aim (step_closed p e (record c { leaf = leaf })) ps
    by zero (rel, rest, drops, is, k) = let same : ps ≡ rest = is ∙ ap (λ zs. tell zs ++ rest) drops in subst (StepsGo sys a aim (record c { leaf = leaf })) (sym same) k
    by (suc p) k = k
into-settle begin whole sys a aim way leaf (t ∷ ts) c ps h =
    into-task sys a aim way leaf ts (λ d. tasks_state a way leaf ts d) begin whole (λ d zs k. into-settle begin whole sys a aim way leaf ts d zs k) t c ps h

-- and back
pub back-settle : ReadsBegin → (sys : System) (a : Actor) (aim : Aim) (way : Way) (leaf : ℕ) (ts : List Task) (c : Config) (ps : List Piece)
    → Goes sys a aim (tasks_state a way leaf ts c) ps → LeftGoes sys a aim way ts leaf c ps
unfolding LeftGoes TasksGo tasks_state Goes Closing Drops
back-settle begin sys a aim Starting leaf [] c ps h = h
back-settle begin sys a aim (Stepping ev e) leaf [] c ps h = by e.pool h
  where
    by : (p : ℕ) → Goes sys a aim (step_closed p e (record c { leaf = leaf })) ps
        → (rel : List Told) × (rest : List Piece) × releases_by p e rel × (ps ≡ tell rel ++ rest) × StepsGo sys a aim (record c { leaf = leaf }) rest
    by zero k = ([], ps, refl, refl, k)
    by (suc p) k = k
back-settle begin sys a aim way leaf (t ∷ ts) c ps h =
    back-task sys a aim way leaf ts (λ d. tasks_state a way leaf ts d) begin (λ d zs k. back-settle begin sys a aim way leaf ts d zs k) t c ps h
