-- A list without its points, read record by record.
use Rattle.std.proofs.Common.{◌≡◌, ℕ, ◌≤◌, Bool, true, false, ◌||◌, List, [], ◌∷◌, ◌++◌, length, refl, sym, ◌∙◌, ap, subst, inl, inr, ◌⊎◌, Option, Some, None, append-nil, append_assoc}
use Rattle.std.specs.Bool.{IsTrue}
use Rattle.std.specs.Option.{option_and_then}
use Rattle.std.proofs.lemmas.Bool.{or_cases, or_right, false≢true}
use Rattle.qp_chart.specs.Task.{Task}
use Rattle.qp_model.specs.declared.systems.System.{System}
use Rattle.qp_model.specs.declared.bodies.Entry.{Entry}
use Rattle.qp_model.specs.Told.{Told, Event}
use Rattle.qp_model.specs.Pieces.{Piece, Tell, Point, records_in, ends_at_point, begins_at_point}
use Rattle.qp_model.specs.Able.{chart_able}
use Rattle.qp_model.specs.Acts.{Config, Actor}
use Rattle.qp_model.specs.Course.{Cut, Whole, Stopped, Anywhere}
use Rattle.qp_model.proofs.GroupLemmas.{bare-append}
use Rattle.qp_check_calls.specs.CallStateLaws.{ReadsBegin, ReadsWhole, ReadsNext, OpenBegin, OpenNext, OpenReads}
use Rattle.qp_check_course.specs.Goes.{Aim, anywhere, Stepping}
use Rattle.qp_check_course.specs.Machine.{State, Between, Telling, Raising, AtPoint, InCall, AtPost, Releasing, Returning, Asserted, Goes, tasks_state, resume, start_state, tell_next, point_next, state_next, is_course_end, expects_point}
use Rattle.qp_check_course.specs.Ready.{AreTasksAble, IsWithin, MayGoOnFrom}
use Rattle.qp_check_course.specs.Passing.{through, settle_past, pass_actions, pass, run_told, is_none_told, may_end_told, told_well}
use Rattle.qp_check_course.proofs.NextLemmas.{goes-next}
use Rattle.qp_check_course.proofs.BackLemmas.{next-goes}
use Rattle.qp_check_course.proofs.ReadyLemmas.{ready-settle, ready-next}
use Rattle.qp_check_course.proofs.EndLemmas.{goes-end, end-goes, goes-some}
use Rattle.qp_check_course.proofs.PassLemmas.{Shape, settle-shape, through-none, pass-none, pass-point, unpass}
use Rattle.qp_check_course.proofs.RunLemmas.{under, point-expected, expected-point, stops-here, here-stops, start-into, start-back, begun, Fronts}
use Rattle.qp_model.proofs.AbleLemmas.{some-same}
use Rattle.qp_model.proofs.CutLemmas.{first-same, rest-same}

-- a course that may end expects no point
end-none : (s : State) → is_course_end s ≡ true → expects_point s ≡ false
end-none (Between c) h = refl
end-none Asserted h = refl
end-none s h = absurd (false≢true h)

-- a piece before others leaves how the list ends
ends-cons : (p : Piece) (ps : List Piece) (t : Told) (g : List Told) → records_in ps ≡ t ∷ g → ends_at_point (p ∷ ps) ≡ ends_at_point ps
unfolding records_in ends_at_point
ends-cons p [] t g e = absurd (cc)
ends-cons Point (q ∷ ps) t g e = refl
ends-cons (Tell u) (q ∷ ps) t g e = refl

-- what follows the last record: all of a list without one; points, where the list ends at one
abbrev pub Fact : List Told → List Piece → List Piece → Type 0
Fact [] ps tail = tail ≡ ps
Fact (t ∷ g) ps tail = ends_at_point ps ≡ true → (us : List Piece) × (tail ≡ Point ∷ us)

-- behind a last record, a list that ends at a point goes on with one
point-left : (t : Told) (rest : List Piece) → records_in rest ≡ [] → ends_at_point (Tell t ∷ rest) ≡ true → (us : List Piece) × (rest ≡ Point ∷ us)
unfolding records_in ends_at_point
point-left t [] e h = absurd (false≢true h)
point-left t (Point ∷ us) e h = (us, refl)
point-left t (Tell u ∷ us) e h = absurd (cc)

module _ (begin : ReadsBegin) (whole : ReadsWhole) (reads_next : ReadsNext) (first : OpenBegin) (open_next : OpenNext) (open_reads : OpenReads)
    (sys : System) (a : Actor) (able : chart_able sys a.chart ≡ true) where
  ready-past : (ev : Event) (e : Entry) (leaf : ℕ) (ts : List Task) (c : Config) → AreTasksAble sys (Stepping ev e) ts → IsWithin a c → MayGoOnFrom sys a (settle_past a ev e leaf ts c)
  unfolding settle_past tasks_state
  ready-past ev e leaf [] c asked within = ready-settle begin first sys a (Stepping ev e) leaf [] c asked within
  ready-past ev e leaf (t ∷ ts) c asked within =
      by (λ d asked within. ready-past ev e leaf ts d asked within) (tasks_state a (Stepping ev e) leaf (t ∷ ts) c) (settle-shape a ev e leaf t ts c) (ready-settle begin first sys a (Stepping ev e) leaf (t ∷ ts) c asked within)
    where
      by : ((d : Config) → AreTasksAble sys (Stepping ev e) ts → IsWithin a d → MayGoOnFrom sys a (settle_past a ev e leaf ts d)) → (s : State) → Shape ev e leaf ts s → MayGoOnFrom sys a s
          → MayGoOnFrom sys a (through s (λ d. settle_past a ev e leaf ts d))
      by more s (inl (d, is)) ready =
          let at : MayGoOnFrom sys a (AtPoint ev e ts leaf d) = subst (MayGoOnFrom sys a) is ready in
          subst (λ x. MayGoOnFrom sys a (through x (λ d. settle_past a ev e leaf ts d))) (sym is) (more d at.0 at.1)
      by more s (inr none) ready = subst (MayGoOnFrom sys a) (sym (through-none a s (λ d. settle_past a ev e leaf ts d) none)) ready

  ready-actions : (s : State) → MayGoOnFrom sys a s → MayGoOnFrom sys a (pass_actions a s)
  unfolding pass_actions
  ready-actions (AtPoint ev e ts leaf c) ready = ready-past ev e leaf ts c ready.0 ready.1
  ready-actions _ ready = ready

  ready-pass : (s : State) → MayGoOnFrom sys a s → MayGoOnFrom sys a (pass a s)
  unfolding pass state_next point_next
  ready-pass (AtPost way rest ts leaf c) ready =
      ready-actions (resume way true rest leaf ts (tasks_state a way leaf ts) c)
      (ready-next begin reads_next first open_next sys a able (AtPost way rest ts leaf c) Point (resume way true rest leaf ts (tasks_state a way leaf ts) c) refl ready)
  ready-pass (AtPoint ev e ts leaf c) ready = ready-actions (AtPoint ev e ts leaf c) ready
  ready-pass (Between c) ready = ready-actions (Between c) ready
  ready-pass (Telling way n ends ts leaf c) ready = ready-actions (Telling way n ends ts leaf c) ready
  ready-pass (Raising way ceiling ts leaf c) ready = ready-actions (Raising way ceiling ts leaf c) ready
  ready-pass (InCall way inner rest ts leaf c) ready = ready-actions (InCall way inner rest ts leaf c) ready
  ready-pass (Releasing e c) ready = ready-actions (Releasing e c) ready
  ready-pass (Returning p b d c) ready = ready-actions (Returning p b d c) ready
  ready-pass Asserted ready = tt

  -- a point at the front is read
  point-read : (s : State) (zs : List Piece) → MayGoOnFrom sys a s → Goes sys a anywhere s (Point ∷ zs)
      → (later : State) × MayGoOnFrom sys a later × Goes sys a anywhere later zs × (pass a later ≡ pass a s) × (expects_point s ≡ true)
  unfolding state_next
  point-read s zs ready h =
      let step = goes-next begin whole reads_next sys a anywhere s Point zs (under sys a s ready) h in
      (step.0, ready-next begin reads_next first open_next sys a able s Point step.0 step.1 ready, step.2, pass-point a s step.0 step.1, point-expected a s step.0 step.1)

  -- what comes before the next record are points, which are passed
  skip : (ps : List Piece) (t : Told) (g : List Told) (back : List Piece) (s : State) → records_in ps ≡ t ∷ g → MayGoOnFrom sys a s → Goes sys a anywhere s (ps ++ back)
      → (rest : List Piece) × (records_in rest ≡ g) × Goes sys a anywhere (pass a s) (Tell t ∷ (rest ++ back)) × (ends_at_point ps ≡ ends_at_point (Tell t ∷ rest))
  unfolding records_in
  skip [] t g back s e ready h = absurd (cc)
  skip (Point ∷ ps) t g back s e ready h =
      let read = point-read s (ps ++ back) ready h in
      let more = skip ps t g back read.0 e read.1 read.2 in
      (more.0, more.1, subst (λ x. Goes sys a anywhere x (Tell t ∷ (more.0 ++ back))) read.3 more.2, ends-cons Point ps t g e ∙ more.3)
  skip (Tell u ∷ ps) t g back s e ready h = by (expects_point s) refl
    where
      same : Tell u ≡ Tell t
      same = ap Tell (first-same e)

      by : (b : Bool) → expects_point s ≡ b
          → (rest : List Piece) × (records_in rest ≡ g) × Goes sys a anywhere (pass a s) (Tell t ∷ (rest ++ back)) × (ends_at_point (Tell u ∷ ps) ≡ ends_at_point (Tell t ∷ rest))
      by true is = let wrong = expected-point sys a s (Tell u ∷ (ps ++ back)) is h in absurd (cc)
      by false is = (
        ps,
        rest-same e,
        subst (λ x. Goes sys a anywhere x (Tell t ∷ (ps ++ back))) (sym (pass-none a s is)) (subst (λ p. Goes sys a anywhere s (p ∷ (ps ++ back))) same h),
        ap (λ p. ends_at_point (p ∷ ps)) same,
      )

  -- records at the front of what may come are read
  pub goes-told : (g : List Told) (ps back : List Piece) (s : State) → records_in ps ≡ g → MayGoOnFrom sys a s → Goes sys a anywhere s (ps ++ back)
      → (later : State) × (tail : List Piece) × (run_told sys a s g ≡ Some later) × MayGoOnFrom sys a later × (records_in tail ≡ []) × Goes sys a anywhere later (tail ++ back) × Fact g ps tail
  unfolding run_told state_next
  goes-told [] ps back s e ready h = (s, ps, refl, ready, e, h, refl)
  goes-told (t ∷ g) ps back s e ready h =
      let cut = skip ps t g back s e ready h in
      let step = goes-next begin whole reads_next sys a anywhere (pass a s) (Tell t) (cut.0 ++ back) (under sys a (pass a s) (ready-pass s ready)) cut.2 in
      let rest = goes-told g cut.0 back step.0 cut.1 (ready-next begin reads_next first open_next sys a able (pass a s) (Tell t) step.0 step.1 (ready-pass s ready)) step.2 in
      (rest.0, rest.1, ap (λ o. option_and_then (λ later. run_told sys a later g) o) step.1 ∙ rest.2, rest.3, rest.4, rest.5, fact g cut.0 rest.1 cut.1 rest.4 cut.3 rest.6)
    where
      fact : (g : List Told) (rest tail : List Piece) → records_in rest ≡ g → records_in tail ≡ [] → ends_at_point ps ≡ ends_at_point (Tell t ∷ rest) → Fact g rest tail
          → ends_at_point ps ≡ true → (us : List Piece) × (tail ≡ Point ∷ us)
      fact [] rest tail is none same f ends =
          let left = point-left t rest is (sym same ∙ ends) in (left.0, f ∙ left.1)
      fact (u ∷ g) rest tail is none same f ends = f (sym (ends-cons (Tell t) rest u g is) ∙ sym same ∙ ends)

  -- and back
  pub told-goes : (aim : Aim) (g : List Told) (s later : State) (back : List Piece) → run_told sys a s g ≡ Some later → Goes sys a aim later back
      → (ps : List Piece) × (records_in ps ≡ g) × Goes sys a aim s (ps ++ back)
  unfolding run_told state_next records_in
  told-goes aim [] s later back e h = ([], refl, subst (λ x. Goes sys a aim x back) (sym (some-same e)) h)
  told-goes aim (t ∷ g) s later back e h = by (λ mid k. told-goes aim g mid later back k h) (tell_next sys a (pass a s) t) refl e
    where
      by : ((mid : State) → run_told sys a mid g ≡ Some later → (ps : List Piece) × (records_in ps ≡ g) × Goes sys a aim mid (ps ++ back))
          → (o : Option State) → tell_next sys a (pass a s) t ≡ o → option_and_then (λ x. run_told sys a x g) o ≡ Some later
          → (ps : List Piece) × (records_in ps ≡ t ∷ g) × Goes sys a aim s (ps ++ back)
      by more None is k = absurd (cc)
      by more (Some mid) is k =
          let rest = more mid k in
          let here = next-goes begin whole reads_next sys a aim (pass a s) (Tell t) (rest.0 ++ back) mid is rest.2 in
          let before = unpass begin whole reads_next sys a aim s (Tell t ∷ (rest.0 ++ back)) here in (
            before.0 ++ (Tell t ∷ rest.0),
            bare-append before.0 (Tell t ∷ rest.0) ∙ ap (λ us. us ++ (t ∷ records_in rest.0)) before.1 ∙ ap (λ us. t ∷ us) rest.1,
            subst (Goes sys a aim s) (sym (append_assoc before.0 (Tell t ∷ rest.0) back)) before.2,
          )

  -- a state that was read to can go on
  pub told-ready : (g : List Told) (s later : State) → MayGoOnFrom sys a s → run_told sys a s g ≡ Some later → MayGoOnFrom sys a later
  unfolding run_told state_next
  told-ready [] s later ready e = subst (MayGoOnFrom sys a) (some-same e) ready
  told-ready (t ∷ g) s later ready e = by (λ mid can k. told-ready g mid later can k) (tell_next sys a (pass a s) t) refl e
    where
      by : ((mid : State) → MayGoOnFrom sys a mid → run_told sys a mid g ≡ Some later → MayGoOnFrom sys a later) → (o : Option State) → tell_next sys a (pass a s) t ≡ o
          → option_and_then (λ x. run_told sys a x g) o ≡ Some later → MayGoOnFrom sys a later
      by more None is k = absurd (cc)
      by more (Some mid) is k = more mid (ready-next begin reads_next first open_next sys a able (pass a s) (Tell t) mid is (ready-pass s ready)) k

  -- points alone lead to an end only where passing them does
  tail-end : (tail : List Piece) (s : State) → records_in tail ≡ [] → MayGoOnFrom sys a s → Goes sys a anywhere s tail → is_course_end (pass a s) ≡ true
  unfolding records_in
  tail-end [] s e ready h = let is = goes-end sys a s ready h in ap is_course_end (pass-none a s (end-none s is)) ∙ is
  tail-end (Point ∷ us) s e ready h =
      let read = point-read s us ready h in ap is_course_end (sym read.3) ∙ tail-end us read.0 e read.1 read.2
  tail-end (Tell t ∷ us) s e ready h = absurd (cc)

  -- behind points, what comes at a point comes at one
  tail-stops : (tail back : List Piece) (s : State) → records_in tail ≡ [] → MayGoOnFrom sys a s → Goes sys a anywhere s (tail ++ back) → begins_at_point back ≡ true → (is_course_end s || expects_point s) ≡ true
  unfolding records_in
  tail-stops [] back s e ready h at = stops-here begin whole reads_next first open_next open_reads sys a able s back ready h at
  tail-stops (Point ∷ us) back s e ready h at = or_right (is_course_end s) (expects_point s) (point-read s (us ++ back) ready h).4
  tail-stops (Tell t ∷ us) back s e ready h at = absurd (cc)

  module _ (c : Config) (within : length c.kept ≤ a.room) where
    -- the states read it
    pub fronts-told : (cut : Cut) (g : List Told) (ps : List Piece) → records_in ps ≡ g
        → Fronts begin whole reads_next first open_next open_reads sys a able c within cut ps
        → told_well a cut (is_none_told g) (run_told sys a (start_state a c) g) ≡ true
    unfolding Fronts may_end_told
    fronts-told Whole g ps e h =
        let read = goes-told g ps [] (start_state a c) e (begun begin whole reads_next first open_next open_reads sys a able c within)
        (rw append-nil (start-into begin whole reads_next first open_next open_reads sys a able c within ps h)) in
        ap (told_well a Whole (is_none_told g)) read.2 ∙ tail-end read.1 read.0 read.4 read.3 (rw append-nil at read.5)
    fronts-told Stopped g ps e (back, h, at) =
        let read = goes-told g ps back (start_state a c) e (begun begin whole reads_next first open_next open_reads sys a able c within)
        (start-into begin whole reads_next first open_next open_reads sys a able c within (ps ++ back) h) in
        ap (told_well a Stopped (is_none_told g)) read.2 ∙ by g read.0 read.1 read.3 read.4 read.5 read.6 at
      where
        by : (g : List Told) (later : State) (tail : List Piece) → MayGoOnFrom sys a later → records_in tail ≡ [] → Goes sys a anywhere later (tail ++ back) → Fact g ps tail
            → IsTrue (ends_at_point ps) ⊎ IsTrue (begins_at_point back) → (is_none_told g || (is_course_end later || expects_point later)) ≡ true
        by [] later tail ready none k f at = refl
        by (t ∷ g) later tail ready none k f (inl front) =
            let left = f front in
            let point : Goes sys a anywhere later (Point ∷ (left.0 ++ back)) = subst (λ zs. Goes sys a anywhere later (zs ++ back)) left.1 k in
            or_right (is_course_end later) (expects_point later) (point-read later (left.0 ++ back) ready point).4
        by (t ∷ g) later tail ready none k f (inr behind) = tail-stops tail back later none ready k behind
    fronts-told Anywhere g ps e (back, h) =
        let read = goes-told g ps back (start_state a c) e (begun begin whole reads_next first open_next open_reads sys a able c within)
        (start-into begin whole reads_next first open_next open_reads sys a able c within (ps ++ back) h) in
        ap (told_well a Anywhere (is_none_told g)) read.2

    -- and back
    pub told-fronts : (cut : Cut) (g : List Told) → told_well a cut (is_none_told g) (run_told sys a (start_state a c) g) ≡ true
        → (ps : List Piece) × (records_in ps ≡ g) × Fronts begin whole reads_next first open_next open_reads sys a able c within cut ps
    unfolding Fronts may_end_told records_in ends_at_point
    told-fronts cut g h = by cut (run_told sys a (start_state a c) g) refl h
      where
        ready : MayGoOnFrom sys a (start_state a c)
        ready = begun begin whole reads_next first open_next open_reads sys a able c within

        front : (ps : List Piece) → Goes sys a anywhere (start_state a c) ps → Fronts begin whole reads_next first open_next open_reads sys a able c within Whole ps
        front ps k = start-back begin whole reads_next first open_next open_reads sys a able c within ps k

        nothing : (g : List Told) → is_none_told g ≡ true → g ≡ []
        nothing [] h = refl
        nothing (t ∷ g) h = absurd (cc)

        ended : (later : State) → run_told sys a (start_state a c) g ≡ Some later → is_course_end (pass a later) ≡ true
            → (ps : List Piece) × (records_in ps ≡ g) × Fronts begin whole reads_next first open_next open_reads sys a able c within Whole ps
        ended later e is =
            let points = unpass begin whole reads_next sys a anywhere later [] (end-goes sys a (pass a later) is) in
            let read = told-goes anywhere g (start_state a c) later (points.0 ++ []) e points.2 in (
              read.0 ++ (points.0 ++ []),
              bare-append read.0 (points.0 ++ []) ∙ ap (λ us. records_in read.0 ++ records_in us) (append-nil points.0) ∙ ap (λ us. records_in read.0 ++ us) points.1 ∙ append-nil (records_in read.0) ∙ read.1,
              front (read.0 ++ (points.0 ++ [])) read.2,
            )

        stopped : (later : State) → run_told sys a (start_state a c) g ≡ Some later → (is_none_told g ≡ true) ⊎ ((is_course_end later || expects_point later) ≡ true)
            → (ps : List Piece) × (records_in ps ≡ g) × Fronts begin whole reads_next first open_next open_reads sys a able c within Stopped ps
        stopped later e (inl none) =
            let some = goes-some open_reads sys a (start_state a c) ready in ([], sym (nothing g none), (some.0, front some.0 some.1, inl refl))
        stopped later e (inr at) =
            let some = here-stops begin whole reads_next first open_next open_reads sys a able later (told-ready g (start_state a c) later ready e) at in
            let read = told-goes anywhere g (start_state a c) later some.0 e some.1 in (read.0, read.1, (some.0, front (read.0 ++ some.0) read.2, inr some.2))

        by : (cut : Cut) (o : Option State) → run_told sys a (start_state a c) g ≡ o → told_well a cut (is_none_told g) o ≡ true
            → (ps : List Piece) × (records_in ps ≡ g) × Fronts begin whole reads_next first open_next open_reads sys a able c within cut ps
        by cut None e h = absurd (cc)
        by Whole (Some later) e h = ended later e h
        by Stopped (Some later) e h = stopped later e (or_cases (is_none_told g) (is_course_end later || expects_point later) h)
        by Anywhere (Some later) e h =
            let some = goes-some open_reads sys a later (told-ready g (start_state a c) later ready e) in
            let read = told-goes anywhere g (start_state a c) later some.0 e some.1 in (read.0, read.1, (some.0, front (read.0 ++ some.0) read.2))
