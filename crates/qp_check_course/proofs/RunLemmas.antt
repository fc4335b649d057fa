-- A list is a front of a course exactly where its states read it.
use Rattle.std.proofs.Common.{◌≡◌, ◌≤◌, true, ◌||◌, List, [], ◌∷◌, ◌++◌, length, refl, sym, ◌∙◌, ap, subst, inl, inr, ◌⊎◌, Option, Some, None, append-nil}
use Rattle.std.specs.Bool.{IsTrue}
use Rattle.std.specs.Option.{option_and_then}
use Rattle.std.proofs.lemmas.Bool.{or_left, or_cases, or_right, false≢true}
use Rattle.std.proofs.lemmas.Option.{none-some}
use Rattle.qp_model.specs.declared.systems.System.{System}
use Rattle.qp_model.specs.Pieces.{Piece, Tell, Point, ends_at_point, begins_at_point}
use Rattle.qp_model.specs.Able.{chart_able}
use Rattle.qp_model.specs.Acts.{Config, Actor}
use Rattle.qp_model.specs.Course.{Cut, Whole, Stopped, Anywhere}
use Rattle.qp_check_calls.specs.CallStateLaws.{ReadsBegin, ReadsWhole, ReadsNext, OpenBegin, OpenNext, OpenReads}
use Rattle.qp_chart.specs.Agenda.{start_plan}
use Rattle.qp_check_course.specs.Goes.{anywhere, Starting, CourseGoes}
use Rattle.qp_check_course.specs.Machine.{State, Between, Telling, Raising, AtPoint, InCall, AtPost, Releasing, Returning, Asserted, Goes, start_state, point_next, state_next, state_after, is_course_end, expects_point, IsCallUnderWay}
use Rattle.qp_check_course.specs.Ready.{MayGoOnFrom}
use Rattle.qp_check_course.specs.Decided.{ends_well}
use Rattle.qp_check_course.proofs.SettleLemmas.{into-settle, back-settle}
use Rattle.qp_check_course.proofs.NextLemmas.{goes-next}
use Rattle.qp_check_course.proofs.BackLemmas.{next-goes}
use Rattle.qp_check_course.proofs.ReadyLemmas.{ready-start, ready-next}
use Rattle.qp_check_course.proofs.EndLemmas.{goes-end, end-goes, goes-some}
use Rattle.qp_model.proofs.AbleLemmas.{some-same}

pub under : (sys : System) (a : Actor) (s : State) → MayGoOnFrom sys a s → IsCallUnderWay s
under sys a (Between c) h = tt
under sys a (Telling way n ends ts leaf c) h = tt
under sys a (Raising way ceiling ts leaf c) h = tt
under sys a (AtPoint ev e ts leaf c) h = tt
under sys a (InCall way inner rest ts leaf c) h = h.0
under sys a (AtPost way rest ts leaf c) h = tt
under sys a (Releasing e c) h = tt
under sys a (Returning p b d c) h = tt
under sys a Asserted h = tt

-- a state from which a point may come expects one
pub point-expected : (a : Actor) (s later : State) → point_next a s ≡ Some later → expects_point s ≡ true
unfolding point_next
point-expected a (AtPoint ev e ts leaf c) later h = refl
point-expected a (AtPost way rest ts leaf c) later h = refl
point-expected a s later h = absurd (none-some _ h)

-- where a point is expected, nothing else may come
pub expected-point : (sys : System) (a : Actor) (s : State) (ps : List Piece) → expects_point s ≡ true → Goes sys a anywhere s ps → begins_at_point ps ≡ true
unfolding Goes
expected-point sys a (AtPoint ev e ts leaf c) ps h (rest, is, k) = ap begins_at_point is
expected-point sys a (AtPost way rest ts leaf c) ps h (more, is, k) = ap begins_at_point is
expected-point sys a s ps h k = absurd (false≢true h)

module _ (begin : ReadsBegin) (whole : ReadsWhole) (reads_next : ReadsNext) (first : OpenBegin) (open_next : OpenNext) (open_reads : OpenReads)
    (sys : System) (a : Actor) (able : chart_able sys a.chart ≡ true) where
  -- pieces at the front of what may come are read
  pub goes-run : (ps back : List Piece) (s : State) → MayGoOnFrom sys a s → Goes sys a anywhere s (ps ++ back)
      → (later : State) × (state_after sys a s ps ≡ Some later) × MayGoOnFrom sys a later × Goes sys a anywhere later back
  unfolding state_after
  goes-run [] back s ready h = (s, refl, ready, h)
  goes-run (p ∷ ps) back s ready h =
      let step = goes-next begin whole reads_next sys a anywhere s p (ps ++ back) (under sys a s ready) h in
      let rest = goes-run ps back step.0 (ready-next begin reads_next first open_next sys a able s p step.0 step.1 ready) step.2 in
      (rest.0, ap (λ o. option_and_then (λ later. state_after sys a later ps) o) step.1 ∙ rest.1, rest.2, rest.3)

  -- and back
  pub run-goes : (ps back : List Piece) (s later : State) → state_after sys a s ps ≡ Some later → Goes sys a anywhere later back → Goes sys a anywhere s (ps ++ back)
  unfolding state_after
  run-goes [] back s later e h = subst (λ x. Goes sys a anywhere x back) (sym (some-same e)) h
  run-goes (p ∷ ps) back s later e h = by (λ mid k. run-goes ps back mid later k h) (state_next sys a s p) refl e
    where
      by : ((mid : State) → state_after sys a mid ps ≡ Some later → Goes sys a anywhere mid (ps ++ back)) → (o : Option State) → state_next sys a s p ≡ o
          → option_and_then (λ x. state_after sys a x ps) o ≡ Some later → Goes sys a anywhere s (p ∷ (ps ++ back))
      by more None is k = absurd (cc)
      by more (Some mid) is k = next-goes begin whole reads_next sys a anywhere s p (ps ++ back) mid is (more mid k)

  -- a state that was read to can go on
  pub run-ready : (ps : List Piece) (s later : State) → MayGoOnFrom sys a s → state_after sys a s ps ≡ Some later → MayGoOnFrom sys a later
  unfolding state_after
  run-ready [] s later ready e = subst (MayGoOnFrom sys a) (some-same e) ready
  run-ready (p ∷ ps) s later ready e = by (λ mid can k. run-ready ps mid later can k) (state_next sys a s p) refl e
    where
      by : ((mid : State) → MayGoOnFrom sys a mid → state_after sys a mid ps ≡ Some later → MayGoOnFrom sys a later) → (o : Option State) → state_next sys a s p ≡ o
          → option_and_then (λ x. state_after sys a x ps) o ≡ Some later → MayGoOnFrom sys a later
      by more None is k = absurd (cc)
      by more (Some mid) is k = more mid (ready-next begin reads_next first open_next sys a able s p mid is ready) k

  -- what may come from a state of a list that stopped there
  pub stops-here : (s : State) (back : List Piece) → MayGoOnFrom sys a s → Goes sys a anywhere s back → begins_at_point back ≡ true → (is_course_end s || expects_point s) ≡ true
  unfolding state_next
  stops-here s [] ready h at = or_left (is_course_end s) (expects_point s) (goes-end sys a s ready h)
  stops-here s (Point ∷ back) ready h at =
      let step = goes-next begin whole reads_next sys a anywhere s Point back (under sys a s ready) h in
      or_right (is_course_end s) (expects_point s) (point-expected a s step.0 step.1)
  stops-here s (Tell t ∷ back) ready h at = absurd (false≢true at)

  pub here-stops : (s : State) → MayGoOnFrom sys a s → (is_course_end s || expects_point s) ≡ true → (back : List Piece) × Goes sys a anywhere s back × (begins_at_point back ≡ true)
  here-stops s ready h = by (or_cases (is_course_end s) (expects_point s) h)
    where
      by : (is_course_end s ≡ true) ⊎ (expects_point s ≡ true) → (back : List Piece) × Goes sys a anywhere s back × (begins_at_point back ≡ true)
      by (inl k) = ([], end-goes sys a s k, refl)
      by (inr k) = let some = goes-some open_reads sys a s ready in (some.0, some.1, expected-point sys a s some.0 k some.1)

  module _ (c : Config) (within : length c.kept ≤ a.room) where
    pub start-into : (ps : List Piece) → CourseGoes sys a anywhere c ps → Goes sys a anywhere (start_state a c) ps
    unfolding CourseGoes start_state
    start-into ps h = into-settle begin whole sys a anywhere Starting (start_plan a.chart).leaf (start_plan a.chart).tasks c ps h

    pub start-back : (ps : List Piece) → Goes sys a anywhere (start_state a c) ps → CourseGoes sys a anywhere c ps
    unfolding CourseGoes start_state
    start-back ps h = back-settle begin sys a anywhere Starting (start_plan a.chart).leaf (start_plan a.chart).tasks c ps h

    pub begun : MayGoOnFrom sys a (start_state a c)
    begun = ready-start begin reads_next first open_next sys a able c within

    -- a list that may be cut so
    unfoldable pub Fronts : Cut → List Piece → Type 0
    Fronts Whole ps = CourseGoes sys a anywhere c ps
    Fronts Stopped ps = (back : List Piece) × CourseGoes sys a anywhere c (ps ++ back) × (IsTrue (ends_at_point ps) ⊎ IsTrue (begins_at_point back))
    Fronts Anywhere ps = (back : List Piece) × CourseGoes sys a anywhere c (ps ++ back)

    -- its states read it
    pub fronts-well : (cut : Cut) (ps : List Piece) → Fronts cut ps → ends_well cut (ends_at_point ps) (state_after sys a (start_state a c) ps) ≡ true
    unfolding Fronts
    fronts-well Whole ps h =
        let read = goes-run ps [] (start_state a c) begun (rw append-nil (start-into ps h)) in
        ap (ends_well Whole (ends_at_point ps)) read.1 ∙ goes-end sys a read.0 read.2 read.3
    fronts-well Stopped ps (back, h, at) =
        let read = goes-run ps back (start_state a c) begun (start-into (ps ++ back) h) in
        ap (ends_well Stopped (ends_at_point ps)) read.1 ∙ by read.0 read.2 read.3 at
      where
        by : (later : State) → MayGoOnFrom sys a later → Goes sys a anywhere later back → IsTrue (ends_at_point ps) ⊎ IsTrue (begins_at_point back)
            → (ends_at_point ps || (is_course_end later || expects_point later)) ≡ true
        by later ready k (inl front) = or_left (ends_at_point ps) (is_course_end later || expects_point later) front
        by later ready k (inr behind) = or_right (ends_at_point ps) (is_course_end later || expects_point later) (stops-here later back ready k behind)
    fronts-well Anywhere ps (back, h) =
        let read = goes-run ps back (start_state a c) begun (start-into (ps ++ back) h) in
        ap (ends_well Anywhere (ends_at_point ps)) read.1

    -- and back
    pub well-fronts : (cut : Cut) (ps : List Piece) → ends_well cut (ends_at_point ps) (state_after sys a (start_state a c) ps) ≡ true → Fronts cut ps
    unfolding Fronts
    well-fronts cut ps h = by cut (state_after sys a (start_state a c) ps) refl h
      where
        front : (later : State) (back : List Piece) → state_after sys a (start_state a c) ps ≡ Some later → Goes sys a anywhere later back → CourseGoes sys a anywhere c (ps ++ back)
        front later back e k = start-back (ps ++ back) (run-goes ps back (start_state a c) later e k)

        stopped : (later : State) → state_after sys a (start_state a c) ps ≡ Some later → (ends_at_point ps ≡ true) ⊎ ((is_course_end later || expects_point later) ≡ true) → Fronts Stopped ps
        stopped later e (inl at) =
            let some = goes-some open_reads sys a later (run-ready ps (start_state a c) later begun e) in (some.0, front later some.0 e some.1, inl at)
        stopped later e (inr at) =
            let some = here-stops later (run-ready ps (start_state a c) later begun e) at in (some.0, front later some.0 e some.1, inr some.2)

        by : (cut : Cut) (o : Option State) → state_after sys a (start_state a c) ps ≡ o → ends_well cut (ends_at_point ps) o ≡ true → Fronts cut ps
        by cut None e h = absurd (cc)
        by Whole (Some later) e h = rw append-nil at (front later [] e (end-goes sys a later h))
        by Stopped (Some later) e h = stopped later e (or_cases (ends_at_point ps) (is_course_end later || expects_point later) h)
        by Anywhere (Some later) e h =
            let some = goes-some open_reads sys a later (run-ready ps (start_state a c) later begun e) in (some.0, front later some.0 e some.1)
