-- What a piece makes of a state is what may come after it.
use Rattle.std.proofs.Common.{◌≡◌, ℕ, suc, ◌+◌, Bool, true, false, ◌&&◌, List, [], ◌∷◌, ◌++◌, refl, sym, ◌∙◌, ap, subst, inl, inr, ◌⊎◌, Some, None}
use Rattle.std.specs.Prelude.{max}
use Rattle.std.specs.Bool.{MatchBool}
use Rattle.qp_chart.specs.Task.{Task}
use Rattle.qp_chart.specs.Agenda.{step_plan}
use Rattle.qp_model.specs.declared.systems.System.{System}
use Rattle.qp_model.specs.declared.bodies.Entry.{Entry}
use Rattle.qp_model.specs.declared.bodies.Body.{Body}
use Rattle.qp_model.specs.declared.bodies.Body.TheVariants as item
use Rattle.qp_model.specs.Told.{Told, Event, plain, raised, told_took, dropped}
use Rattle.qp_model.specs.Groups.{is_post}
use Rattle.qp_model.specs.Calls.{Answer, is_assertion, ok_after}
use Rattle.qp_model.specs.Pieces.{Piece, Tell, Point, tell, with_points, piece_of}
use Rattle.qp_model.specs.Acts.{Config, Actor, Later, names_of}
use Rattle.qp_check_calls.specs.CallState.{CallState}
use Rattle.qp_check_calls.specs.CallStateNext.{call_state_next, stage_answer}
use Rattle.qp_check_calls.specs.Reads.{IsRestOfCall}
use Rattle.qp_check_calls.specs.CallStateLaws.{ReadsBegin, ReadsWhole, ReadsNext}
use Rattle.qp_check_course.specs.Note.{body_of_note}
use Rattle.qp_check_course.specs.Goes.{Aim, Way, Stepping, moment_of, Ends, StepsGo, LeftGoes, StepGoes}
use Rattle.qp_check_course.specs.Machine.{State, Between, Telling, Raising, AtPoint, InCall, AtPost, Releasing, Returning, Asserted, inner_pieces, CallStateGoes, NoteEnds, Goes, resume, tasks_state, behind_note, call_told, step_state, tell_next, point_next, state_next, IsCallUnderWay}
use Rattle.qp_check_course.proofs.NoteLemmas.{is-tells, is-raised, is-dropped, is-back}
use Rattle.qp_check_course.proofs.CourseLemmas.{took-goes}
use Rattle.qp_check_course.proofs.SettleLemmas.{into-settle, back-settle, into-resume, back-resume, into-done, back-done}
use Rattle.qp_model.proofs.CutLemmas.{first-same, rest-same}

-- the state behind a piece, and what may come from there
abbrev pub Behind : System → Actor → Aim → State → Piece → List Piece → Type 0
Behind sys a aim s p ps = (later : State) × (state_next sys a s p ≡ Some later) × Goes sys a aim later ps

-- a record of a call, and its point where it is a post of a publication
pub inner-first : (inner : Bool) (t : Told) (g : List Told)
    → ((inner && is_post t.body ≡ true) × (inner_pieces inner (t ∷ g) ≡ Tell t ∷ Point ∷ inner_pieces true g))
    ⊎ ((inner && is_post t.body ≡ false) × (inner_pieces inner (t ∷ g) ≡ Tell t ∷ inner_pieces inner g))
unfolding with_points
inner-first false t g = inr (refl, refl)
inner-first true t g = by t.body
  where
    by : (b : Body) → ((is_post b ≡ true) × (piece_of t b ++ with_points g ≡ Tell t ∷ Point ∷ with_points g))
        ⊎ ((is_post b ≡ false) × (piece_of t b ++ with_points g ≡ Tell t ∷ with_points g))
    by (item.Post a f l m e) = inl (refl, refl)
    by b = inr (refl, refl)

-- what follows the records of a call: nothing after an assertion
abbrev Tail : Way → Later → Config → Answer → List Entry → Bool → List Piece → List Piece → Type 0
Tail way later c answer kept b zs ps =
    MatchBool b (ps ≡ zs) ((more : List Piece) × (ps ≡ zs ++ more) × Ends way (later (record c { ok = ok_after answer c.ok; kept = kept })) more)

module _ (way : Way) (later : Later) (c : Config) (answer : Answer) (kept : List Entry) where
  strip : (b : Bool) (q p : Piece) (zs ws ps : List Piece) → ws ≡ q ∷ zs → Tail way later c answer kept b ws (p ∷ ps) → (p ≡ q) × Tail way later c answer kept b zs ps
  strip true q p zs ws ps e k = let whole : p ∷ ps ≡ q ∷ zs = k ∙ e in (first-same whole, rest-same whole)
  strip false q p zs ws ps e (more, k, ends) =
      let whole : p ∷ ps ≡ q ∷ (zs ++ more) = k ∙ ap (λ us. us ++ more) e in (first-same whole, (more, rest-same whole, ends))

  point : (b : Bool) (ws ps : List Piece) → Tail way later c answer kept b (Point ∷ ws) ps → (us : List Piece) × (ps ≡ Point ∷ us) × Tail way later c answer kept b ws us
  point true ws ps k = (ws, k, refl)
  point false ws ps (more, k, ends) = (ws ++ more, k, (more, refl, ends))

  join : (b : Bool) (q : Piece) (zs ws ps : List Piece) → ws ≡ q ∷ zs → Tail way later c answer kept b zs ps → Tail way later c answer kept b ws (q ∷ ps)
  join true q zs ws ps e k = ap (λ us. q ∷ us) k ∙ sym e
  join false q zs ws ps e (more, k, ends) = (more, ap (λ us. q ∷ us) k ∙ ap (λ us. us ++ more) (sym e), ends)

module _ (reads_next : ReadsNext) (sys : System) (a : Actor) (way : Way) (inner : Bool) (rest : CallState) (later : Later) (c : Config) where
  -- what is left of a call behind a record, with the point of a post
  abbrev pub CallStateBehind : Told → CallState → List Piece → Type 0
  CallStateBehind t more ps =
      MatchBool (inner && is_post t.body) ((us : List Piece) × (ps ≡ Point ∷ us) × CallStateGoes sys a way true more later c us) (CallStateGoes sys a way inner more later c ps)

  -- a record at the front of a call that isn't whole
  pub rest-first : (p : Piece) (ps : List Piece) → stage_answer rest.stage ≡ None → CallStateGoes sys a way inner rest later c (p ∷ ps)
      → (t : Told) × (more : CallState) × (p ≡ Tell t) × (call_state_next sys a.o (moment_of way).entry rest t ≡ Some more) × CallStateBehind t more ps
  unfolding CallStateGoes IsRestOfCall
  rest-first p ps part (answer, [], kept, reads, k) =
      let wrong : stage_answer rest.stage ≡ Some answer = ap (λ (r : CallState). stage_answer r.stage) reads in absurd (cc)
  rest-first p ps part (answer, t ∷ g, kept, reads, k) =
      let step = (reads_next sys a.o (moment_of way).entry rest answer kept t g).0 reads in
      by step.0 step.1 step.2 (inner-first inner t g)
    where
      by : (more : CallState) → call_state_next sys a.o (moment_of way).entry rest t ≡ Some more → IsRestOfCall sys a.o (moment_of way).entry more answer kept g
          → ((inner && is_post t.body ≡ true) × (inner_pieces inner (t ∷ g) ≡ Tell t ∷ Point ∷ inner_pieces true g))
          ⊎ ((inner && is_post t.body ≡ false) × (inner_pieces inner (t ∷ g) ≡ Tell t ∷ inner_pieces inner g))
          → (t : Told) × (more : CallState) × (p ≡ Tell t) × (call_state_next sys a.o (moment_of way).entry rest t ≡ Some more) × CallStateBehind t more ps
      by more is left (inl (post, shape)) =
          let cut = strip way later c answer kept (is_assertion answer) (Tell t) p (Point ∷ inner_pieces true g) (inner_pieces inner (t ∷ g)) ps shape k in
          let at = point way later c answer kept (is_assertion answer) (inner_pieces true g) ps cut.1 in
          (t, more, cut.0, is, rw post (at.0, at.1, (answer, g, kept, left, at.2)))
      by more is left (inr (other, shape)) =
          let cut = strip way later c answer kept (is_assertion answer) (Tell t) p (inner_pieces inner g) (inner_pieces inner (t ∷ g)) ps shape k in
          (t, more, cut.0, is, rw other (answer, g, kept, left, cut.1))

  -- and back
  pub first-rest : (t : Told) (more : CallState) (ps : List Piece) → call_state_next sys a.o (moment_of way).entry rest t ≡ Some more → CallStateBehind t more ps
      → CallStateGoes sys a way inner rest later c (Tell t ∷ ps)
  unfolding CallStateGoes
  first-rest t more ps is h = by (inner && is_post t.body) refl h
    where
      by : (b : Bool) → (inner && is_post t.body) ≡ b
          → MatchBool b ((us : List Piece) × (ps ≡ Point ∷ us) × CallStateGoes sys a way true more later c us) (CallStateGoes sys a way inner more later c ps)
          → CallStateGoes sys a way inner rest later c (Tell t ∷ ps)
      by true post (us, e, (answer, g, kept, left, k)) = at (inner-first inner t g)
        where
          at : ((inner && is_post t.body ≡ true) × (inner_pieces inner (t ∷ g) ≡ Tell t ∷ Point ∷ inner_pieces true g))
              ⊎ ((inner && is_post t.body ≡ false) × (inner_pieces inner (t ∷ g) ≡ Tell t ∷ inner_pieces inner g))
              → CallStateGoes sys a way inner rest later c (Tell t ∷ ps)
          at (inl (_, shape)) =
              let one : Tail way later c answer kept (is_assertion answer) (Point ∷ inner_pieces true g) ps =
              subst (Tail way later c answer kept (is_assertion answer) (Point ∷ inner_pieces true g)) (sym e)
              (join way later c answer kept (is_assertion answer) Point (inner_pieces true g) (Point ∷ inner_pieces true g) us refl k) in (
                answer,
                t ∷ g,
                kept,
                (reads_next sys a.o (moment_of way).entry rest answer kept t g).1 (more, is, left),
                join way later c answer kept (is_assertion answer) (Tell t) (Point ∷ inner_pieces true g) (inner_pieces inner (t ∷ g)) ps shape one,
              )
          at (inr (other, shape)) = absurd (cc)
      by false other (answer, g, kept, left, k) = at (inner-first inner t g)
        where
          at : ((inner && is_post t.body ≡ true) × (inner_pieces inner (t ∷ g) ≡ Tell t ∷ Point ∷ inner_pieces true g))
              ⊎ ((inner && is_post t.body ≡ false) × (inner_pieces inner (t ∷ g) ≡ Tell t ∷ inner_pieces inner g))
              → CallStateGoes sys a way inner rest later c (Tell t ∷ ps)
          at (inl (post, shape)) = absurd (cc)
          at (inr (_, shape)) = (
            answer,
            t ∷ g,
            kept,
            (reads_next sys a.o (moment_of way).entry rest answer kept t g).1 (more, is, left),
            join way later c answer kept (is_assertion answer) (Tell t) (inner_pieces inner g) (inner_pieces inner (t ∷ g)) ps shape k,
          )

module _ (begin : ReadsBegin) (whole : ReadsWhole) (reads_next : ReadsNext) (sys : System) (a : Actor) (aim : Aim) where
  into-noted : (way : Way) (ends : Bool) (leaf : ℕ) (ts : List Task) (c : Config) (ps : List Piece)
      → NoteEnds way ends (LeftGoes sys a aim way ts leaf c) ps → Goes sys a aim (behind_note a way ends leaf ts c) ps
  into-noted way true leaf ts c ps h = into-done sys a aim way leaf ts (tasks_state a way leaf ts) (λ d zs k. into-settle begin whole sys a aim way leaf ts d zs k) c ps h
  into-noted way false leaf ts c ps h = into-settle begin whole sys a aim way leaf ts c ps h

  pub back-noted : (way : Way) (ends : Bool) (leaf : ℕ) (ts : List Task) (c : Config) (ps : List Piece)
      → Goes sys a aim (behind_note a way ends leaf ts c) ps → NoteEnds way ends (LeftGoes sys a aim way ts leaf c) ps
  back-noted way true leaf ts c ps h = back-done sys a aim way leaf ts (tasks_state a way leaf ts) (λ d zs k. back-settle begin sys a aim way leaf ts d zs k) c ps h
  back-noted way false leaf ts c ps h = back-settle begin sys a aim way leaf ts c ps h

  into-posted : (b : Bool) (way : Way) (inner : Bool) (rest : CallState) (leaf : ℕ) (ts : List Task) (c : Config) (ps : List Piece)
      → MatchBool b ((more : List Piece) × (ps ≡ Point ∷ more) × CallStateGoes sys a way true rest (LeftGoes sys a aim way ts leaf) c more) (CallStateGoes sys a way inner rest (LeftGoes sys a aim way ts leaf) c ps)
      → Goes sys a aim (call_told b a way inner rest leaf ts c) ps
  unfolding Goes
  into-posted true way inner rest leaf ts c ps h = h
  into-posted false way inner rest leaf ts c ps h =
      into-resume sys a aim way leaf ts (tasks_state a way leaf ts) whole (λ d zs k. into-settle begin whole sys a aim way leaf ts d zs k) inner rest c ps h

  pub back-posted : (b : Bool) (way : Way) (inner : Bool) (rest : CallState) (leaf : ℕ) (ts : List Task) (c : Config) (ps : List Piece)
      → Goes sys a aim (call_told b a way inner rest leaf ts c) ps
      → MatchBool b ((more : List Piece) × (ps ≡ Point ∷ more) × CallStateGoes sys a way true rest (LeftGoes sys a aim way ts leaf) c more) (CallStateGoes sys a way inner rest (LeftGoes sys a aim way ts leaf) c ps)
  unfolding Goes
  back-posted true way inner rest leaf ts c ps h = h
  back-posted false way inner rest leaf ts c ps h =
      back-resume sys a aim way leaf ts (tasks_state a way leaf ts) (λ d zs k. back-settle begin sys a aim way leaf ts d zs k) inner rest c ps h

  into-step : (e : Entry) (ev : Event) (c : Config) (ps : List Piece) → StepGoes sys a aim ev e c ps → Goes sys a aim (step_state a e ev c) ps
  unfolding StepGoes step_state
  into-step e ev c ps h =
      into-settle begin whole sys a aim (Stepping ev e) (step_plan a.chart c.leaf (names_of a c ev) ev.sig).leaf (step_plan a.chart c.leaf (names_of a c ev) ev.sig).tasks c ps h

  pub back-step : (e : Entry) (ev : Event) (c : Config) (ps : List Piece) → Goes sys a aim (step_state a e ev c) ps → StepGoes sys a aim ev e c ps
  unfolding StepGoes step_state
  back-step e ev c ps h =
      back-settle begin sys a aim (Stepping ev e) (step_plan a.chart c.leaf (names_of a c ev) ev.sig).leaf (step_plan a.chart c.leaf (names_of a c ev) ev.sig).tasks c ps h

  -- what comes first is what a piece makes of the state
  pub goes-next : (s : State) (p : Piece) (ps : List Piece) → IsCallUnderWay s → Goes sys a aim s (p ∷ ps) → Behind sys a aim s p ps
  unfolding Goes state_next tell_next point_next
  goes-next (Between c) p ps under h = by (took-goes sys a aim c p ps h)
    where
      by : (f l m : ℕ) × (e : Entry) × (ev : Event) × (p ≡ Tell (told_took f l m e ev)) × StepGoes sys a aim ev e c ps → Behind sys a aim (Between c) p ps
      by (f, l, m, e, ev, is, k) =
          subst (λ q. Behind sys a aim (Between c) q ps) (sym is) (step_state a e ev c, refl, into-step e ev c ps k)
  goes-next (Telling way n ends ts leaf c) p ps under (rest, e, k) =
      let is : p ≡ Tell (plain (body_of_note n)) = first-same e in
      let others : ps ≡ rest = rest-same e in
      subst (λ q. Behind sys a aim (Telling way n ends ts leaf c) q ps) (sym is)
      (behind_note a way ends leaf ts c, rw (is-tells n) refl, into-noted way ends leaf ts c ps (subst (NoteEnds way ends (LeftGoes sys a aim way ts leaf c)) (sym others) k))
  goes-next (Raising way ceiling ts leaf c) p ps under (former, (rest, e, k)) =
      let is : p ≡ Tell (raised (max former ceiling) former) = first-same e in
      let others : ps ≡ rest = rest-same e in
      subst (λ q. Behind sys a aim (Raising way ceiling ts leaf c) q ps) (sym is)
      (tasks_state a way leaf ts (record c { former = former }), rw (is-raised ceiling former) refl, into-settle begin whole sys a aim way leaf ts (record c { former = former }) ps (subst (LeftGoes sys a aim way ts leaf (record c { former = former })) (sym others) k))
  goes-next (AtPoint ev e ts leaf c) p ps under (rest, is, k) =
      let others : ps ≡ rest = rest-same is in
      subst (λ q. Behind sys a aim (AtPoint ev e ts leaf c) q ps) (sym (first-same is))
      (tasks_state a (Stepping ev e) leaf ts c, refl, into-settle begin whole sys a aim (Stepping ev e) leaf ts c ps (subst (LeftGoes sys a aim (Stepping ev e) ts leaf c) (sym others) k))
  goes-next (InCall way inner rest ts leaf c) p ps under h =
      by (rest-first reads_next sys a way inner rest (LeftGoes sys a aim way ts leaf) c p ps under h)
    where
      by : (t : Told) × (more : CallState) × (p ≡ Tell t) × (call_state_next sys a.o (moment_of way).entry rest t ≡ Some more)
          × CallStateBehind reads_next sys a way inner rest (LeftGoes sys a aim way ts leaf) c t more ps → Behind sys a aim (InCall way inner rest ts leaf c) p ps
      by (t, more, is, left, k) =
          subst (λ q. Behind sys a aim (InCall way inner rest ts leaf c) q ps) (sym is) (
            call_told (inner && is_post t.body) a way inner more leaf ts (record c { kept = more.kept }),
            rw left refl,
            into-posted (inner && is_post t.body) way inner more leaf ts (record c { kept = more.kept }) ps k,
          )
  goes-next (AtPost way rest ts leaf c) p ps under (more, is, k) =
      let others : ps ≡ more = rest-same is in
      subst (λ q. Behind sys a aim (AtPost way rest ts leaf c) q ps) (sym (first-same is)) (
        resume way true rest leaf ts (tasks_state a way leaf ts) c,
        refl,
        into-resume sys a aim way leaf ts (tasks_state a way leaf ts) whole (λ d zs k. into-settle begin whole sys a aim way leaf ts d zs k) true rest c ps
            (subst (CallStateGoes sys a way true rest (LeftGoes sys a aim way ts leaf) c) (sym others) k),
      )
  goes-next (Releasing e c) p ps under (rel, rest, inl (d, left, is), split, k) =
      let whole_list : p ∷ ps ≡ Tell (dropped e.pool e.block d e.name (suc left)) ∷ rest = split ∙ ap (λ zs. tell zs ++ rest) is in
      let others : ps ≡ rest = rest-same whole_list in
      subst (λ q. Behind sys a aim (Releasing e c) q ps) (sym (first-same whole_list))
      (Between c, rw (is-dropped e d (suc left)) refl, subst (StepsGo sys a aim c) (sym others) k)
  goes-next (Releasing e c) p ps under (rel, rest, inr (d, n, is), split, k) =
      let whole_list : p ∷ ps ≡ Tell (dropped e.pool e.block d e.name 0) ∷ Tell (plain (item.Back e.pool n e.block (d + 1))) ∷ rest = split ∙ ap (λ zs. tell zs ++ rest) is in
      subst (λ q. Behind sys a aim (Releasing e c) q ps) (sym (first-same whole_list))
      (Returning e.pool e.block d c, rw (is-dropped e d 0) refl, (n, (rest, rest-same whole_list, k)))
  goes-next (Returning p b d c) q ps under (n, (rest, is, k)) =
      let others : ps ≡ rest = rest-same is in
      subst (λ r. Behind sys a aim (Returning p b d c) r ps) (sym (first-same is))
      (Between c, rw (is-back p b d n) refl, subst (StepsGo sys a aim c) (sym others) k)
  goes-next Asserted p ps under h = absurd (cc)
