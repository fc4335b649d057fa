-- Where a course may end, and that each state has an end.
use Rattle.std.proofs.Common.{◌≡◌, ℕ, suc, ◌+◌, Bool, true, false, ◌&&◌, List, [], ◌∷◌, ◌++◌, refl, ◌∙◌, ap, inl, inr, ◌⊎◌, Some, None}
use Rattle.std.specs.Prelude.{max}
use Rattle.std.specs.Bool.{MatchBool}
use Rattle.std.proofs.lemmas.Bool.{false≢true}
use Rattle.qp_chart.specs.Task.{Task}
use Rattle.qp_model.specs.declared.systems.System.{System}
use Rattle.qp_model.specs.declared.bodies.Entry.{Entry}
use Rattle.qp_model.specs.declared.bodies.Body.TheVariants as item
use Rattle.qp_model.specs.Told.{Told, plain, raised, dropped}
use Rattle.qp_model.specs.Groups.{is_post}
use Rattle.qp_model.specs.Calls.{Answer, ok_after, is_assertion}
use Rattle.qp_model.specs.Pieces.{Piece, Tell, Point, tell}
use Rattle.qp_model.specs.Acts.{Config, Actor, Later}
use Rattle.qp_check_calls.specs.CallState.{CallState}
use Rattle.qp_check_calls.specs.CallStateNext.{stage_answer}
use Rattle.qp_check_calls.specs.Reads.{IsRestOfCall}
use Rattle.qp_check_calls.specs.CallStateLaws.{OpenReads}
use Rattle.qp_check_course.specs.Note.{body_of_note}
use Rattle.qp_check_course.specs.Goes.{anywhere, Way, Starting, Stepping, moment_of, Ends, LeftGoes}
use Rattle.qp_check_course.specs.Machine.{State, Between, Telling, Raising, AtPoint, InCall, AtPost, Releasing, Returning, Asserted, inner_pieces, CallStateGoes, NoteEnds, Goes, is_course_end}
use Rattle.qp_check_course.specs.Ready.{AreTasksAble, IsWithin, CanGoOn, MayGoOnFrom}
use Rattle.qp_check_course.proofs.CourseLemmas.{steps-none}
use Rattle.qp_check_course.proofs.SomeLemmas.{left-some}
use Rattle.qp_check_course.proofs.NextLemmas.{inner-first}

-- records of a call that is under way are some
rest-some : (sys : System) (a : Actor) (way : Way) (inner : Bool) (rest : CallState) (later : Later) (c : Config) → stage_answer rest.stage ≡ None
    → CallStateGoes sys a way inner rest later c [] → ⊥
unfolding CallStateGoes IsRestOfCall
rest-some sys a way inner rest later c part (answer, [], kept, reads, k) =
    let wrong : stage_answer rest.stage ≡ Some answer = ap (λ (r : CallState). stage_answer r.stage) reads in cc
rest-some sys a way inner rest later c part (answer, t ∷ g, kept, reads, k) = by (is_assertion answer) (shape (inner-first inner t g)) k
  where
    shape : ((inner && is_post t.body ≡ true) × (inner_pieces inner (t ∷ g) ≡ Tell t ∷ Point ∷ inner_pieces true g))
        ⊎ ((inner && is_post t.body ≡ false) × (inner_pieces inner (t ∷ g) ≡ Tell t ∷ inner_pieces inner g))
        → (zs : List Piece) × (inner_pieces inner (t ∷ g) ≡ Tell t ∷ zs)
    shape (inl k) = (Point ∷ inner_pieces true g, k.1)
    shape (inr k) = (inner_pieces inner g, k.1)

    by : (b : Bool) → (zs : List Piece) × (inner_pieces inner (t ∷ g) ≡ Tell t ∷ zs)
        → MatchBool b ([] ≡ inner_pieces inner (t ∷ g)) ((more : List Piece) × ([] ≡ inner_pieces inner (t ∷ g) ++ more) × Ends way (later (record c { ok = ok_after answer c.ok; kept = kept })) more) → ⊥
    by true (zs, e) k = let wrong : [] ≡ Tell t ∷ zs = k ∙ e in cc
    by false (zs, e) (more, k, ends) = let wrong : [] ≡ Tell t ∷ (zs ++ more) = k ∙ ap (λ us. us ++ more) e in cc

-- nothing comes only where the course may end
pub goes-end : (sys : System) (a : Actor) (s : State) → MayGoOnFrom sys a s → Goes sys a anywhere s [] → is_course_end s ≡ true
unfolding Goes
goes-end sys a (Between c) ready h = refl
goes-end sys a (Telling way n ends ts leaf c) ready (rest, e, k) = absurd (cc)
goes-end sys a (Raising way ceiling ts leaf c) ready (former, (rest, e, k)) = absurd (cc)
goes-end sys a (AtPoint ev e ts leaf c) ready (rest, is, k) = absurd (cc)
goes-end sys a (InCall way inner rest ts leaf c) ready h = absurd (rest-some sys a way inner rest (LeftGoes sys a anywhere way ts leaf) c ready.0 h)
goes-end sys a (AtPost way rest ts leaf c) ready (more, is, k) = absurd (cc)
goes-end sys a (Releasing e c) ready (rel, rest, inl (d, left, is), split, k) =
    let wrong : [] ≡ Tell (dropped e.pool e.block d e.name (suc left)) ∷ rest = split ∙ ap (λ zs. tell zs ++ rest) is in absurd (cc)
goes-end sys a (Releasing e c) ready (rel, rest, inr (d, n, is), split, k) =
    let wrong : [] ≡ Tell (dropped e.pool e.block d e.name 0) ∷ Tell (plain (item.Back e.pool n e.block (d + 1))) ∷ rest = split ∙ ap (λ zs. tell zs ++ rest) is in absurd (cc)
goes-end sys a (Returning p b d c) ready (n, (rest, is, k)) = absurd (cc)
goes-end sys a Asserted ready h = refl

-- and there it may
pub end-goes : (sys : System) (a : Actor) (s : State) → is_course_end s ≡ true → Goes sys a anywhere s []
unfolding Goes
end-goes sys a (Between c) h = steps-none sys a anywhere c tt
end-goes sys a Asserted h = refl
end-goes sys a s h = absurd (false≢true h)

module _ (open_reads : OpenReads) (sys : System) (a : Actor) where
  -- what comes after the end of an action
  ends-some : (way : Way) (ts : List Task) (leaf : ℕ) (c : Config) → AreTasksAble sys way ts → IsWithin a c → (ps : List Piece) × Ends way (LeftGoes sys a anywhere way ts leaf c) ps
  ends-some way ts leaf c able within = by way (left-some sys a way ts leaf c able within)
    where
      by : (w : Way) → (ps : List Piece) × LeftGoes sys a anywhere way ts leaf c ps → (ps : List Piece) × Ends w (LeftGoes sys a anywhere way ts leaf c) ps
      by Starting h = h
      by (Stepping ev e) h = (Point ∷ h.0, (h.0, refl, h.1))

  note-some : (way : Way) (ends : Bool) (ts : List Task) (leaf : ℕ) (c : Config) → AreTasksAble sys way ts → IsWithin a c
      → (ps : List Piece) × NoteEnds way ends (LeftGoes sys a anywhere way ts leaf c) ps
  note-some way true ts leaf c able within = ends-some way ts leaf c able within
  note-some way false ts leaf c able within = left-some sys a way ts leaf c able within

  rest-goes : (way : Way) (inner : Bool) (rest : CallState) (ts : List Task) (leaf : ℕ) (c : Config) → AreTasksAble sys way ts → CanGoOn sys a way rest
      → (ps : List Piece) × CallStateGoes sys a way inner rest (LeftGoes sys a anywhere way ts leaf) c ps
  unfolding CallStateGoes
  rest-goes way inner rest ts leaf c able can =
      let some = open_reads sys a.o (moment_of way).entry rest can.some in
      by some.0 some.1 some.2 some.3 (is_assertion some.0) refl
    where
      by : (answer : Answer) (kept : List Entry) (g : List Told) → IsRestOfCall sys a.o (moment_of way).entry rest answer kept g → (b : Bool) → is_assertion answer ≡ b
          → (ps : List Piece) × CallStateGoes sys a way inner rest (LeftGoes sys a anywhere way ts leaf) c ps
      by answer kept g reads true is = (inner_pieces inner g, (answer, g, kept, reads, rw is refl))
      by answer kept g reads false is =
          let after = ends-some way ts leaf (record c { ok = ok_after answer c.ok; kept = kept }) able (can.within answer kept g reads) in
          (inner_pieces inner g ++ after.0, (answer, g, kept, reads, rw is (after.0, refl, after.1)))

  -- from a state that can go on something may come that ends the course
  pub goes-some : (s : State) → MayGoOnFrom sys a s → (ps : List Piece) × Goes sys a anywhere s ps
  unfolding Goes
  goes-some (Between c) ready = ([], steps-none sys a anywhere c tt)
  goes-some (Telling way n ends ts leaf c) ready =
      let rest = note-some way ends ts leaf c ready.0 ready.1 in (Tell (plain (body_of_note n)) ∷ rest.0, (rest.0, refl, rest.1))
  goes-some (Raising way ceiling ts leaf c) ready =
      let rest = left-some sys a way ts leaf (record c { former = 0 }) ready.0 ready.1 in (Tell (raised (max 0 ceiling) 0) ∷ rest.0, (0, (rest.0, refl, rest.1)))
  goes-some (AtPoint ev e ts leaf c) ready =
      let rest = left-some sys a (Stepping ev e) ts leaf c ready.0 ready.1 in (Point ∷ rest.0, (rest.0, refl, rest.1))
  goes-some (InCall way inner rest ts leaf c) ready = rest-goes way inner rest ts leaf c ready.2 ready.1
  goes-some (AtPost way rest ts leaf c) ready =
      let more = rest-goes way true rest ts leaf c ready.1 ready.0 in (Point ∷ more.0, (more.0, refl, more.1))
  goes-some (Releasing e c) ready =
      (Tell (dropped e.pool e.block 0 e.name 1) ∷ [], (dropped e.pool e.block 0 e.name 1 ∷ [], [], inl (0, 0, refl), refl, steps-none sys a anywhere c tt))
  goes-some (Returning p b d c) ready = (Tell (plain (item.Back p 0 b (d + 1))) ∷ [], (0, ([], refl, steps-none sys a anywhere c tt)))
  goes-some Asserted ready = ([], refl)
