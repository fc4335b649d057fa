-- What may come after a piece may come with it.
use Rattle.std.proofs.Common.{◌≡◌, ℕ, zero, suc, ◌+◌, true, ◌&&◌, List, [], ◌∷◌, ◌++◌, refl, sym, ◌∙◌, ap, subst, inl, inr, Some}
use Rattle.std.proofs.lemmas.Option.{none-some}
use Rattle.qp_model.specs.declared.systems.System.{System}
use Rattle.qp_model.specs.declared.bodies.Entry.{Entry}
use Rattle.qp_model.specs.declared.bodies.Body.TheVariants as item
use Rattle.qp_model.specs.Told.{Told, Event, plain, dropped}
use Rattle.qp_model.specs.Groups.{is_post}
use Rattle.qp_model.specs.Shapes.{Releases}
use Rattle.qp_model.specs.Pieces.{Piece, Tell, Point, tell}
use Rattle.qp_model.specs.Acts.{Actor}
use Rattle.qp_check_calls.specs.CallState.{CallState}
use Rattle.qp_check_calls.specs.CallStateNext.{call_state_next}
use Rattle.qp_check_calls.specs.CallStateLaws.{ReadsBegin, ReadsWhole, ReadsNext}
use Rattle.qp_check_course.specs.Note.{tells, raised_from, entry_and_event_taken, dropped_by, comes_back}
use Rattle.qp_check_course.specs.Goes.{Aim, Stepping, moment_of, StepsGo, LeftGoes}
use Rattle.qp_check_course.specs.Machine.{State, Between, Telling, Raising, AtPoint, InCall, AtPost, Releasing, Returning, Asserted, Goes, resume, tasks_state, behind_note, call_told, step_state, behind_dec, tell_next, point_next, state_next}
use Rattle.qp_check_course.proofs.NoteLemmas.{record_of, tells-is, raised-is, taken-is, dropped-is, back-is}
use Rattle.qp_check_course.proofs.CourseLemmas.{goes-took}
use Rattle.qp_check_course.proofs.SettleLemmas.{back-settle, back-resume}
use Rattle.qp_check_course.proofs.NextLemmas.{first-rest, back-noted, back-posted, back-step}
use Rattle.qp_model.proofs.KernelLaneLemmas.{granted}
use Rattle.qp_model.proofs.AbleLemmas.{some-same}
use Rattle.qp_model.proofs.ListLemmas.{mapped}

module _ (begin : ReadsBegin) (whole : ReadsWhole) (reads_next : ReadsNext) (sys : System) (a : Actor) (aim : Aim) where
  pub next-goes : (s : State) (p : Piece) (ps : List Piece) (later : State) → state_next sys a s p ≡ Some later → Goes sys a aim later ps → Goes sys a aim s (p ∷ ps)
  unfolding Goes state_next tell_next point_next
  next-goes (Between c) (Tell t) ps later e h =
      let at = mapped (λ (x : Entry × Event). step_state a x.0 x.1 c) (entry_and_event_taken t.body t.known) later e in
      let entry : Entry = at.0.0 in
      let event : Event = at.0.1 in
      let took = taken-is entry event t.body t.known at.1 in
      subst (λ q. StepsGo sys a aim c (Tell q ∷ ps)) (sym took.3)
      (goes-took sys a aim c took.0 took.1 took.2 entry event ps (back-step begin whole reads_next sys a aim entry event c ps (subst (λ s. Goes sys a aim s ps) (sym at.2) h)))
  next-goes (Telling way n ends ts leaf c) (Tell t) ps later e h =
      let at = granted (tells n t.body t.known) (behind_note a way ends leaf ts c) later e in
      (ps, ap (λ q. Tell q ∷ ps) (tells-is n t.body t.known at.0), back-noted begin whole reads_next sys a aim way ends leaf ts c ps (subst (λ s. Goes sys a aim s ps) (sym at.1) h))
  next-goes (Raising way ceiling ts leaf c) (Tell t) ps later e h =
      let at = mapped (λ former. tasks_state a way leaf ts (record c { former = former })) (raised_from ceiling t.body t.known) later e in
      let former : ℕ = at.0 in (
        former,
        (
          ps,
          ap (λ q. Tell q ∷ ps) (raised-is ceiling former t.body t.known at.1),
          back-settle begin sys a aim way leaf ts (record c { former = former }) ps (subst (λ s. Goes sys a aim s ps) (sym at.2) h),
        ),
      )
  next-goes (AtPoint ev x ts leaf c) (Tell t) ps later e h = absurd (none-some _ e)
  next-goes (InCall way inner rest ts leaf c) (Tell t) ps later e h =
      let at = mapped (λ more. call_told (inner && is_post t.body) a way inner more leaf ts (record c { kept = more.kept })) (call_state_next sys a.o (moment_of way).entry rest t) later e in
      let more : CallState = at.0 in
      first-rest reads_next sys a way inner rest (LeftGoes sys a aim way ts leaf) c t more ps at.1
      (back-posted begin whole reads_next sys a aim (inner && is_post t.body) way inner more leaf ts (record c { kept = more.kept }) ps (subst (λ s. Goes sys a aim s ps) (sym at.2) h))
  next-goes (AtPost way rest ts leaf c) (Tell t) ps later e h = absurd (none-some _ e)
  next-goes (Releasing x c) (Tell t) ps later e h =
      let at = mapped (λ (y : ℕ × ℕ). behind_dec x y.0 y.1 c) (dropped_by x t.body t.known) later e in
      let is = dropped-is x at.0 t.body t.known at.1 in
      by at.0.0 at.0.1 is (subst (λ s. Goes sys a aim s ps) (sym at.2) h)
    where
      by : (d left : ℕ) → record_of t.body t.known ≡ dropped x.pool x.block d x.name left → Goes sys a aim (behind_dec x d left c) ps
          → (rel : List Told) × (rest : List Piece) × Releases x.pool x.block x.name rel × (Tell t ∷ ps ≡ tell rel ++ rest) × StepsGo sys a aim c rest
      by d zero is (n, (rest, e, k)) = (
        dropped x.pool x.block d x.name 0 ∷ plain (item.Back x.pool n x.block (d + 1)) ∷ [],
        rest,
        inr (d, n, refl),
        ap (λ q. Tell q ∷ ps) is ∙ ap (λ us. Tell (dropped x.pool x.block d x.name 0) ∷ us) e,
        k,
      )
      by d (suc left) is k = (dropped x.pool x.block d x.name (suc left) ∷ [], ps, inl (d, left, refl), ap (λ q. Tell q ∷ ps) is, k)
  next-goes (Returning p b d c) (Tell t) ps later e h =
      let at = granted (comes_back p b d t.body t.known) (Between c) later e in
      let is = back-is p b d t.body t.known at.0 in
      let k : StepsGo sys a aim c ps = subst (λ s. Goes sys a aim s ps) (sym at.1) h in
      (is.0, (ps, ap (λ q. Tell q ∷ ps) is.1, k))
  next-goes Asserted (Tell t) ps later e h = absurd (none-some _ e)
  next-goes (AtPoint ev x ts leaf c) Point ps later e h =
      let same : tasks_state a (Stepping ev x) leaf ts c ≡ later = some-same e in
      (ps, refl, back-settle begin sys a aim (Stepping ev x) leaf ts c ps (subst (λ s. Goes sys a aim s ps) (sym same) h))
  next-goes (AtPost way rest ts leaf c) Point ps later e h =
      let same : resume way true rest leaf ts (tasks_state a way leaf ts) c ≡ later = some-same e in
      (ps, refl, back-resume sys a aim way leaf ts (tasks_state a way leaf ts) (λ d zs k. back-settle begin sys a aim way leaf ts d zs k) true rest c ps (subst (λ s. Goes sys a aim s ps) (sym same) h))
  next-goes s Point ps later e h = absurd (none-some _ e)
