-- An object without a step under way goes on by an entry that it takes; and a list that is whole goes on by nothing.
use Rattle.std.proofs.Common.{◌≡◌, ◌∙◌, ℕ, zero, suc, ◌+◌, ◌==◌, nat_lt, Bool, true, false, not, ◌&&◌, cond, List, [], ◌∷◌, ◌++◌, length, Some, None, refl, sym, ap, subst, inl, inr, ◌⊎◌, arith}
use Rattle.std.proofs.lemmas.Bool.{ne_eqb, or_parts}
use Rattle.std.proofs.lemmas.Bool.Decides.{nat_tests}
use Rattle.std.specs.declared.option.Option.{Option}
use Rattle.std.specs.Option.{option_map, option_map_or, option_and_then, unwrap_or}
use Rattle.qp_model.specs.declared.systems.System.{System}
use Rattle.qp_model.specs.declared.bodies.Entry.{Entry}
use Rattle.qp_model.specs.declared.bodies.Body.{Body}
use Rattle.qp_model.specs.declared.bodies.Body.TheVariants as body
use Rattle.qp_model.specs.Record.{Item, entry}
use Rattle.qp_model.specs.Told as told_specs
use Rattle.qp_model.specs.Told.{Told, Known}
use Rattle.qp_model.specs.Calls as call
use Rattle.qp_model.specs.Calls.{Call, is_assertion}
use Rattle.qp_model.specs.Knowing.{Facts, told}
use Rattle.qp_model.specs.Ends.{is_spill, spills_in}
use Rattle.qp_model.specs.Kernels.{qk, has_one_order, may_try}
use Rattle.qp_model.specs.Parts.{is_static}
use Rattle.qp_model.specs.Pieces.{Piece, Tell}
use Rattle.qp_model.specs.KernelLane.{Drops, role_of, Setting, Upcoming, Inside, Chosen, Ended, Again, Over, Reading, looking_at, lane_next, lane_on}
use Rattle.qp_model.specs.Acts.{Actor}
use Rattle.qp_model.specs.Points.{pieces_at, pieces_in, is_look, begins_row}
use Rattle.qp_check_calls.specs.CallState.{Goal, ToDeferred, CallStage, Begins, Puts, Flushes, Whole, CallState}
use Rattle.qp_check_calls.specs.CallStateNext.{put_next, queue_next, set_next, new_next, block_next, event_next, now_next, defer_next, recall_next, flush_next, arm_next, rearm_next, begin_next, stage_next, stage_answer, list_after, call_state_next}
use Rattle.qp_check_ends.specs.TickState.{Reaching, Fired, Vain, tick_next}
use Rattle.qp_check_ends.specs.SettleState.{Before, Seeing, settle_next}
use Rattle.qp_check_ends.specs.Underway.{Underway, Calling, Ticking, Settling, underway_next, underway_done, underway_asserted, underway_tried}
use Rattle.qp_check_course.specs.Note.{Note, tells, note_in, entry_and_event_taken, raised_from, dropped_by, comes_back}
use Rattle.qp_check_course.specs.Goes.{moment_of}
use Rattle.qp_check_course.specs.Machine.{State, Between, Telling, Raising, InCall, Releasing, Returning, Asserted, tell_next, is_course_end, expects_point}
use Rattle.qp_unique.proofs.KernelLemmas.{Slot, Starts, Runs, Releases, IsLook, IsSeen, IsTook, IsSpent, IsRest, Went, IsDone, GoesOn, no-threads, slot-of}
use Rattle.qp_unique.proofs.StackLemmas.{NotOf, PlaceAway, Away, away-looked}
use Rattle.qp_model.proofs.KernelLaneLemmas.{granted}
use Rattle.qp_model.proofs.ListLemmas.{mapped}

module _ (w : Facts) (s : Setting) (p : ℕ) (some : p ≡ 0 → ⊥) where
  -- its pieces are none, or begin with an entry that it takes
  abbrev pub BeginsTook : List Piece → Type 0
  BeginsTook ps = (ps ≡ []) ⊎ ((c f l m : ℕ) × (e : Entry) × (rest : List Piece) × (ps ≡ Tell (told w p c (body.Took f l m e)) ∷ rest))

  row-none : (k : Reading) (looks : Bool) → Away p k → begins_row p k.place k.running looks ≡ false
  row-none k looks away = by k.place k.running away.running looks
    where
      by : (place : Upcoming) (os : List ℕ) → NotOf os p → (looks : Bool) → begins_row p place os looks ≡ false
      by Inside [] h looks = refl
      by Inside (q ∷ outer) h true = ne_eqb q p h.0
      by Inside (q ∷ outer) h false = refl
      by _ os h looks = refl

  other-none : (k : Reading) (i : Item) → Away p k → (i.of ≡ p → ⊥) → pieces_at w p k i ≡ []
  unfolding pieces_at
  other-none k i away other = rw (ne_eqb i.of p other, row-none k (is_look i.body) away) refl

  abbrev Goes : Reading → Reading → Item → Type 0
  Goes k next i =
      ((pieces_at w p k i ≡ []) × Away p next) ⊎ ((c f l m : ℕ) × (e : Entry) × (pieces_at w p k i ≡ Tell (told w p c (body.Took f l m e)) ∷ []))

  zero-not : (i : Item) (b : Body) → i ≡ record { of = 0; body = b } → i.of ≡ p → ⊥
  zero-not i b is e = some (sym e ∙ ap (λ (x : Item). x.of) is)

  away-next : (k next : Reading) (i : Item) → Away p k → Slot s k next i → Goes k next i
  unfolding pieces_at
  away-next k next i away (Starts q others us of own run place left looks) = absurd (let wrong : [] ≡ q ∷ others = sym away.started ∙ us in cc)
  away-next k next i away (Runs q outer none at run of own went) =
      let not : NotOf (q ∷ outer) p = subst (λ os. NotOf os p) run away.running in
      inl (other-none k i away (λ e. not.0 (sym of ∙ e)), by not went)
    where
      by : NotOf (q ∷ outer) p → Went k next q outer (role_of i.body) → Away p next
      by not (IsDone ends is) = rw is (record { started = away.started; running = not.1; place = not.0 })
      by not (GoesOn us rs pl looks) = record { started = us ∙ away.started; running = rw rs away.running; place = rw pl away.place }
  away-next k next i away (Releases q none at of role is) =
      let not : PlaceAway p (Ended q) = subst (PlaceAway p) at away.place in
      inl (other-none k i away (λ e. not (sym of ∙ e)), subst (Away p) is away)
  away-next k next i away (IsLook none may at is) =
      inl (other-none k i away (zero-not i _ at), subst (Away p) is (away-looked s (record k { looks = k.looks + 1 }) _ p none away.running))
  away-next k next i away (IsSeen q others f l m none at item is) = inl (other-none k i away (zero-not i _ item), subst (Away p) is (by (nat_lt m (f + l))))
    where
      by : (b : Bool) → Away p (cond b (record k { place = Chosen q }) (looking_at s k others))
      by true = record { started = none; running = away.running; place = tt }
      by false = away-looked s k others p none away.running
  away-next k next i away (IsTook q f l m e none at item is) = by (q == p) refl
    where
      by : (b : Bool) → (q == p) ≡ b → Goes k next i
      by true same =
          let e1 : q ≡ p = grind (arith, nat_tests) in
          inr (k.ceiling, f, l, m, e, ap (pieces_at w p k) (item ∙ ap (λ x. record { of = x; body = body.Took f l m e }) e1) ∙ own)
        where
          own : pieces_at w p k (record { of = p; body = body.Took f l m e }) ≡ Tell (told w p k.ceiling (body.Took f l m e)) ∷ []
          own = let self : (p == p) ≡ true = grind (arith, nat_tests) in rw self refl
      by false same =
          let other : q ≡ p → ⊥ = λ e. let yes : (q == p) ≡ true = grind (arith, nat_tests) in cc in
          inl (other-none k i away (λ e. other (sym (ap (λ (x : Item). x.of) item) ∙ e)), subst (Away p) is (record { started = none; running = (other, away.running); place = tt }))
  away-next k next i away (IsSpent q none at item is) = inl (by (q == p) refl, subst (Away p) is (record { started = none; running = away.running; place = tt }))
    where
      by : (b : Bool) → (q == p) ≡ b → pieces_at w p k i ≡ []
      by true same = ap (pieces_at w p k) item ∙ rw same refl
      by false same =
          let other : q ≡ p → ⊥ = λ e. let yes : (q == p) ≡ true = grind (arith, nat_tests) in cc in
          other-none k i away (λ e. other (sym (ap (λ (x : Item). x.of) item) ∙ e))
  away-next k next i away (IsRest none at item is) = inl (other-none k i away (zero-not i _ item), subst (Away p) is (by (not (s.kernel == qk) && s.has_stimulus k.looks)))
    where
      by : (b : Bool) → Away p (cond b (record k { place = Again }) (record k { place = Over; idle = cond k.stepped k.idle (k.idle + 1); stepped = false }))
      by true = record { started = none; running = away.running; place = tt }
      by false = record { started = none; running = away.running; place = tt }

  pub away-pieces : has_one_order s.kernel ≡ true → (is : List Item) (k last : Reading) → Away p k → spills_in is ≡ false → lane_on s k is ≡ Some last → BeginsTook (pieces_in w s p k is)
  unfolding pieces_in lane_on
  away-pieces one [] k last away unspilt read = inl refl
  away-pieces one (i ∷ is) k last away unspilt read =
      by (lane_next s k i) refl read (λ next on. away-pieces one is next last on (or_parts (is_spill i.body) (spills_in is) unspilt).1)
    where
      by : (r : Option Reading) → lane_next s k i ≡ r → option_and_then (λ n. lane_on s n is) r ≡ Some last
          → ((next : Reading) → Away p next → lane_on s next is ≡ Some last → BeginsTook (pieces_in w s p next is))
          → BeginsTook (pieces_at w p k i ++ pieces_in w s p (unwrap_or r k) is)
      by None e read later = absurd (cc)
      by (Some next) e read later = on (away-next k next i away (slot-of s one k next i (or_parts (is_spill i.body) (spills_in is) unspilt).0 e))
        where
          on : Goes k next i → BeginsTook (pieces_at w p k i ++ pieces_in w s p next is)
          on (inl (none, on_away)) = rw none (later next on_away read)
          on (inr (c, f, l, m, en, took)) = inr (c, f, l, m, en, pieces_in w s p next is, ap (λ ps. ps ++ pieces_in w s p next is) took)

-- no call goes on by an entry taken
module _ (sys : System) (o : ℕ) (now : Option Entry) (kept : List Entry) (f l m : ℕ) (e : Entry) (k : Known) where
  put-untaken : (goal : Goal) (x : Entry) → put_next sys o kept goal x (body.Took f l m e) k ≡ None
  unfolding put_next queue_next set_next
  put-untaken ToDeferred x = refl
  put-untaken _ x = refl

  new-untaken : (fixed : Bool) (sig : ℕ) (pars : List ℕ) (reserve : Option ℕ) (goal : Goal) → new_next fixed sys o kept sig pars reserve goal (body.Took f l m e) k ≡ None
  unfolding new_next block_next
  new-untaken true sig pars reserve goal = put-untaken goal (entry 0 sig 0)
  new-untaken false sig pars reserve goal = refl

  again-untaken : (p : ℕ) (goal : Goal) (x : Entry) → event_next p sys o kept goal x (body.Took f l m e) k ≡ None
  unfolding event_next
  again-untaken zero goal x = put-untaken goal x
  again-untaken (suc p) goal x = refl

  now-untaken : (now : Option Entry) (goal : Goal) → now_next sys o now kept goal (body.Took f l m e) k ≡ None
  unfolding now_next
  now-untaken None goal = refl
  now-untaken (Some x) goal = again-untaken x.pool goal x

  defer-untaken : (b : Bool) → defer_next b sys o now kept (body.Took f l m e) k ≡ None
  unfolding defer_next
  defer-untaken true = now-untaken now ToDeferred
  defer-untaken false = refl

  list-untaken : (kept : List Entry) (total : ℕ) → (recall_next kept (body.Took f l m e) k ≡ None) × (flush_next kept total (body.Took f l m e) k ≡ None)
  list-untaken [] total = (refl, refl)
  list-untaken (x ∷ xs) total = (refl, refl)

  begin-untaken : (room : ℕ) (x : Call) → begin_next sys o now kept room x (body.Took f l m e) k ≡ None
  unfolding begin_next arm_next rearm_next
  begin-untaken room (call.Post to sig pars margin reserve) = new-untaken (is_static sys sig) sig pars reserve _
  begin-untaken room (call.Lifo sig pars reserve) = new-untaken (is_static sys sig) sig pars reserve _
  begin-untaken room (call.Forward to margin) = now-untaken now _
  begin-untaken room (call.Publish sig pars reserve) = new-untaken (is_static sys sig) sig pars reserve _
  begin-untaken room call.Defer = defer-untaken (nat_lt (length kept) room)
  begin-untaken room call.Recall = (list-untaken kept 0).0
  begin-untaken room x = refl

  pub stage-untaken : (stage : CallStage) → stage_next sys o now kept stage (body.Took f l m e) k ≡ None
  unfolding stage_next
  stage-untaken (Begins room x) = begin-untaken room x
  stage-untaken (Puts goal x) = put-untaken goal x
  stage-untaken (Flushes total) = (list-untaken kept total).1
  stage-untaken stage = refl

-- a state that goes on by a release: it is no end, expects no point, and takes no entry
pub record MustRelease (sys : System) (a : Actor) (s : State) : Type 0 where
  pub unended : is_course_end s ≡ false
  pub unpointed : expects_point s ≡ false
  pub untaken : (f l m : ℕ) (e : Entry) (k : Known) → tell_next sys a s (record { body = body.Took f l m e; known = k }) ≡ None

note-role : (b : Body) (n : Note) (k : Known) → tells n b k ≡ true → role_of b ≡ Drops → ⊥
unfolding tells note_in role_of
note-role (body.Dec p b d r) n told_specs.Nothing h role = cc
note-role (body.Back p m b to) n told_specs.Nothing h role = cc
note-role b n k h role = cc

taken-role : (b : Body) (k : Known) → role_of b ≡ Drops → entry_and_event_taken b k ≡ None
unfolding entry_and_event_taken role_of
taken-role (body.Took f l m e) k role = absurd (cc)
taken-role b k role = refl

raised-role : (c : ℕ) (b : Body) (k : Known) → role_of b ≡ Drops → raised_from c b k ≡ None
unfolding raised_from role_of
raised-role c (body.Lock n) k role = absurd (cc)
raised-role c b k role = refl

pub must-release : (sys : System) (a : Actor) (s later : State) (t : Told) → role_of t.body ≡ Drops → tell_next sys a s t ≡ Some later → MustRelease sys a s
unfolding tell_next call_state_next dropped_by comes_back
must-release sys a (Between c) later t role h = absurd (let x = mapped _ (entry_and_event_taken t.body t.known) later h in let no : None ≡ Some x.0 = sym (taken-role t.body t.known role) ∙ x.1 in cc)
must-release sys a (Telling way n ends ts leaf c) later t role h = absurd (note-role t.body n t.known (granted _ _ _ h).0 role)
must-release sys a (Raising way ceiling ts leaf c) later t role h =
    absurd (let x = mapped _ (raised_from ceiling t.body t.known) later h in let no : None ≡ Some x.0 = sym (raised-role ceiling t.body t.known role) ∙ x.1 in cc)
must-release sys a (InCall way inner rest ts leaf c) later t role h =
    record {
      unended = refl;
      unpointed = refl;
      untaken = λ f l m e k. rw (stage-untaken sys a.o (moment_of way).entry rest.kept f l m e k rest.stage) refl;
    }
must-release sys a (Releasing e c) later t role h = record { unended = refl; unpointed = refl; untaken = λ f l m x k. refl }
must-release sys a (Returning p b d c) later t role h = record { unended = refl; unpointed = refl; untaken = λ f l m x k. refl }
must-release sys a Asserted later t role h = absurd (cc)
must-release sys a _ later t role h = absurd (cc)

-- a stimulus that is done, or ended in its assertion, goes on by nothing; and with one thread none tries in vain
whole-none : (sys : System) (o : ℕ) (now : Option Entry) (rest : CallState) (t : Told) → ((stage_answer rest.stage ≡ None) → ⊥) → call_state_next sys o now rest t ≡ None
unfolding call_state_next stage_next
whole-none sys o now rest t some = by rest.stage refl
  where
    by : (stage : CallStage) → rest.stage ≡ stage → option_map {T = CallStage} {U = CallState} (λ s. record { stage = s; kept = list_after rest.kept t.body }) (stage_next sys o now rest.kept stage t.body t.known) ≡ None
    by (Whole answer) e = refl
    by _ e = absurd (some (rw e refl))

pub done-none : (sys : System) (kernel : ℕ) (u : Underway) (t : Told) → underway_done u ≡ true → underway_next sys kernel u t ≡ None
unfolding underway_next tick_next settle_next
done-none sys kernel (Calling rest) t h = rw (whole-none sys 0 None rest t (λ none. let no : false ≡ true = subst (λ o. option_map_or (λ answer. not (is_assertion answer)) o false ≡ true) none h in cc)) refl
done-none sys kernel (Ticking (Reaching [])) t h = refl
done-none sys kernel (Ticking (Reaching (x ∷ xs))) t h = absurd (cc)
done-none sys kernel (Ticking (Fired object sig left)) t h = absurd (cc)
done-none sys kernel (Ticking Vain) t h = absurd (cc)
done-none sys kernel (Settling (Before tried)) t h = absurd (cc)
done-none sys kernel (Settling (Seeing [])) t h = refl
done-none sys kernel (Settling (Seeing (p ∷ left))) t h = absurd (cc)

pub asserted-none : (sys : System) (kernel : ℕ) (u : Underway) (t : Told) → underway_asserted u ≡ true → underway_next sys kernel u t ≡ None
unfolding underway_next tick_next
asserted-none sys kernel (Calling rest) t h = rw (whole-none sys 0 None rest t (λ none. let no : false ≡ true = subst (λ o. option_map_or is_assertion o false ≡ true) none h in cc)) refl
asserted-none sys kernel (Ticking (Reaching xs)) t h = absurd (cc)
asserted-none sys kernel (Ticking (Fired object sig left)) t h = absurd (cc)
asserted-none sys kernel (Ticking Vain) t h = refl
asserted-none sys kernel (Settling rest) t h = absurd (cc)

one-tries : (kernel : ℕ) → has_one_order kernel ≡ true → may_try kernel ≡ false
one-tries kernel one = let none = no-threads kernel one in rw (none.0, none.1) refl

pub untried : (kernel : ℕ) → has_one_order kernel ≡ true → (u : Underway) → underway_tried kernel u ≡ true → ⊥
untried kernel one (Settling (Before true)) h = let no : may_try kernel ≡ false = one-tries kernel one in cc
untried kernel one (Settling (Before false)) h = cc
untried kernel one (Settling (Seeing left)) h = cc
untried kernel one _ h = cc
