-- What is left of a source's call, and the records that it reads.
use Rattle.std.proofs.Common.{◌≡◌, ◌≢◌, ℕ, Bool, true, false, not, ◌||◌, List, [], ◌∷◌, length, Some, None, is_none, refl, sym, ◌∙◌, ap, subst, inl, inr}
use Rattle.std.specs.Option.{option_map_or}
use Rattle.std.specs.declared.option.Option.{Option}
use Rattle.qp_model.specs.declared.systems.System.{System}
use Rattle.qp_model.specs.declared.bodies.Entry.{Entry}
use Rattle.qp_model.specs.Told.{Told}
use Rattle.qp_model.specs.Calls as call
use Rattle.qp_model.specs.Calls.{Call, Answer, Granted, Refused, Flushed, AtQueue, AtPool, AtTimer, AtTicks, AtFront, is_assertion}
use Rattle.qp_model.specs.Parts.{is_static, sizes_of, first_pool}
use Rattle.qp_model.specs.Shapes.{Fits, PostsNew, Publishes, PublishesFirst, NoBlockFor, MakesNew, MakesBlock}
use Rattle.qp_model.specs.Able.{has_pool}
use Rattle.qp_model.specs.Deferral.{KeepsDeferred}
use Rattle.qp_model.specs.Sources.{CallFits}
use Rattle.qp_check_calls.specs.Decides.{Decides}
use Rattle.qp_check_calls.specs.CallState.{CallState, CallStage, Whole}
use Rattle.qp_check_calls.specs.CallStateNext.{call_state_begin, call_state_next, stage_answer}
use Rattle.qp_check_calls.specs.Reads.{IsRestOfCall, IsOpen, call_able}
use Rattle.qp_check_calls.specs.CallStateLaws.{ReadsBegin, ReadsNext, ReadsEnd, ReadsWhole, OpenBegin, OpenNext, OpenReads}
use Rattle.qp_check_ends.proofs.RecordLemmas.{decides}

-- the laws of a call's reader
pub record CallLaws : Type 0 where
  pub begins : ReadsBegin
  pub nexts : ReadsNext
  pub ends : ReadsEnd
  pub wholes : ReadsWhole
  pub open_begin : OpenBegin
  pub open_next : OpenNext
  pub open_reads : OpenReads

-- the records of what is left of a call
unfoldable pub CallLeft : System → CallState → Bool → List Told → Type 0
CallLeft sys rest asserted g = (answer : Answer) × (kept : List Entry) × IsRestOfCall sys 0 None rest answer kept g × (is_assertion answer ≡ asserted)

-- a call of an event
abbrev pub is_sent : Call → Bool
is_sent (call.Post to sig pars margin reserve) = true
is_sent (call.Publish sig pars reserve) = true
is_sent x = false

-- an event with a pool
pool-some : (sys : System) (sig : ℕ) (n p : ℕ) → first_pool (sizes_of sys) n ≡ Some p → has_pool sys sig n ≡ true
unfolding has_pool
pool-some sys sig n p h = rw h (or-true (is_static sys sig))
  where
    or-true : (b : Bool) → (b || true) ≡ true
    or-true true = refl
    or-true false = refl

static-pool : (sys : System) (sig n : ℕ) → is_static sys sig ≡ true → has_pool sys sig n ≡ true
unfolding has_pool
static-pool sys sig n h = rw h refl

none-pool : (sys : System) (sig : ℕ) (pars : List ℕ) (reserve : Option ℕ) (answer : Answer) (g : List Told)
    → NoBlockFor (is_static sys sig) (sizes_of sys) pars reserve answer g → has_pool sys sig (length pars) ≡ true
unfolding NoBlockFor
none-pool sys sig pars None AtPool g h = pool-some sys sig (length pars) h.0 h.4
none-pool sys sig pars (Some r) Refused g h = pool-some sys sig (length pars) h.0 h.4
none-pool sys sig pars None Granted g h = absurd h
none-pool sys sig pars None Refused g h = absurd h
none-pool sys sig pars None (Flushed n) g h = absurd h
none-pool sys sig pars None AtQueue g h = absurd h
none-pool sys sig pars None AtTimer g h = absurd h
none-pool sys sig pars None AtTicks g h = absurd h
none-pool sys sig pars None AtFront g h = absurd h
none-pool sys sig pars (Some r) Granted g h = absurd h
none-pool sys sig pars (Some r) (Flushed n) g h = absurd h
none-pool sys sig pars (Some r) AtQueue g h = absurd h
none-pool sys sig pars (Some r) AtPool g h = absurd h
none-pool sys sig pars (Some r) AtTimer g h = absurd h
none-pool sys sig pars (Some r) AtTicks g h = absurd h
none-pool sys sig pars (Some r) AtFront g h = absurd h

new-pool : (sys : System) (sig : ℕ) (pars : List ℕ) (reserve : Option ℕ) (head : List Told) (e : Entry)
    → MakesNew (is_static sys sig) (sizes_of sys) sig pars reserve head e → has_pool sys sig (length pars) ≡ true
unfolding MakesNew MakesBlock
new-pool sys sig pars reserve head e h = by (is_static sys sig) refl h
  where
    by : (fixed : Bool) → is_static sys sig ≡ fixed → MakesNew fixed (sizes_of sys) sig pars reserve head e → has_pool sys sig (length pars) ≡ true
    by true is k = static-pool sys sig (length pars) is
    by false is k = pool-some sys sig (length pars) k.0 k.8

-- a call that fits has what it asks for
fits-able : (sys : System) (x : Call) (answer : Answer) (g : List Told) → is_sent x ≡ true → Fits sys 0 None x answer g → call_able sys None x ≡ true
unfolding Fits PostsNew Publishes PublishesFirst call_able
fits-able sys (call.Post to sig pars margin reserve) answer g sent (inl h) = none-pool sys sig pars reserve answer g h
fits-able sys (call.Post to sig pars margin reserve) answer g sent (inr h) = new-pool sys sig pars reserve h.0 h.1 h.2
fits-able sys (call.Publish sig pars reserve) Granted g sent h = new-pool sys sig pars reserve h.6.0 h.0 h.6.3
fits-able sys (call.Publish sig pars reserve) AtQueue g sent h = new-pool sys sig pars reserve h.5.0 h.0 h.5.3
fits-able sys (call.Publish sig pars reserve) Refused g sent h = none-pool sys sig pars reserve Refused g h
fits-able sys (call.Publish sig pars reserve) (Flushed n) g sent h = none-pool sys sig pars reserve (Flushed n) g h
fits-able sys (call.Publish sig pars reserve) AtPool g sent h = none-pool sys sig pars reserve AtPool g h
fits-able sys (call.Publish sig pars reserve) AtTimer g sent h = none-pool sys sig pars reserve AtTimer g h
fits-able sys (call.Publish sig pars reserve) AtTicks g sent h = none-pool sys sig pars reserve AtTicks g h
fits-able sys (call.Publish sig pars reserve) AtFront g sent h = none-pool sys sig pars reserve AtFront g h
fits-able sys x answer g sent h = absurd (cc)

-- it leaves the deferred list as it is
keeps-none : (x : Call) (g : List Told) (new : List Entry) → is_sent x ≡ true → new ≡ [] → KeepsDeferred 0 x g [] new
unfolding KeepsDeferred
keeps-none (call.Post to sig pars margin reserve) g new sent e = e
keeps-none (call.Publish sig pars reserve) g new sent e = e
keeps-none x g new sent e = absurd (cc)

module _ (laws : CallLaws) (sys : System) where
  -- a call that begins reads its records
  pub call-whole : (x : Call) (asserted : Bool) (g : List Told) → is_sent x ≡ true → CallFits sys x asserted g
      → (call_able sys None x ≡ true) × CallLeft sys (call_state_begin 0 [] x) asserted g
  unfolding CallFits CallLeft
  call-whole x asserted g sent h =
      (fits-able sys x h.0 g sent h.1, (h.0, [], (laws.begins sys 0 None 0 [] x h.0 [] g).1 (h.1, keeps-none x g [] sent refl), h.2))

  pub call-sound : (x : Call) (asserted : Bool) (g : List Told) → CallLeft sys (call_state_begin 0 [] x) asserted g → CallFits sys x asserted g
  unfolding CallFits CallLeft
  call-sound x asserted g h = (h.0, ((laws.begins sys 0 None 0 [] x h.0 h.1 g).0 h.2).0, h.3)

  -- it reads one record
  pub left-whole : (rest : CallState) (asserted : Bool) (t : Told) (g : List Told) → CallLeft sys rest asserted (t ∷ g)
      → (next : CallState) × (call_state_next sys 0 None rest t ≡ Some next) × CallLeft sys next asserted g
  unfolding CallLeft
  left-whole rest asserted t g h =
      let read = (laws.nexts sys 0 None rest h.0 h.1 t g).0 h.2 in
      (read.0, read.1, (h.0, h.1, read.2, h.3))

  pub left-sound : (rest next : CallState) (asserted : Bool) (t : Told) (g : List Told) → call_state_next sys 0 None rest t ≡ Some next → CallLeft sys next asserted g
      → CallLeft sys rest asserted (t ∷ g)
  unfolding CallLeft
  left-sound rest next asserted t g e h = (h.0, h.1, (laws.nexts sys 0 None rest h.0 h.1 t g).1 (next, e, h.2), h.3)

  -- nothing is left of a whole call, whose answer is an assertion or isn't
  whole-answer : (rest : CallState) (answer : Answer) (kept : List Entry) → rest ≡ record { stage = Whole answer; kept = kept } → stage_answer rest.stage ≡ Some answer
  whole-answer rest answer kept e = ap (λ (r : CallState). stage_answer r.stage) e

  answer-whole : (stage : CallStage) (answer : Answer) → stage_answer stage ≡ Some answer → stage ≡ Whole answer
  answer-whole (Whole own) answer e = cc
  answer-whole stage answer e = absurd (cc)

  left-none : (rest : CallState) (answer : Answer) → stage_answer rest.stage ≡ Some answer → IsRestOfCall sys 0 None rest answer rest.kept []
  left-none rest answer e =
      let stage : rest.stage ≡ Whole answer = answer-whole rest.stage answer e in
      let itself : rest ≡ record { stage = rest.stage; kept = rest.kept } = refl in
      (laws.ends sys 0 None rest answer rest.kept).1 (itself ∙ ap (λ s. record { stage = s; kept = rest.kept }) stage)

  left-answer : (rest : CallState) (answer : Answer) (kept : List Entry) → IsRestOfCall sys 0 None rest answer kept [] → stage_answer rest.stage ≡ Some answer
  left-answer rest answer kept h = whole-answer rest answer kept ((laws.ends sys 0 None rest answer kept).0 h)

  by-answer : (rest : CallState) (test : Answer → Bool) (asserted : Bool) → ((answer : Answer) → (test answer ≡ true → is_assertion answer ≡ asserted) × (is_assertion answer ≡ asserted → test answer ≡ true))
      → Decides (option_map_or test (stage_answer rest.stage) false) (CallLeft sys rest asserted [])
  unfolding CallLeft
  by-answer rest test asserted same = by (stage_answer rest.stage) refl
    where
      by : (own : Option Answer) → stage_answer rest.stage ≡ own → Decides (option_map_or test own false) (CallLeft sys rest asserted [])
      by None is = decides false _ (λ e. absurd (cc)) (λ e h. let some = left-answer rest h.0 h.1 h.2 in cc)
      by (Some own) is =
          decides (test own) _ (λ e. (own, rest.kept, left-none rest own is, (same own).0 e))
          (λ e h. let some = left-answer rest h.0 h.1 h.2 in let alike : h.0 ≡ own = cc in
          let passes : test own ≡ true = (same own).1 (ap is_assertion (sym alike) ∙ h.3) in cc)

  pub left-done : (rest : CallState) → Decides (option_map_or (λ answer. not (is_assertion answer)) (stage_answer rest.stage) false) (CallLeft sys rest false [])
  left-done rest = by-answer rest (λ answer. not (is_assertion answer)) false (λ answer. by (is_assertion answer))
    where
      by : (b : Bool) → (not b ≡ true → b ≡ false) × (b ≡ false → not b ≡ true)
      by true = (λ e. absurd (cc), λ e. absurd (cc))
      by false = (λ e. refl, λ e. refl)

  pub left-asserted : (rest : CallState) → Decides (option_map_or is_assertion (stage_answer rest.stage) false) (CallLeft sys rest true [])
  left-asserted rest = by-answer rest is_assertion true (λ answer. (λ e. e, λ e. e))

  -- where it is open and not whole, more records may follow
  pub left-open : (rest : CallState) → IsOpen sys None rest
      → Decides (is_none (stage_answer rest.stage)) ((back : List Told) × (back ≢ []) × (asserted : Bool) × CallLeft sys rest asserted back)
  unfolding CallLeft
  left-open rest open_rest = by (stage_answer rest.stage) refl
    where
      more : (g : List Told) (answer : Answer) (kept : List Entry) → IsRestOfCall sys 0 None rest answer kept g → stage_answer rest.stage ≡ None → g ≢ []
      more g answer kept h is none = let some = left-answer rest answer kept (subst (IsRestOfCall sys 0 None rest answer kept) none h) in cc

      never : (own : Answer) → stage_answer rest.stage ≡ Some own → (back : List Told) (answer : Answer) (kept : List Entry) → back ≢ [] → IsRestOfCall sys 0 None rest answer kept back → ⊥
      never own is back answer kept some h =
          let itself : rest ≡ record { stage = Whole own; kept = rest.kept } = ap (λ s. record { stage = s; kept = rest.kept }) (answer-whole rest.stage own is) in
          some (laws.wholes sys 0 None own answer rest.kept kept back (subst (λ r. IsRestOfCall sys 0 None r answer kept back) itself h)).0

      by : (own : Option Answer) → stage_answer rest.stage ≡ own → Decides (is_none own) ((back : List Told) × (back ≢ []) × (asserted : Bool) × CallLeft sys rest asserted back)
      by None is =
          let some = laws.open_reads sys 0 None rest open_rest in
          decides true _ (λ e. (some.2, more some.2 some.0 some.1 some.3 is, is_assertion some.0, (some.0, some.1, some.3, refl))) (λ e. absurd (cc))
      by (Some own) is = decides false _ (λ e. absurd (cc)) (λ e h. never own is h.0 h.3.0 h.3.1 h.1 h.3.2)
