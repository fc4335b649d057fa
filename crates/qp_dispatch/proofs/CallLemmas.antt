-- Calls of actions, as groups answer them.
use Rattle.std.proofs.Common.{◌≡◌, ℕ, ◌≤◌, ◌==◌, Bool, true, false, List, [], ◌∷◌, map, refl, sym, ◌∙◌, subst, arith, Option, Some, None, Ok, Err, if◌then◌else◌}
use Rattle.std.specs.declared.result.Result.{Result}
use Rattle.std.specs.Prelude.{IsSome}
use Rattle.qp_chart.specs.Expr.{Names, value_of}
use Rattle.qp_chart.specs.declared.expression.Bound.{Bound}
use Rattle.qp_chart.specs.declared.actions.Plain.{Plain}
use Rattle.qp_chart.specs.declared.actions.Plain.TheVariants as action
use Rattle.qp_chart.specs.declared.actions.Target.{Target}
use Rattle.qp_model.specs.declared.systems.System.{System}
use Rattle.qp_model.specs.declared.bodies.Entry as model
use Rattle.qp_model.specs.Told.{Told, Event}
use Rattle.qp_model.specs.Calls as call
use Rattle.qp_model.specs.Calls.{Call, Calls, bits_of, deed_of, object_of, values_of, Answer, Granted, Refused, Flushed, is_assertion}
use Rattle.qp_model.specs.Deferral.{KeepsDeferred}
use Rattle.qp_model.specs.Shapes.{Fits}
use Rattle.qp_calls.specs.declared.answers.RoomFault.{RoomFault}
use Rattle.qp_calls.specs.declared.deferred.Deferred.{Deferred}
use Rattle.qp_calls.specs.declared.did.Did.{Did}
use Rattle.qp_calls.specs.declared.tokens.HeldEntry.{HeldEntry}
use Rattle.qp_calls.specs.Tokens.{Token, Held, Loose, same_token, token_of}
use Rattle.qp_calls.specs.Counting.{one_if, times, count_of}
use Rattle.qp_calls.specs.LaneView.{LaneView}
use Rattle.qp_calls.specs.Clauses.{entry_of}
use Rattle.qp_calls.specs.Entries.{did_of, is_value}
use Rattle.qp_calls.specs.Groups.{CallAnswers, CallReturns}
use Rattle.qp_calls.specs.Deferring.{AnswersKept, DefersCall, FlushesAll, StandAll, kept_in, tokens_in}
use Rattle.qp_calls.proofs.CountLemmas.{count_in, count-with, stand-same}
use Rattle.qp_calls.proofs.Flushing.{fault-still}
use Rattle.qp_dispatch.specs.CallsDone.{CallCut, CallDone, is_single, is_timing}
use Rattle.qp_dispatch.specs.Acting.{is_publication}
use Rattle.qp_dispatch.proofs.Rising.{fits-mild, mild-rise}

loose-in : (p b : ℕ) (u : Bool) (e : model.Entry) → count_in (Loose p b u) e ≡ 0
loose-in p b u e = go (e.pool == 0)
  where
    go : (x : Bool) → (if x then 0 else one_if (same_token (Loose p b u) (token_of e))) ≡ 0
    go true = refl
    go false = refl

-- no loose block is among the references of entries
pub tokens-loose : (p b : ℕ) (u : Bool) (es : List model.Entry) → count_of (Loose p b u) (tokens_in es) ≡ 0
unfolding times
tokens-loose p b u [] = refl
tokens-loose p b u (e ∷ es) = count-with (Loose p b u) e (tokens_in es) ∙ omega (arith, loose-in p b u e, tokens-loose p b u es)

-- what stands still does where no reference left the hands
pub stand-risen : (es : List HeldEntry) (v w : LaneView) → StandAll es v → ((p b r : ℕ) → count_of (Held p b r) v.hands ≤ count_of (Held p b r) w.hands) → w.sys ≡ v.sys → StandAll es w
stand-risen es v w all more sys = record { named = rw sys all.named; counts = by }
  where
    by : (t : Token) → count_of t (tokens_in (map entry_of es)) ≤ count_of t w.hands
    by (Held p b r) = omega (arith, more p b r, all.counts (Held p b r))
    by (Loose p b u) = omega (arith, tokens-loose p b u (map entry_of es))

pub value-no : (answer : Answer) (d : Did) → d ≡ did_of answer → is_value d ≡ false → is_assertion answer ≡ true
value-no Granted d said h = absurd (cc)
value-no Refused d said h = absurd (cc)
value-no (Flushed n) d said h = absurd (cc)
value-no _ d said h = refl

pub value-yes : (answer : Answer) (d : Did) → d ≡ did_of answer → is_value d ≡ true → is_assertion answer ≡ false
value-yes Granted d said h = refl
value-yes Refused d said h = refl
value-yes (Flushed n) d said h = refl
value-yes _ d said h = absurd (cc)

-- a call that is no matter of the deferred list
abbrev pub is_listless : Call → Bool
is_listless call.Defer = false
is_listless call.Recall = false
is_listless call.Flush = false
is_listless _ = true

list-same : (room : ℕ) (x : Call) (g : List Told) (kept : List model.Entry) → is_listless x ≡ true → KeepsDeferred room x g kept kept
unfolding KeepsDeferred
list-same room call.Defer g kept is = absurd (cc)
list-same room call.Recall g kept is = absurd (cc)
list-same room call.Flush g kept is = absurd (cc)
list-same room _ g kept is = refl

-- a call that leaves the deferred list
pub kept-answers : (now : Option model.Entry) (x : Call) (d : Did) (kept : Deferred) (v w : LaneView) → is_listless x ≡ true → is_single x ≡ true → StandAll kept.entries.items v
    → CallAnswers v.sys v.by now x d v w → AnswersKept now x d kept kept v w
kept-answers now x d kept v w other single stand h = record {
  answer = h.answer;
  g = h.g;
  said = h.said;
  grows = h.grows;
  fits = h.fits;
  room = refl;
  keeps = list-same kept.entries.capacity x h.g (kept_in kept) other;
  hands = λ is t. rw (h.hands is) refl;
  stand = by (is_value d) refl;
}
  where
    by : (b : Bool) → is_value d ≡ b → StandAll kept.entries.items w
    by true is = stand-same kept.entries.items v w stand (h.hands is) h.grows.sys
    by false is =
        let mild = fits-mild v.sys v.by now x h.answer h.g single (value-no h.answer d h.said is) h.fits in
        stand-risen kept.entries.items v w stand (mild-rise h.g v w mild h.grows) h.grows.sys

cut-other : (x : Call) (kept more : Deferred) (v w : LaneView) → is_listless x ≡ true → more ≡ kept → w ≡ v → CallCut x kept more v w
cut-other call.Defer kept more v w is a b = absurd (cc)
cut-other call.Recall kept more v w is a b = absurd (cc)
cut-other call.Flush kept more v w is a b = absurd (cc)
cut-other _ kept more v w is a b = (a, b)

pub call-other : (now : Option model.Entry) (x : Call) (kept : Deferred) (r : Result Did RoomFault) (v w : LaneView) → is_listless x ≡ true → is_single x ≡ true → StandAll kept.entries.items v
    → CallReturns now x v w r → CallDone now x kept kept v w r
call-other now x kept (Ok d) v w other single stand h = kept-answers now x d kept v w other single stand h
call-other now x kept (Err fault) v w other single stand h = (cut-other x kept kept v w other refl h.0, fault-still fault v w h.0 h.1)

-- Calls that need no entry at hand.

abbrev pub is_free : Call → Bool
is_free (call.Forward to margin) = false
is_free call.Defer = false
is_free _ = true

fits-now : (sys : System) (o : ℕ) (now : Option model.Entry) (x : Call) (answer : Answer) (g : List Told) → is_free x ≡ true → Fits sys o None x answer g → Fits sys o now x answer g
unfolding Fits
fits-now sys o now (call.Post to sig pars margin reserve) answer g is h = h
fits-now sys o now (call.Lifo sig pars reserve) answer g is h = h
fits-now sys o now (call.Forward to margin) answer g is h = absurd (cc)
fits-now sys o now (call.Publish sig pars reserve) answer g is h = h
fits-now sys o now call.Defer answer g is h = absurd (cc)
fits-now sys o now call.Recall answer g is h = h
fits-now sys o now call.Flush (Flushed n) g is h = h
fits-now sys o now call.Flush _ g is h = absurd h
fits-now sys o now (call.Subscribe sig) answer g is h = h
fits-now sys o now (call.Unsubscribe sig) answer g is h = h
fits-now sys o now (call.Arm t ticks interval) answer g is h = h
fits-now sys o now (call.Rearm t ticks) answer g is h = h
fits-now sys o now (call.Disarm t) answer g is h = h

pub call-now : (now : Option model.Entry) (x : Call) (kept more : Deferred) (r : Result Did RoomFault) (v w : LaneView) → is_free x ≡ true → CallDone None x kept more v w r → CallDone now x kept more v w r
call-now now x kept more (Ok d) v w is h = record {
  answer = h.answer;
  g = h.g;
  said = h.said;
  grows = h.grows;
  fits = fits-now v.sys v.by now x h.answer h.g is h.fits;
  room = h.room;
  keeps = h.keeps;
  hands = h.hands;
  stand = h.stand;
}
call-now now x kept more (Err fault) v w is h = h

-- a call that needs neither an entry nor the list
pub call-alone : (now : Option model.Entry) (x y : Call) (kept : Deferred) (r : Result Did RoomFault) (v w : LaneView) → x ≡ y → is_free x ≡ true → is_listless x ≡ true → is_single x ≡ true
    → StandAll kept.entries.items v → CallReturns None x v w r → CallDone now y kept kept v w r
call-alone now x y kept r v w same free other single stand h =
    subst (λ z. CallDone now z kept kept v w r) same (call-now now x kept kept r v w free (call-other None x kept r v w other single stand h))

pub call-list : (now : Option model.Entry) (x : Call) (kept more : Deferred) (r : Result Did RoomFault) (v w : LaneView) → CallCut x ≡ (λ a b c d. (b ≡ a) × (d ≡ c))
    → DefersCall now x kept more v w r → CallDone now x kept more v w r
call-list now x kept more (Ok d) v w is h = h
call-list now x kept more (Err fault) v w is h = (rw is (h.0, h.1.0), fault-still fault v w h.1.0 h.1.1)

pub call-flush : (kept more : Deferred) (r : Result Did RoomFault) (v w : LaneView) → FlushesAll kept more v w r → CallDone None call.Flush kept more v w r
call-flush kept more (Ok d) v w h = h
call-flush kept more (Err fault) v w h = h

-- The calls of actions.

calls-same : {c x : Call} → Calls c ≡ Calls x → c ≡ x
calls-same e = cc

pub arm-call : (names : Names) (p : Plain) (place : ℕ) (ticks interval : Bound) (n i : ℕ) (env : Names) (x : Call) → p ≡ action.Arm place ticks interval → env ≡ names
    → n ≡ bits_of (value_of env ticks) → i ≡ bits_of (value_of env interval) → deed_of names p ≡ Calls x → call.Arm place n i ≡ x
unfolding deed_of
arm-call names p place ticks interval n i env x is same n_is i_is h =
    let k : Calls (call.Arm place (bits_of (value_of names ticks)) (bits_of (value_of names interval))) ≡ Calls x = rw is at h in
    rw (n_is, i_is, same) (calls-same k)

pub rearm-call : (names : Names) (p : Plain) (place : ℕ) (ticks : Bound) (n : ℕ) (env : Names) (x : Call) → p ≡ action.Rearm place ticks → env ≡ names
    → n ≡ bits_of (value_of env ticks) → deed_of names p ≡ Calls x → call.Rearm place n ≡ x
unfolding deed_of
rearm-call names p place ticks n env x is same n_is h =
    let k : Calls (call.Rearm place (bits_of (value_of names ticks))) ≡ Calls x = rw is at h in
    rw (n_is, same) (calls-same k)

pub disarm-call : (names : Names) (p : Plain) (place : ℕ) (x : Call) → p ≡ action.Disarm place → deed_of names p ≡ Calls x → call.Disarm place ≡ x
unfolding deed_of
disarm-call names p place x is h = let k : Calls (call.Disarm place) ≡ Calls x = rw is at h in calls-same k

pub post-call : (names env : Names) (p : Plain) (to : Target) (t sig : ℕ) (pars given : List Bound) (margin reserve : Option ℕ) (ev : Event) (x : Call) → p ≡ action.Post to sig pars margin reserve
    → given ≡ pars → env ≡ names → t ≡ object_of names.me to → ev ≡ record { sig = sig; pars = values_of env given } → deed_of names p ≡ Calls x
    → call.Post t ev.sig ev.pars margin reserve ≡ x
unfolding deed_of
post-call names env p to t sig pars given margin reserve ev x is list same t_is ev_is h =
    let k : Calls (call.Post (object_of names.me to) sig (values_of names pars) margin reserve) ≡ Calls x = rw is at h in
    rw (ev_is, t_is, list, same) (calls-same k)

pub lifo-call : (names env : Names) (p : Plain) (sig : ℕ) (pars given : List Bound) (reserve : Option ℕ) (ev : Event) (x : Call) → p ≡ action.Lifo sig pars reserve
    → given ≡ pars → env ≡ names → ev ≡ record { sig = sig; pars = values_of env given } → deed_of names p ≡ Calls x
    → call.Lifo ev.sig ev.pars reserve ≡ x
unfolding deed_of
lifo-call names env p sig pars given reserve ev x is list same ev_is h =
    let k : Calls (call.Lifo sig (values_of names pars) reserve) ≡ Calls x = rw is at h in
    rw (ev_is, list, same) (calls-same k)

pub forward-call : (names : Names) (p : Plain) (to : Target) (t : ℕ) (margin : Option ℕ) (x : Call) → p ≡ action.Forward to margin → t ≡ object_of names.me to → deed_of names p ≡ Calls x
    → call.Forward t margin ≡ x
unfolding deed_of
forward-call names p to t margin x is t_is h =
    let k : Calls (call.Forward (object_of names.me to) margin) ≡ Calls x = rw is at h in
    rw t_is (calls-same k)

pub bare-call : (names : Names) (p q : Plain) (c x : Call) → p ≡ q → deed_of names q ≡ Calls c → deed_of names p ≡ Calls x → c ≡ x
bare-call names p q c x is here h = let k : deed_of names q ≡ Calls x = rw is at h in let e : Calls c ≡ Calls x = sym here ∙ k in calls-same e

pub defer-deed : (names : Names) → deed_of names action.Defer ≡ Calls call.Defer
unfolding deed_of
defer-deed names = refl

pub recall-deed : (names : Names) → deed_of names action.Recall ≡ Calls call.Recall
unfolding deed_of
recall-deed names = refl

pub flush-deed : (names : Names) → deed_of names action.Flush ≡ Calls call.Flush
unfolding deed_of
flush-deed names = refl

pub subscribe-deed : (names : Names) (sig : ℕ) → deed_of names (action.Subscribe sig) ≡ Calls (call.Subscribe sig)
unfolding deed_of
subscribe-deed names sig = refl

pub unsubscribe-deed : (names : Names) (sig : ℕ) → deed_of names (action.Unsubscribe sig) ≡ Calls (call.Unsubscribe sig)
unfolding deed_of
unsubscribe-deed names sig = refl

pub no-entry : {X : Type 0} (hand : Option HeldEntry) → hand ≡ None → IsSome hand → X
no-entry None is h = absurd (cc)
no-entry (Some e) is h = absurd (cc)

-- whatever the call, it is a call on a time event
pub time-call : (names : Names) (p : Plain) (x : Call) (hand : Option model.Entry) (kept : Deferred) (r : Result Did RoomFault) (v w : LaneView) → deed_of names p ≡ Calls x → is_timing x ≡ true
    → StandAll kept.entries.items v → CallReturns None x v w r → CallDone hand x kept kept v w r
time-call names p (call.Arm t ticks interval) hand kept r v w is timing stand h = call-alone hand (call.Arm t ticks interval) (call.Arm t ticks interval) kept r v w refl refl refl refl stand h
time-call names p (call.Rearm t ticks) hand kept r v w is timing stand h = call-alone hand (call.Rearm t ticks) (call.Rearm t ticks) kept r v w refl refl refl refl stand h
time-call names p (call.Disarm t) hand kept r v w is timing stand h = call-alone hand (call.Disarm t) (call.Disarm t) kept r v w refl refl refl refl stand h
time-call names p _ hand kept r v w is timing stand h = absurd (cc)

no_timing : {X : Type 0} (c x : Call) → Calls c ≡ Calls x → is_timing c ≡ false → is_timing x ≡ true → X
no_timing c x same none timing = let e : c ≡ x = calls-same same in let t : is_timing c ≡ true = rw e timing in absurd (cc)

no_single : {X : Type 0} (c x : Call) → Calls c ≡ Calls x → is_single c ≡ false → is_single x ≡ true → X
no_single c x same none single = let e : c ≡ x = calls-same same in let t : is_single c ≡ true = rw e single in absurd (cc)

-- no other action calls on a time event
pub other-timing : {X : Type 0} (names : Names) (p : Plain) (x : Call) → deed_of names p ≡ Calls x → is_timing x ≡ true → ((t : ℕ) (n i : Bound) → p ≡ action.Arm t n i → ⊥)
    → ((t : ℕ) (n : Bound) → p ≡ action.Rearm t n → ⊥) → ((t : ℕ) → p ≡ action.Disarm t → ⊥) → X
unfolding deed_of
other-timing names (action.Set var value) x h is a b c = absurd (cc)
other-timing names (action.Say value) x h is a b c = absurd (cc)
other-timing names (action.Post to sig pars margin reserve) x h is a b c = no_timing (call.Post (object_of names.me to) sig (values_of names pars) margin reserve) x h refl is
other-timing names (action.Lifo sig pars reserve) x h is a b c = no_timing (call.Lifo sig (values_of names pars) reserve) x h refl is
other-timing names (action.Forward to margin) x h is a b c = no_timing (call.Forward (object_of names.me to) margin) x h refl is
other-timing names (action.Publish sig pars reserve) x h is a b c = no_timing (call.Publish sig (values_of names pars) reserve) x h refl is
other-timing names action.Defer x h is a b c = no_timing call.Defer x h refl is
other-timing names action.Recall x h is a b c = no_timing call.Recall x h refl is
other-timing names action.Flush x h is a b c = no_timing call.Flush x h refl is
other-timing names (action.Subscribe sig) x h is a b c = no_timing (call.Subscribe sig) x h refl is
other-timing names (action.Unsubscribe sig) x h is a b c = no_timing (call.Unsubscribe sig) x h refl is
other-timing names (action.Arm t n i) x h is a b c = absurd (a t n i refl)
other-timing names (action.Rearm t n) x h is a b c = absurd (b t n refl)
other-timing names (action.Disarm t) x h is a b c = absurd (c t refl)

-- an action that is none of these
pub record IsNoneOf (p : Plain) : Type 0 where
  pub post : (to : Target) (sig : ℕ) (pars : List Bound) (margin reserve : Option ℕ) → p ≡ action.Post to sig pars margin reserve → ⊥
  pub lifo : (sig : ℕ) (pars : List Bound) (reserve : Option ℕ) → p ≡ action.Lifo sig pars reserve → ⊥
  pub forward : (to : Target) (margin : Option ℕ) → p ≡ action.Forward to margin → ⊥
  pub defer : p ≡ action.Defer → ⊥
  pub recall : p ≡ action.Recall → ⊥
  pub flush : p ≡ action.Flush → ⊥
  pub subscribe : (sig : ℕ) → p ≡ action.Subscribe sig → ⊥
  pub unsubscribe : (sig : ℕ) → p ≡ action.Unsubscribe sig → ⊥

-- and still calls, but publishes nothing, calls on a time event
pub timing-left : (names : Names) (p : Plain) (x : Call) → deed_of names p ≡ Calls x → is_single x ≡ true → IsNoneOf p → is_timing x ≡ true
unfolding deed_of
timing-left names (action.Set var value) x h is n = absurd (cc)
timing-left names (action.Say value) x h is n = absurd (cc)
timing-left names (action.Post to sig pars margin reserve) x h is n = absurd (n.post to sig pars margin reserve refl)
timing-left names (action.Lifo sig pars reserve) x h is n = absurd (n.lifo sig pars reserve refl)
timing-left names (action.Forward to margin) x h is n = absurd (n.forward to margin refl)
timing-left names (action.Publish sig pars reserve) x h is n = no_single (call.Publish sig (values_of names pars) reserve) x h refl is
timing-left names action.Defer x h is n = absurd (n.defer refl)
timing-left names action.Recall x h is n = absurd (n.recall refl)
timing-left names action.Flush x h is n = absurd (n.flush refl)
timing-left names (action.Subscribe sig) x h is n = absurd (n.subscribe sig refl)
timing-left names (action.Unsubscribe sig) x h is n = absurd (n.unsubscribe sig refl)
timing-left names (action.Arm t k i) x h is n = let e : call.Arm t (bits_of (value_of names k)) (bits_of (value_of names i)) ≡ x = calls-same h in rw (sym e) refl
timing-left names (action.Rearm t k) x h is n = let e : call.Rearm t (bits_of (value_of names k)) ≡ x = calls-same h in rw (sym e) refl
timing-left names (action.Disarm t) x h is n = let e : call.Disarm t ≡ x = calls-same h in rw (sym e) refl

-- the call of an action that neither sets nor says nor publishes
pub some-call : (names : Names) (p : Plain) → is_publication p ≡ false → ((var : ℕ) (value : Bound) → p ≡ action.Set var value → ⊥) → ((value : Bound) → p ≡ action.Say value → ⊥)
    → (x : Call) × (deed_of names p ≡ Calls x) × (is_single x ≡ true)
unfolding deed_of
some-call names (action.Set var value) h a b = absurd (a var value refl)
some-call names (action.Say value) h a b = absurd (b value refl)
some-call names (action.Post to sig pars margin reserve) h a b = (call.Post (object_of names.me to) sig (values_of names pars) margin reserve, refl, refl)
some-call names (action.Lifo sig pars reserve) h a b = (call.Lifo sig (values_of names pars) reserve, refl, refl)
some-call names (action.Forward to margin) h a b = (call.Forward (object_of names.me to) margin, refl, refl)
some-call names (action.Publish sig pars reserve) h a b = absurd (cc)
some-call names action.Defer h a b = (call.Defer, refl, refl)
some-call names action.Recall h a b = (call.Recall, refl, refl)
some-call names action.Flush h a b = (call.Flush, refl, refl)
some-call names (action.Subscribe sig) h a b = (call.Subscribe sig, refl, refl)
some-call names (action.Unsubscribe sig) h a b = (call.Unsubscribe sig, refl, refl)
some-call names (action.Arm t k i) h a b = (call.Arm t (bits_of (value_of names k)) (bits_of (value_of names i)), refl, refl)
some-call names (action.Rearm t k) h a b = (call.Rearm t (bits_of (value_of names k)), refl, refl)
some-call names (action.Disarm t) h a b = (call.Disarm t, refl, refl)

-- the same call by another name, with the entry at hand
pub call-done : (now then_now : Option model.Entry) (c x : Call) (kept more : Deferred) (r : Result Did RoomFault) (v w : LaneView) → now ≡ then_now → c ≡ x → CallDone then_now c kept more v w r
    → CallDone now x kept more v w r
call-done now then_now c x kept more r v w same is h = rw same (subst (λ y. CallDone then_now y kept more v w r) is h)
