-- What the answers of its calls make of a stimulus.
use Rattle.std.proofs.Common.{◌≡◌, ℕ, ◌+◌, ◌-◌, ◌<◌, ◌≤◌, ◌==◌, Bool, true, false, List, [], ◌∷◌, ◌++◌, map, length, refl, sym, ◌∙◌, ap, subst, arith, append_assoc, IsTrue, Option, Some, None, Ok, ◌⊎◌, inl, inr}
use Rattle.std.specs.Bool.{MatchBool}
use Rattle.std.proofs.lemmas.Bool.{le-leb}
use Rattle.std.proofs.lemmas.List.{map-append}
use Rattle.std.proofs.lemmas.Option.{slice_get_within, slice_get-get_or}
use Rattle.qp_base.specs.declared.event.Ev.{Ev}
use Rattle.qp_model.specs.declared.stimulus.Stim.{Stim}
use Rattle.qp_model.specs.declared.stimulus.Stim.TheVariants as stim
use Rattle.qp_model.specs.declared.systems.System.{System}
use Rattle.qp_model.specs.declared.systems.TimerDef.{TimerDef}
use Rattle.qp_model.specs.declared.bodies.Body.{Body}
use Rattle.qp_model.specs.declared.bodies.Body.TheVariants as item
use Rattle.qp_model.specs.Told.{Told, plain, for_object}
use Rattle.qp_model.specs.Calls as call
use Rattle.qp_model.specs.Calls.{Answer, Call, Granted, Refused, Flushed, AtQueue, AtPool, AtTimer, AtTicks, AtFront, is_assertion}
use Rattle.qp_model.specs.Parts.{is_static}
use Rattle.qp_model.specs.Sites.{ring_of}
use Rattle.qp_model.specs.WordLaw.{is_object}
use Rattle.qp_model.specs.Sources.{CallFits, StimFits, Ticks, TicksOne, FiresInVain, priorities}
use Rattle.qp_model.proofs.FitsLemmas.{Usual, Ending, Answers as Forms, fits-usual, assertion_of}
use Rattle.qp_stim.specs.Rules as rule
use Rattle.qp_calls.specs.declared.did.Did.{Did}
use Rattle.qp_calls.specs.declared.did.Did.TheVariants as did
use Rattle.qp_calls.specs.LaneView.{LaneView, Grows}
use Rattle.qp_calls.specs.Notes.{last_code, stop_code}
use Rattle.qp_calls.specs.Clauses.{IsEvent, event_of}
use Rattle.qp_calls.specs.Entries.{did_of}
use Rattle.qp_calls.specs.Groups.{CallAnswers}
use Rattle.qp_calls.specs.Ticking.{TicksRate}
use Rattle.qp_calls.proofs.NoteLemmas.{last-snoc}
use Rattle.qp_calls_stimulus.specs.declared.calling.Called.{Called}
use Rattle.qp_calls_stimulus.specs.Calling.{Calls, CallsAll, CallsFail, called_of}
use Rattle.qp_calls_stimulus.proofs.Completing.{ticks-grow}
use Rattle.qp_calls_stimulus.specs.Settling.{SeesNone}
use Rattle.qp_calls_stimulus.proofs.Settled.{is-object, settles}

-- What a stimulus that keeps to the rules names.

pub fits-object : (sys : System) (to : ℕ) (ev : Ev) (margin reserve : Option ℕ) → rule.StimulusFits sys (stim.Post to ev margin reserve) → IsTrue (is_object sys to)
fits-object sys to ev margin reserve h = let o = h.object in subst (λ p. IsTrue (is_object sys p)) o.4 (is-object sys o.0 o.1 (slice_get-get_or sys.objects o.0 o.1 o.2 ∙ ap Some o.3))

pub fits-event : (sys : System) (ev : Ev) (reserve : Option ℕ) → rule.EventFits sys ev reserve → IsEvent sys (event_of ev)
fits-event sys ev reserve h =
    let within : ev.sig - 4 < length sys.signals = slice_get_within sys.signals (ev.sig - 4) h.def h.declared in
    record { from = h.above_reserved; within = omega (arith, within, h.above_reserved); params = rw h.declared h.count }

-- a static signal has no reserve
pub fits-reserve : (sys : System) (ev : Ev) (reserve : Option ℕ) → rule.EventFits sys ev reserve → is_static sys ev.sig ≡ true → reserve ≡ None
unfolding is_static
fits-reserve sys ev None h fixed = refl
fits-reserve sys ev (Some r) h fixed =
    let is : h.def.fixed ≡ true = rw (le-leb 4 ev.sig h.above_reserved, h.declared) at fixed in
    let not : h.def.fixed ≡ false = h.reserved.1 in
    absurd (cc)

-- Values and assertions.

value-no : (answer : Answer) (n : ℕ) → did.Value n ≡ did_of answer → is_assertion answer ≡ false
value-no Granted n said = refl
value-no Refused n said = refl
value-no (Flushed m) n said = refl
value-no _ n said = absurd (cc)

assert-is : (answer : Answer) (code : ℕ) → did.Assert code ≡ did_of answer → is_assertion answer ≡ true
assert-is Granted code said = absurd (cc)
assert-is Refused code said = absurd (cc)
assert-is (Flushed m) code said = absurd (cc)
assert-is _ code said = refl

-- the code of an assertion's record
record HasCode (b : Body) (code : ℕ) : Type 0 where
  some : 1 ≤ code
  few : code ≤ 5
  its : stop_code b ≡ code

code-of : (b : Body) (answer : Answer) (code n : ℕ) → did.Assert code ≡ did_of answer → did_of answer ≡ did.Assert n → 1 ≤ n → n ≤ 5 → stop_code b ≡ n → HasCode b code
code-of b answer code n said is some few its =
    let whole : did.Assert code ≡ did.Assert n = said ∙ is in
    let same : n ≡ code = cc in
    subst (HasCode b) same (record { some = some; few = few; its = its })

has-code : (b : Body) (answer : Answer) (code : ℕ) → assertion_of b ≡ Some answer → did.Assert code ≡ did_of answer → HasCode b code
has-code (item.NoEntry a f l m) answer code is said = let same : answer ≡ AtQueue = cc in code-of _ answer code 1 said (ap did_of same) (omega arith) (omega arith) refl
has-code (item.NoBlock p n free) answer code is said = let same : answer ≡ AtPool = cc in code-of _ answer code 2 said (ap did_of same) (omega arith) (omega arith) refl
has-code (item.Armed t n c) answer code is said = let same : answer ≡ AtTimer = cc in code-of _ answer code 3 said (ap did_of same) (omega arith) (omega arith) refl
has-code (item.BadTicks t n i) answer code is said = let same : answer ≡ AtTicks = cc in code-of _ answer code 4 said (ap did_of same) (omega arith) (omega arith) refl
has-code (item.NoLifo a f l m) answer code is said = let same : answer ≡ AtFront = cc in code-of _ answer code 5 said (ap did_of same) (omega arith) (omega arith) refl
has-code _ answer code is said = absurd (cc)

-- the lane ends in the last of the records
last-told : (front : List Told) (t : Told) (g : List Told) (v w : LaneView) → Grows g v w → g ≡ front ++ t ∷ [] → last_code w.told ≡ stop_code t.body
last-told front t g v w grows is =
    let told : w.told ≡ (v.told ++ map (for_object v.by) front) ++ for_object v.by t ∷ [] =
    grows.told ∙ ap (λ y. v.told ++ map (for_object v.by) y) is ∙ ap (λ y. v.told ++ y) (map-append (for_object v.by) front (t ∷ []))
    ∙ sym (append_assoc v.told (map (for_object v.by) front) (for_object v.by t ∷ [])) in
    rw told (last-snoc (v.told ++ map (for_object v.by) front) (for_object v.by t))

-- A post or a publication.

module _ (sys : System) (s : Stim) (x : Call) (v w : LaneView)
    (wrap : (kernel : ℕ) (asserted : Bool) (g : List Told) → CallFits sys x asserted g → StimFits sys kernel s asserted g) where
  all : (n : ℕ) → CallAnswers sys 0 None x (did.Value n) v w → CallsAll sys s v w
  unfolding CallFits
  all n h = record {
    one = h.g;
    grows = h.grows;
    fits = λ kernel. wrap kernel false h.g (h.answer, h.fits, value-no h.answer n h.said);
    hands = h.hands refl;
  }

  fail : (code : ℕ) → CallAnswers sys 0 None x (did.Assert code) v w → CallsFail sys s code v w
  unfolding CallFits Forms Ending
  fail code h =
      let is : is_assertion h.answer ≡ true = assert-is h.answer code h.said in
      let ending : Ending Usual h.answer h.g = by is (fits-usual sys 0 None x h.answer h.g h.fits) in
      let has = has-code ending.1.body h.answer code ending.3 h.said in
      record {
        one = h.g;
        grows = h.grows;
        fits = λ kernel. wrap kernel true h.g (h.answer, h.fits, is);
        some = has.some;
        few = has.few;
        last = last-told ending.0 ending.1 h.g v w h.grows ending.4 ∙ has.its;
      }
    where
      by : is_assertion h.answer ≡ true → Forms Usual h.answer h.g → Ending Usual h.answer h.g
      by is k = rw is at k

  pub answered : (d : Did) → CallAnswers sys 0 None x d v w → Calls sys s v w (Ok (called_of d))
  answered (did.Value n) h = all n h
  answered (did.Assert code) h = fail code h

pub post-fits : (sys : System) (to : ℕ) (ev : Ev) (margin reserve : Option ℕ) (kernel : ℕ) (asserted : Bool) (g : List Told)
    → CallFits sys (call.Post to ev.sig ev.pars.items margin reserve) asserted g → StimFits sys kernel (stim.Post to ev margin reserve) asserted g
unfolding StimFits
post-fits sys to ev margin reserve kernel asserted g h = h

pub publish-fits : (sys : System) (ev : Ev) (reserve : Option ℕ) (kernel : ℕ) (asserted : Bool) (g : List Told)
    → CallFits sys (call.Publish ev.sig ev.pars.items reserve) asserted g → StimFits sys kernel (stim.Publish ev reserve) asserted g
unfolding StimFits
publish-fits sys ev reserve kernel asserted g h = h

-- the answers of a group, for this system and no object
pub answers-here : (sys : System) (x : Call) (d : Did) (o : ℕ) (v w : LaneView) → v.sys ≡ sys → o ≡ 0 → CallAnswers v.sys o None x d v w → CallAnswers sys 0 None x d v w
answers-here sys x d o v w of none h = subst (λ k. CallAnswers sys k None x d v w) none (subst (λ z. CallAnswers z o None x d v w) of h)

-- A tick.

-- it ends in the post that found no entry
ticks-end : (sys : System) (rate t : ℕ) (ds : List TimerDef) (g : List Told) → Ticks sys rate t ds true g → (front : List Told) × (a f l m : ℕ) × (g ≡ front ++ plain (item.NoEntry a f l m) ∷ [])
unfolding Ticks FiresInVain
ticks-end sys rate t [] g h = let no : true ≡ false = h.1 in absurd (cc)
ticks-end sys rate t (d ∷ ds) g h = by (d.rate == rate) h (λ rest k. ticks-end sys rate (t + 1) ds rest k)
  where
    by : (b : Bool)
        → MatchBool b (((true ≡ true) × FiresInVain t d g) ⊎ ((one rest : List Told) × (g ≡ one ++ rest) × TicksOne (ring_of sys d.object) t d one × Ticks sys rate (t + 1) ds true rest)) (Ticks sys rate (t + 1) ds true g)
        → ((rest : List Told) → Ticks sys rate (t + 1) ds true rest → (front : List Told) × (a f l m : ℕ) × (rest ≡ front ++ plain (item.NoEntry a f l m) ∷ []))
        → (front : List Told) × (a f l m : ℕ) × (g ≡ front ++ plain (item.NoEntry a f l m) ∷ [])
    by true (inl k) go = let vain = k.1 in (plain (item.Fire t vain.0 vain.1) ∷ [], d.object, vain.2, vain.3, vain.4, vain.5)
    by true (inr k) go = let on = go k.1 k.4 in (k.0 ++ on.0, on.1, on.2, on.3, on.4, k.2 ∙ ap (λ y. k.0 ++ y) on.5 ∙ sym (append_assoc k.0 on.0 (plain (item.NoEntry on.1 on.2 on.3 on.4) ∷ [])))
    by false k go = go g k

pub ticked : (sys : System) (rate : ℕ) (d : Did) (v w : LaneView) → v.sys ≡ sys → v.by ≡ 0 → TicksRate rate v w (Ok d) → Calls sys (stim.Tick rate) v w (Ok (called_of d))
unfolding StimFits
ticked sys rate (did.Value n) v w of none h =
    record {
      one = h.1.g;
      grows = ticks-grow h.1.g v w none h.1.grows;
      fits = λ kernel. subst (λ (z : System). Ticks z rate 1 z.timers false h.1.g) of h.1.fits;
      hands = h.1.hands refl;
    }
ticked sys rate (did.Assert code) v w of none h =
    let grows = ticks-grow h.1.g v w none h.1.grows in
    let end = ticks-end v.sys rate 1 v.sys.timers h.1.g h.1.fits in
    record {
      one = h.1.g;
      grows = grows;
      fits = λ kernel. subst (λ (z : System). Ticks z rate 1 z.timers true h.1.g) of h.1.fits;
      some = omega (arith, h.0);
      few = omega (arith, h.0);
      last = last-told end.0 (plain (item.NoEntry end.1 end.2 end.3 end.4)) h.1.g v w grows end.5 ∙ sym h.0;
    }

-- the stimulus matched, and its outcome
pub made : (sys : System) (s t : Stim) (d : Did) (r : Called) (v w : LaneView) → s ≡ t → r ≡ called_of d → Calls sys t v w (Ok (called_of d)) → Calls sys s v w (Ok r)
made sys s t d r v w is result h = subst (λ z. Calls sys z v w (Ok r)) (sym is) (subst (λ z. Calls sys t v w (Ok z)) (sym result) h)

-- a settle, by what it answered
pub settled : (sys : System) (s : Stim) (v w : LaneView) → s ≡ stim.Settle → SeesNone (priorities sys) v w → CallsAll sys s v w
unfolding StimFits
settled sys s v w is h = rw is (record { one = plain item.Settle ∷ h.one; grows = h.grows; fits = λ kernel. (settles sys kernel h.one h.fits, refl); hands = h.hands })
