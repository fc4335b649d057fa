-- The records of a stimulus: none of them is a look, another `stim`, or the end of a lane but by an assertion, and no queue is seen with an entry.
use Rattle.std.proofs.Common.{◌≡◌, ℕ, ◌+◌, ◌==◌, nat_lt, Bool, true, false, not, ◌||◌, List, [], ◌∷◌, ◌++◌, map, refl, sym, ◌∙◌, ap, subst, inl, inr, arith, None, append_assoc, append-nil}
use Rattle.std.specs.Prelude.{◌⊎◌, ◌≢◌, IsTrue}
use Rattle.std.specs.Bool.{MatchBool}
use Rattle.std.specs.List.{list_all, list_any, filter_map}
use Rattle.std.proofs.lemmas.Bool.{and_parts}
use Rattle.std.proofs.lemmas.List.{map-append}
use Rattle.std.proofs.lemmas.List.Elements.{filter_map-append}
use Rattle.std.proofs.lemmas.List.Folds.{list_any-append}
use Rattle.std.proofs.lemmas.Bool.Decides.{nat_tests}
use Rattle.qp_model.specs.declared.stimulus.Stim.{Stim}
use Rattle.qp_model.specs.declared.stimulus.Stim.TheVariants as stim
use Rattle.qp_model.specs.declared.systems.System.{System}
use Rattle.qp_model.specs.declared.systems.TimerDef.{TimerDef}
use Rattle.qp_model.specs.declared.bodies.Body.{Body}
use Rattle.qp_model.specs.declared.bodies.Body.TheVariants as body
use Rattle.qp_model.specs.Record.{Item}
use Rattle.qp_model.specs.Told.{Told, plain, for_object, untold}
use Rattle.qp_model.specs.Calls as call
use Rattle.qp_model.specs.Calls.{Call}
use Rattle.qp_model.specs.Kernels.{sim, may_try}
use Rattle.qp_model.specs.Sites.{ring_of}
use Rattle.qp_model.specs.Ends.{is_assert, is_spent, is_spill, is_end, ends_last}
use Rattle.qp_model.specs.OneOrder.{stim_of, look_of}
use Rattle.qp_model.specs.Sources.{CallFits, TicksOne, FiresInVain, Ticks, SeesEmpty, Tries, Settles, StimFits, entry_seen, priorities}
use Rattle.qp_model.proofs.FitsLemmas.{is_calm, is_deferral, Usual, Ending, Answers, fits-usual, answer-assert}
use Rattle.qp_model_order.specs.Placing.{LooksNone, AreBehind, spill_item}
use Rattle.qp_model_order.specs.Stimulus.{IsPlain, ArePlain, StimulusForm, source_items, StimulusItems, CutItems}
use Rattle.qp_model_order.proofs.CalmLemmas.{calm-parts, calm-ends_last}

usual-plain : (b : Body) → (is_calm b || is_deferral b) ≡ true → IsPlain b
unfolding is_calm is_deferral
usual-plain (body.Seen p f l m) h = absurd (cc)
usual-plain (body.Stim p k) h = absurd (cc)
usual-plain (body.Look n floor) h = absurd (cc)
usual-plain body.Spent h = absurd (cc)
usual-plain (body.Spill n) h = absurd (cc)
usual-plain (body.NoEntry a f l m) h = absurd (cc)
usual-plain (body.NoBlock p n free) h = absurd (cc)
usual-plain (body.Armed t n c) h = absurd (cc)
usual-plain (body.BadTicks t n i) h = absurd (cc)
usual-plain (body.NoLifo a f l m) h = absurd (cc)
usual-plain _ h = record { look = refl; stim = refl; calm = refl; seen = refl }

pub plain-append : (g h : List Told) → ArePlain g → ArePlain h → ArePlain (g ++ h)
plain-append [] h a b = b
plain-append (t ∷ ts) h a b = (a.0, plain-append ts h a.1 b)

plain-front : (g h : List Told) → ArePlain (g ++ h) → ArePlain g
plain-front [] h a = tt
plain-front (t ∷ ts) h a = (a.0, plain-front ts h a.1)

usual-all : (g : List Told) → Usual g → ArePlain g
usual-all [] h = tt
usual-all (t ∷ ts) h =
    let parts = and_parts (is_calm t.body || is_deferral t.body) (list_all (λ t. is_calm t.body || is_deferral t.body) ts) h in
    (usual-plain t.body parts.0, usual-all ts parts.1)

-- a call of a source
call-form : (sys : System) (x : Call) (asserted : Bool) (g : List Told) → CallFits sys x asserted g → StimulusForm asserted g
unfolding CallFits Answers Ending StimulusForm
call-form sys x asserted g h = by asserted (subst (λ b. MatchBool b (Ending Usual h.0 g) (Usual g)) h.2 (fits-usual sys 0 None x h.0 g h.1))
  where
    by : (b : Bool) → MatchBool b (Ending Usual h.0 g) (Usual g) → StimulusForm b g
    by false u = usual-all g u
    by true u = (u.0, usual-all u.0 u.2, u.1, answer-assert u.1.body h.0 u.3, u.4)

-- a tick of one timer
tick-plain : (ring t : ℕ) (d : TimerDef) (g : List Told) → TicksOne ring t d g → ArePlain g
unfolding TicksOne
tick-plain ring t d g (inl h) = subst ArePlain (sym h.1) (record { look = refl; stim = refl; calm = refl; seen = refl }, tt)
tick-plain ring t d g (inr (inl h)) = subst ArePlain (sym h.2) (record { look = refl; stim = refl; calm = refl; seen = refl }, tt)
tick-plain ring t d g (inr (inr h)) =
    subst ArePlain (sym h.5) (record { look = refl; stim = refl; calm = refl; seen = refl }, (record { look = refl; stim = refl; calm = refl; seen = refl }, tt))

behind-form : (asserted : Bool) (g one rest : List Told) → g ≡ one ++ rest → ArePlain one → StimulusForm asserted rest → StimulusForm asserted g
unfolding StimulusForm
behind-form false g one rest is a h = subst ArePlain (sym is) (plain-append one rest a h)
behind-form true g one rest is a h = (one ++ h.0, plain-append one h.0 a h.1, h.2, h.3, is ∙ ap (λ x. one ++ x) h.4 ∙ sym (append_assoc one h.0 (h.2 ∷ [])))

-- it fires in vain
vain-form : (t : ℕ) (d : TimerDef) (g : List Told) → FiresInVain t d g → StimulusForm true g
unfolding FiresInVain StimulusForm
vain-form t d g h =
    (plain (body.Fire t h.0 h.1) ∷ [], (record { look = refl; stim = refl; calm = refl; seen = refl }, tt), plain (body.NoEntry d.object h.2 h.3 h.4), refl, h.5)

ticks-form : (sys : System) (rate t : ℕ) (ds : List TimerDef) (asserted : Bool) (g : List Told) → Ticks sys rate t ds asserted g → StimulusForm asserted g
unfolding Ticks StimulusForm
ticks-form sys rate t [] asserted g h = subst (λ b. StimulusForm b g) (sym h.1) (subst ArePlain (sym h.0) tt)
ticks-form sys rate t (d ∷ ds) asserted g h = by (d.rate == rate) h (λ g k. ticks-form sys rate (t + 1) ds asserted g k)
  where
    by : (b : Bool)
        → MatchBool b (((asserted ≡ true) × FiresInVain t d g) ⊎ ((one rest : List Told) × (g ≡ one ++ rest) × TicksOne (ring_of sys d.object) t d one × Ticks sys rate (t + 1) ds asserted rest)) (Ticks sys rate (t + 1) ds asserted g)
        → ((g : List Told) → Ticks sys rate (t + 1) ds asserted g → StimulusForm asserted g) → StimulusForm asserted g
    by true (inl k) go = subst (λ b. StimulusForm b g) (sym k.0) (vain-form t d g k.1)
    by true (inr k) go = behind-form asserted g k.0 k.1 k.2 (tick-plain (ring_of sys d.object) t d k.0 k.3) (go k.1 k.4)
    by false k go = go g k

-- queues seen empty
sees-plain : (os : List ℕ) (g : List Told) → SeesEmpty os g → ArePlain g
unfolding SeesEmpty
sees-plain [] g h = subst ArePlain (sym h) tt
sees-plain (o ∷ os) g h =
    let none : nat_lt h.2 (h.0 + h.1) ≡ false = empty h.0 h.1 h.2 h.5 in
    subst ArePlain (sym h.4) (record { look = refl; stim = refl; calm = refl; seen = rw none refl }, sees-plain os h.3 h.6)
  where
    empty : (f l m : ℕ) → f + l ≡ m → nat_lt m (f + l) ≡ false
    empty f l m e = grind (arith, nat_tests, e)

settle-plain : (sys : System) (g : List Told) → Settles sys sim g → ArePlain g
unfolding Settles Tries
settle-plain sys g (n, tries, last, is, tried, once, empty) = by once
  where
    none : n ≡ 0 → tries ≡ []
    none e = subst (λ k. Tries (priorities sys) k tries) e tried

    by : (IsTrue (may_try sim)) ⊎ (n ≡ 0) → ArePlain g
    by (inl wrong) = let no : false ≡ true = wrong in absurd (cc)
    by (inr e) = subst ArePlain (sym (is ∙ ap (λ x. x ++ plain body.Settle ∷ last) (none e))) (record { look = refl; stim = refl; calm = refl; seen = refl }, sees-plain (priorities sys) last empty)

-- the records of any stimulus
pub stimulus-form : (sys : System) (s : Stim) (asserted : Bool) (g : List Told) → StimFits sys sim s asserted g → StimulusForm asserted g
unfolding StimFits StimulusForm
stimulus-form sys (stim.Post to ev margin reserve) asserted g h = call-form sys (call.Post to ev.sig ev.pars.items margin reserve) asserted g h
stimulus-form sys (stim.Publish ev reserve) asserted g h = call-form sys (call.Publish ev.sig ev.pars.items reserve) asserted g h
stimulus-form sys (stim.Tick rate) asserted g h = ticks-form sys rate 1 sys.timers asserted g h
stimulus-form sys stim.Settle asserted g h = subst (λ b. StimulusForm b g) (sym h.1) (settled g h.0)
  where
    settled : (g : List Told) → Settles sys sim g → StimulusForm false g
    settled g k = settle-plain sys g k

-- what plain records are in the lane of their source
plain-behind : (cuts : Bool) (g : List Told) → ArePlain g → AreBehind cuts (source_items g)
plain-behind cuts [] h = tt
plain-behind cuts (t ∷ ts) h = (h.0.stim, by cuts (calm-parts t.body h.0.calm).2, plain-behind cuts ts h.1)
  where
    by : (cuts : Bool) → is_spill t.body ≡ false → (cuts || not (is_spill t.body)) ≡ true
    by true e = refl
    by false e = rw e refl

plain-lookless : (g : List Told) → ArePlain g → LooksNone (source_items g)
plain-lookless [] h = tt
plain-lookless (t ∷ ts) h = (h.0.look, plain-lookless ts h.1)

pub plain-calm : (g : List Told) → ArePlain g → list_any (λ i. is_end i.body) (source_items g) ≡ false
plain-calm [] h = refl
plain-calm (t ∷ ts) h = rw (h.0.calm, plain-calm ts h.1) refl

plain-seen : (g : List Told) → ArePlain g → filter_map (λ i. entry_seen i.body) (source_items g) ≡ []
plain-seen [] h = refl
plain-seen (t ∷ ts) h = rw (h.0.seen, plain-seen ts h.1) refl

plain-unspent : (g : List Told) → ArePlain g → list_any (λ i. is_spent i.body) (source_items g) ≡ false
plain-unspent [] h = refl
plain-unspent (t ∷ ts) h = rw ((calm-parts t.body h.0.calm).1, plain-unspent ts h.1) refl

assert-parts : (b : Body) → is_assert b ≡ true → (stim_of b ≡ None) × (look_of b ≡ None) × (is_spill b ≡ false) × (is_spent b ≡ false) × (entry_seen b ≡ None)
assert-parts (body.NoEntry a f l m) h = (refl, refl, refl, refl, refl)
assert-parts (body.NoBlock p n free) h = (refl, refl, refl, refl, refl)
assert-parts (body.Armed t n c) h = (refl, refl, refl, refl, refl)
assert-parts (body.BadTicks t n i) h = (refl, refl, refl, refl, refl)
assert-parts (body.NoLifo a f l m) h = (refl, refl, refl, refl, refl)
assert-parts _ h = absurd (cc)

pub items-append : (g h : List Told) → source_items (g ++ h) ≡ source_items g ++ source_items h
items-append g h = ap (map untold) (map-append (for_object 0) g h) ∙ map-append untold (map (for_object 0) g) (map (for_object 0) h)

behind-more : (cuts : Bool) (xs ys : List Item) → AreBehind cuts xs → AreBehind cuts ys → AreBehind cuts (xs ++ ys)
behind-more cuts [] ys a b = b
behind-more cuts (x ∷ xs) ys a b = (a.0, a.1, behind-more cuts xs ys a.2 b)

lookless-more : (xs ys : List Item) → LooksNone xs → LooksNone ys → LooksNone (xs ++ ys)
lookless-more [] ys a b = b
lookless-more (x ∷ xs) ys a b = (a.0, lookless-more xs ys a.1 b)

ends-plain : (g : List Told) → ArePlain g → ends_last (source_items g) ≡ true
unfolding ends_last
ends-plain g h = ap ends_last (sym (append-nil (source_items g))) ∙ calm-ends_last (source_items g) [] (plain-calm g h) refl

-- what the records of a stimulus are in the lane of its source
pub stimulus-items : (asserted : Bool) (g : List Told) → StimulusForm asserted g → StimulusItems asserted (source_items g)
unfolding StimulusForm ends_last
stimulus-items false g h = record {
  behind = plain-behind false g h;
  lookless = plain-lookless g h;
  ends = ends-plain g h;
  calm = λ e. plain-calm g h;
  seen = plain-seen g h;
  unspent = plain-unspent g h;
}
stimulus-items true g h = subst (λ x. StimulusItems true x) (sym (ap source_items h.4 ∙ items-append h.0 (h.2 ∷ []))) (by (assert-parts h.2.body h.3))
  where
    front : List Item
    front = source_items h.0

    by : (stim_of h.2.body ≡ None) × (look_of h.2.body ≡ None) × (is_spill h.2.body ≡ false) × (is_spent h.2.body ≡ false) × (entry_seen h.2.body ≡ None)
        → StimulusItems true (source_items h.0 ++ untold (for_object 0 h.2) ∷ [])
    by k = record {
      behind = behind-more false (source_items h.0) (untold (for_object 0 h.2) ∷ []) (plain-behind false h.0 h.1) (k.0, rw k.2 refl, tt);
      lookless = lookless-more (source_items h.0) (untold (for_object 0 h.2) ∷ []) (plain-lookless h.0 h.1) (k.1, tt);
      ends = calm-ends_last (source_items h.0) (untold (for_object 0 h.2) ∷ []) (plain-calm h.0 h.1) refl;
      calm = λ e. absurd (let wrong : true ≡ false = e in cc);
      seen = filter_map-append (λ i. entry_seen i.body) (source_items h.0) (untold (for_object 0 h.2) ∷ []) ∙ rw (plain-seen h.0 h.1, k.4) refl;
      unspent = list_any-append (λ i. is_spent i.body) (source_items h.0) (untold (for_object 0 h.2) ∷ []) ∙ rw (plain-unspent h.0 h.1, k.3) refl;
    }

-- a front of them, where something is missing, is plain
pub cut-plain : (asserted : Bool) (one back : List Told) → back ≢ [] → StimulusForm asserted (one ++ back) → ArePlain one
unfolding StimulusForm
cut-plain false one back some h = plain-front one back h
cut-plain true one back some h = shorter one back h.0 h.2 h.4 some h.1
  where
    shorter : (one back front : List Told) (t : Told) → one ++ back ≡ front ++ t ∷ [] → back ≢ [] → ArePlain front → ArePlain one
    shorter [] back front t e some a = tt
    shorter (x ∷ one) back [] t e some a = let rest : one ++ back ≡ [] = cc in absurd (some (nil-back one back rest))
      where
        nil-back : (xs ys : List Told) → xs ++ ys ≡ [] → ys ≡ []
        nil-back [] ys e = e
        nil-back (x ∷ xs) ys e = absurd (cc)
    shorter (x ∷ one) back (y ∷ front) t e some a =
        let head : y ≡ x = cc in
        let rest : one ++ back ≡ front ++ t ∷ [] = cc in
        (subst (λ z. IsPlain z.body) head a.0, shorter one back front t rest some a.1)

-- a front and the `spill` that cut it
pub cut-items : (asserted : Bool) (one back : List Told) (n : ℕ) → back ≢ [] → StimulusForm asserted (one ++ back) → CutItems (source_items one ++ spill_item n ∷ [])
unfolding ends_last
cut-items asserted one back n some h =
    let is = cut-plain asserted one back some h in
    record {
      behind = behind-more true (source_items one) (spill_item n ∷ []) (plain-behind true one is) (refl, refl, tt);
      lookless = lookless-more (source_items one) (spill_item n ∷ []) (plain-lookless one is) (refl, tt);
      ends = calm-ends_last (source_items one) (spill_item n ∷ []) (plain-calm one is) refl;
      seen = filter_map-append (λ i. entry_seen i.body) (source_items one) (spill_item n ∷ []) ∙ rw (plain-seen one is) refl;
      unspent = list_any-append (λ i. is_spent i.body) (source_items one) (spill_item n ∷ []) ∙ rw (plain-unspent one is) refl;
    }
