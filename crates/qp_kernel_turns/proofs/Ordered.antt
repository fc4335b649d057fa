-- The order of all records through records of the kernel's lane, looks and ends.
use Rattle.std.proofs.Common.{◌≡◌, ℕ, zero, suc, ◌+◌, ◌≤◌, ◌==◌, Bool, true, false, ◌&&◌, ◌||◌, List, [], ◌∷◌, ◌++◌, map, length, refl, sym, ◌∙◌, ap, subst, inl, inr, Some, None, arith}
use Rattle.std.specs.Prelude.{IsTrue, slice_get}
use Rattle.std.specs.List.{list_all, list_any}
use Rattle.std.specs.Option.{is_some}
use Rattle.std.proofs.lemmas.Bool.Decides.{nat_tests}
use Rattle.std.proofs.lemmas.List.{map-append}
use Rattle.std.proofs.lemmas.Bool.{and_right}
use Rattle.qp_model.specs.declared.systems.System.{System}
use Rattle.qp_model.specs.declared.systems.ObjectDef.{ObjectDef}
use Rattle.qp_model.specs.declared.record.Rec.{Rec}
use Rattle.qp_model.specs.Record.{item_of}
use Rattle.qp_model.specs.declared.bodies.Body.TheVariants as body
use Rattle.qp_model.specs.declared.words.Word.TheVariants as word
use Rattle.qp_model.specs.Ends.{ends_last, is_end}
use Rattle.qp_model.specs.OneOrder.{acts_next, stim_of}
use Rattle.qp_model.specs.Told.{Told, ToldItem, for_object, plain, untold}
use Rattle.qp_model_order.specs.Placing.{LooksNone}
use Rattle.qp_model_order.specs.RunOrder.{placed}
use Rattle.qp_model_order.specs.SourceRun.{untold_all}
use Rattle.qp_calls.specs.Clauses.{Sees, Stops, TakesIt}
use Rattle.qp_calls.specs.declared.tokens.HeldEntry.{HeldEntry}
use Rattle.qp_calls.specs.Halting.{HaltsDry, HaltsFull}
use Rattle.qp_calls.specs.Notes.{told_note}
use Rattle.qp_calls.proofs.Growing.{room-then}
use Rattle.qp_calls.specs.declared.answers.Counts as counts
use Rattle.qp_calls.specs.LaneView.{Gains, GrowsOf, LaneView, Roomier, is_codeless, mark_after, mark_by, no_code, own_after}
use Rattle.qp_kernel.specs.Happenings.{IsInOrder, has_no_stim, lane_order, run_order}
use Rattle.qp_kernel.specs.Interrupting.{Happens, HasNone, IsLaneKept, IsStopped, is_unset}
use Rattle.qp_kernel.specs.Turning.{look_told, seen_told}
use Rattle.qp_kernel.proofs.HappeningLemmas.{IsIdleRecord, acts-more, order-more}
use Rattle.qp_kernel.proofs.OrderGrowth.{in_order-grows, in_order-happens, in_order-looks, order-ends, order-halts, order-stops, within}
use Rattle.qp_kernel_turns.specs.declared.halting.Halt.{Halt}
use Rattle.qp_kernel_turns.specs.declared.halting.Halt.TheVariants as halt
use Rattle.qp_kernel_turns.specs.Halting.{GivesUp, IsReadied, TurnHalts, asked_once}
use Rattle.qp_kernel_turns.specs.Ordering.{AreSeenEmpty, HaltsInOrder, InOrder, IsSeenEmpty, LookedInOrder, NoneActs, PassedInOrder, StopsInOrder}
use Rattle.qp_kernel_turns.specs.Pending.{PendingStays}
use Rattle.qp_kernel_turns.specs.declared.objects.Objects.{Objects}
use Rattle.qp_kernel_turns.specs.Turning.{GoesOnward, Stand}
use Rattle.qp_kernel_turns.proofs.Pending.{seen-own, seen-stays_pending}
use Rattle.qp_kernel_turns.proofs.Taking.{seen-mark_own}
use Rattle.qp_kernel_turns.proofs.Quiet.{ended-stops, spill-last}
use Rattle.qp_kernel_turns.proofs.Turns.{noted}

-- No `stim` in records of the lane.

abbrev pub HasNoStim : List ToldItem → Type 0
HasNoStim ts = list_any (λ t. is_some (stim_of t.told.body)) ts ≡ false

none-append : (xs ys : List ToldItem) → HasNoStim xs → HasNoStim ys → HasNoStim (xs ++ ys)
none-append [] ys a b = b
none-append (x ∷ xs) ys a b = by (is_some (stim_of x.told.body)) a (λ h. none-append xs ys h b)
  where
    by : (c : Bool) → (c || list_any (λ t. is_some (stim_of t.told.body)) xs) ≡ false → (HasNoStim xs → HasNoStim (xs ++ ys)) → (c || list_any (λ t. is_some (stim_of t.told.body)) (xs ++ ys)) ≡ false
    by true h go = absurd (cc)
    by false h go = go h

pub unstim-items : (p : ℕ) (g : List Told) → list_any (λ t. is_some (stim_of t.body)) g ≡ false → HasNoStim (map (for_object p) g)
unstim-items p [] h = refl
unstim-items p (t ∷ g) h = by (is_some (stim_of t.body)) h (λ k. unstim-items p g k)
  where
    by : (c : Bool) → (c || list_any (λ u. is_some (stim_of u.body)) g) ≡ false → (list_any (λ u. is_some (stim_of u.body)) g ≡ false → HasNoStim (map (for_object p) g)) → (c || list_any (λ u. is_some (stim_of u.told.body)) (map (for_object p) g)) ≡ false
    by true k go = absurd (cc)
    by false k go = go k

pub unstim-grows : (ts : List ToldItem) (v w : LaneView) → Gains ts v w → HasNoStim ts → has_no_stim v → has_no_stim w
unstim-grows ts v w gains none h = rw gains.told (none-append v.told ts h none)

-- A question in vain.

pub order-once : (sys : System) (looks : ℕ) (v : LaneView) → IsInOrder sys looks v → IsInOrder sys looks (asked_once v)
order-once sys looks v h = record { order = h.order; sources = h.sources; rises = h.rises }

pub in_order-once : (acts : Bool) (sys : System) (looks : ℕ) (v : LaneView) → InOrder acts sys looks v → InOrder acts sys looks (asked_once v)
in_order-once acts sys looks v h = record { order = λ acting. order-once sys looks v (h.order acting); no_stim = h.no_stim }

pub empty-once : (p : ℕ) (v : LaneView) → IsSeenEmpty p v → IsSeenEmpty p (asked_once v)
empty-once p v h = record { f = h.f; l = h.l; m = h.m; says = h.says; none = h.none; mark = h.mark; own = h.own }

-- Records that go on, and records that end the run.

pub grows-in_order : (acts : Bool) (sys : System) (looks : ℕ) (ts : List ToldItem) (v w : LaneView) → Gains ts v w → LooksNone (untold_all ts) → list_any (λ i. is_end i.body) (untold_all ts) ≡ false → HasNoStim ts
    → InOrder acts sys looks v → InOrder acts sys looks w
grows-in_order acts sys looks ts v w gains none calm unstim h = record {
  order = λ acting. in_order-grows sys looks ts v w gains none calm (h.order acting);
  no_stim = unstim-grows ts v w gains unstim h.no_stim;
}

pub ends-in_order : (acts : Bool) (sys : System) (looks code : ℕ) (ts : List ToldItem) (v u w : LaneView) → Gains ts v u → Stops code u w → LooksNone (untold_all ts) → ends_last (untold_all ts) ≡ true
    → (acts ≡ true → IsInOrder sys looks v) → StopsInOrder acts sys v w
ends-in_order acts sys looks code ts v u w gains stops none last h = record {
  of = ap (λ x. x.sys) stops ∙ gains.sys;
  plan = ap (λ x. x.plan) stops ∙ gains.plan;
  order = λ acting end may. ended-stops sys end code u w stops (order-ends sys looks end ts v u may gains none last (h acting));
}

-- the stop word was found set
pub found-in_order : (acts : Bool) (sys : System) (looks code : ℕ) (v w : LaneView) → w ≡ record v { answered = code ∷ v.answered; asked = suc v.asked } → InOrder acts sys looks v → StopsInOrder acts sys v w
found-in_order acts sys looks code v w is h = record {
  of = ap (λ x. x.sys) is;
  plan = ap (λ x. x.plan) is;
  order = λ acting end may. order-halts sys looks end v w may (ap (λ x. x.told) is) (ap (λ x. x.plan) is) (ap (λ x. x.happened) is) (h.order acting);
}

pub halts-in_order : (acts : Bool) (sys : System) (looks : ℕ) (v w : LaneView) (h : Halt) → TurnHalts v w h → InOrder acts sys looks v → HaltsInOrder acts sys v w h
halts-in_order acts sys looks v w halt.Memory h order = tt
halts-in_order acts sys looks v w halt.Stopped (inl h) order = found-in_order acts sys looks h.code v w h.answered order
halts-in_order acts sys looks v w halt.Stopped (inr h) order =
    let once = in_order-once acts sys looks v order in
    let ended = ends-in_order acts sys looks 6 _ (asked_once v) h.full w h.spills h.stops (refl, tt) (spill-last _) once.order in
    record { of = ended.of; plan = ended.plan; order = ended.order }

-- it ran on before
pub halts-behind : (acts : Bool) (sys : System) (u v w : LaneView) (h : Halt) → v.sys ≡ u.sys → v.plan ≡ u.plan → HaltsInOrder acts sys v w h → HaltsInOrder acts sys u w h
halts-behind acts sys u v w halt.Memory of plan h = tt
halts-behind acts sys u v w halt.Stopped of plan h = record { of = h.of ∙ of; plan = h.plan ∙ plan; order = h.order }

-- A look.

-- nothing was handed in, and nothing found
pub unset-by : (v : LaneView) → v.stops ≡ [] → v.answered ≡ [] → list_all is_codeless v.aside.purses ≡ true → is_unset v ≡ true
unset-by v stops answered none =
    ap (λ a. no_code a && no_code v.answered && list_all is_codeless v.aside.purses) stops
    ∙ ap (λ a. no_code [] && no_code a && list_all is_codeless v.aside.purses) answered
    ∙ none

-- so `ready` finds it, and has made room,
pub readied : (v m w : LaneView) → m ≡ asked_once v → v.stops ≡ [] → v.answered ≡ [] → list_all is_codeless v.aside.purses ≡ true → Roomier m w → 8 ≤ w.spare → IsReadied v w
readied v m w is stops answered none room spare = record { unset = unset-by v stops answered none; roomier = subst (λ u. Roomier u w) is room; spare = spare }

-- or there is none
pub gives-up : (v m r w : LaneView) (h : Halt) → m ≡ asked_once v → r ≡ m → GivesUp r w h → TurnHalts v w h
gives-up v m r w halt.Stopped is same h = inr (subst (λ u. HaltsFull u w) (same ∙ is) h)
gives-up v m r w halt.Memory is same h = subst (λ u. HaltsDry u w) (same ∙ is) h

-- the stop word was asked in vain, and records have come
pub unset-still : (ts : List ToldItem) (v w : LaneView) → Gains ts v w → is_unset v ≡ true → is_unset w ≡ true
unset-still ts v w gains h =
    ap (λ a. no_code w.stops && no_code w.answered && list_all is_codeless a.purses) gains.aside
    ∙ ap (λ a. no_code w.stops && no_code a && list_all is_codeless v.aside.purses) gains.answered
    ∙ ap (λ a. no_code a && no_code v.answered && list_all is_codeless v.aside.purses) gains.stops
    ∙ h

module _ (acts : Bool) (sys : System) (looks n floor : ℕ) (base : Bool) (v u w : LaneView) (of : v.sys ≡ sys) (gains : Gains (look_told n floor ∷ []) v u)
    (next : n ≡ looks + 1) (same : base ≡ (floor == 0)) (h : InOrder acts sys looks v) where
  no_stim-u : has_no_stim u
  no_stim-u = unstim-grows (look_told n floor ∷ []) v u gains refl h.no_stim

  no_stim-w : IsLaneKept u w → has_no_stim w
  no_stim-w kept = rw kept.told no_stim-u

  order-kept : IsLaneKept u w → w.happened ≡ u.happened → lane_order w ≡ lane_order u
  order-kept kept still = ap (λ ts. run_order 0 (untold_all ts) w.happened) kept.told ∙ ap (run_order 0 (untold_all u.told)) still

  pub none-in_order : (a : Stand) → HasNone acts base u w → LookedInOrder acts sys (floor == 0) (record a { looks = n; lane = w }) false
  none-in_order a none = record {
    order = record {
      order = λ acting. in_order-looks sys looks n floor base v u w of gains (subst (λ b. HasNone b base u w) acting none) next same no_stim-u (h.order acting);
      no_stim = no_stim-w none.untouched.kept;
    };
    none = λ never acting.
        let asked : acts_next u.sys u.plan (lane_order u) base ≡ None = none.none acting no_stim-u in
        ap (λ p. acts_next sys p (lane_order w) (floor == 0)) none.untouched.kept.plan
        ∙ ap (λ xs. acts_next sys u.plan xs (floor == 0)) (order-kept none.untouched.kept none.happened)
        ∙ ap (λ b. acts_next sys u.plan (lane_order u) b) (sym same)
        ∙ ap (λ s. acts_next s u.plan (lane_order u) base) (sym (gains.sys ∙ of))
        ∙ asked;
  }

  pub some-in_order : (a : Stand) → Happens n base u w → LookedInOrder acts sys (floor == 0) (record a { looks = n; lane = w }) true
  some-in_order a hap = record {
    order = record {
      order = λ acting. (in_order-happens sys looks n floor base v u w of gains hap next same no_stim-u (h.order acting)).order;
      no_stim = no_stim-w hap.untouched.kept;
    };
    none = λ never acting. let wrong : true ≡ false = never in absurd (cc);
  }

  pub stopped-in_order : IsStopped n base u w → is_unset u ≡ true → StopsInOrder acts sys v w
  stopped-in_order stop unset = record {
    of = stop.kept.sys ∙ gains.sys;
    plan = stop.kept.plan ∙ gains.plan;
    order = λ acting end may. order-stops sys looks n floor end base v u w of gains stop.kept.told stop.kept.plan next same no_stim-u may (h.order acting) stop unset;
  }

-- A queue that is seen.

seen-idle : (p f l m : ℕ) → IsIdleRecord (placed 0 (untold (seen_told p f l m)))
seen-idle p f l m = record { stim = refl; enters = λ o. refl; leaves = λ o. (and_right (0 == o) false refl) }

-- such a record is no matter of which source acts
pub none-still : (acts : Bool) (sys : System) (looks : ℕ) (t : ToldItem) (v w : LaneView) → IsIdleRecord (placed 0 (untold t)) → Gains (t ∷ []) v w → InOrder acts sys looks v → (base : Bool) → acts ≡ true → NoneActs base sys v → NoneActs base sys w
none-still acts sys looks t v w idle gains h base acting none =
    let order : lane_order w ≡ lane_order v ++ placed 0 (untold t) ∷ [] =
    rw (gains.told, gains.happened, map-append untold v.told (t ∷ [])) (order-more 0 (untold_all v.told) (untold_all (t ∷ [])) v.happened (within v (h.order acting).rises)) in
    ap (λ s. acts_next sys s (lane_order w) base) gains.plan ∙ ap (λ xs. acts_next sys v.plan xs base) order
    ∙ acts-more sys v.plan (lane_order v) (placed 0 (untold t)) base idle ∙ none

none-seen : (acts : Bool) (sys : System) (looks p f l m : ℕ) (v w : LaneView) → Gains (seen_told p f l m ∷ []) v w → InOrder acts sys looks v → (base : Bool) → acts ≡ true → NoneActs base sys v → NoneActs base sys w
none-seen acts sys looks p f l m v w gains h base acting none = none-still acts sys looks (seen_told p f l m) v w (seen-idle p f l m) gains h base acting none

seen-mark : (p q n f l m : ℕ) → (p == q) ≡ false → mark_after (word.Queue q) n (seen_told p f l m ∷ []) ≡ n
unfolding mark_after mark_by
seen-mark p q n f l m other = rw other refl

-- what was seen of a queue stays where no record is on it
pub still-empty : (q : ℕ) (ts : List ToldItem) (v w : LaneView) → Gains ts v w → mark_after (word.Queue q) (v.mark (word.Queue q)) ts ≡ v.mark (word.Queue q) → own_after q (v.own q) ts ≡ v.own q → IsSeenEmpty q v → IsSeenEmpty q w
still-empty q ts v w gains same kept h = record {
  f = h.f;
  l = h.l;
  m = h.m;
  says = gains.shown (word.Queue q) (gains.mark (word.Queue q) ∙ same) ∙ h.says;
  none = h.none;
  mark = gains.mark (word.Queue q) ∙ same ∙ h.mark;
  own = ap (λ o. o.m) (gains.own q ∙ kept) ∙ h.own;
}

seen-stays : (p q f l m : ℕ) (v w : LaneView) → Gains (seen_told p f l m ∷ []) v w → (p == q) ≡ false → IsSeenEmpty q v → IsSeenEmpty q w
seen-stays p q f l m v w gains other h = still-empty q (seen_told p f l m ∷ []) v w gains (seen-mark p q (v.mark (word.Queue q)) f l m other) (seen-own q p f l m (v.own q)) h

-- the objects from the next place on and this one
pub seen-more : (sys : System) (floor place : ℕ) (o : ObjectDef) (c : counts.Counts) (v u w : LaneView) → slice_get sys.objects place ≡ Some o → Gains (seen_told o.priority c.f c.l c.m ∷ []) v w → Sees o.priority u w c
    → IsTrue (w.serves o.priority) → c.f + c.l ≤ c.m → AreSeenEmpty sys floor (place + 1) v → AreSeenEmpty sys floor place w
seen-more sys floor place o c v u w at gains sees served few h i d from its high = by (o.priority == d.priority) refl
  where
    here : IsSeenEmpty o.priority w
    here = let most = sees.2 in record { f = c.f; l = c.l; m = c.m; says = sees.1.says; none = omega (arith, few, most); mark = gains.mark (word.Queue o.priority) ∙ seen-mark_own o.priority (v.mark (word.Queue o.priority)) c.f c.l c.m; own = sym (sees.1.own served).1 }

    by : (b : Bool) → (o.priority == d.priority) ≡ b → IsSeenEmpty d.priority w
    by true is = let same : o.priority ≡ d.priority = grind (arith, nat_tests) in subst (λ q. IsSeenEmpty q w) same here
    by false is = seen-stays o.priority d.priority c.f c.l c.m v w gains is (later (i == place) refl)
      where
        later : (b : Bool) → (i == place) ≡ b → IsSeenEmpty d.priority v
        later true e =
            let same : i ≡ place = grind (arith, nat_tests) in
            let one : Some o ≡ Some d = sym at ∙ ap (slice_get sys.objects) (sym same) ∙ its in
            let equal : o ≡ d = cc in
            let wrong : (o.priority == o.priority) ≡ false = subst (λ x. (o.priority == x.priority) ≡ false) (sym equal) is in
            let right : (o.priority == o.priority) ≡ true = grind (arith, nat_tests) in absurd (cc)
        later false e = let past : place + 1 ≤ i = grind (arith, nat_tests, from, e) in h i d past its high

-- an object that isn't above the floor
pub seen-skip : (sys : System) (floor place : ℕ) (o : ObjectDef) (v : LaneView) → slice_get sys.objects place ≡ Some o → o.priority ≤ floor → AreSeenEmpty sys floor (place + 1) v → AreSeenEmpty sys floor place v
seen-skip sys floor place o v at low h i d from its high = by (i == place) refl
  where
    by : (b : Bool) → (i == place) ≡ b → IsSeenEmpty d.priority v
    by true e =
        let same : i ≡ place = grind (arith, nat_tests) in
        let one : Some o ≡ Some d = sym at ∙ ap (slice_get sys.objects) (sym same) ∙ its in
        let equal : o.priority ≡ d.priority = cc in
        absurd (omega (arith, low, high, equal))
    by false e = let past : place + 1 ≤ i = grind (arith, nat_tests, from, e) in h i d past its high

-- no object stands at a place behind all
pub seen-none : (sys : System) (floor place : ℕ) (v : LaneView) → length sys.objects ≤ place → AreSeenEmpty sys floor place v
seen-none sys floor place v all i d from its high = absurd (never sys.objects i (omega (arith, all, from)) its)
  where
    never : (ds : List ObjectDef) (k : ℕ) → length ds ≤ k → slice_get ds k ≡ Some d → ⊥
    never [] k le e = absurd (cc)
    never (x ∷ xs) zero le e = absurd (omega (arith, le))
    never (x ∷ xs) (suc k) le e = never xs k (omega (arith, le)) e

-- it went onward before
pub halts-from : (acts : Bool) (sys : System) (xs : Objects) (v : LaneView) (ys : Objects) (u w : LaneView) (h : Halt) → v.sys ≡ sys → u.sys ≡ sys → GoesOnward xs v ys u → HaltsInOrder acts sys u w h → HaltsInOrder acts sys v w h
halts-from acts sys xs v ys u w h first later on = halts-behind acts sys v u w h (later ∙ sym first) on.plan

-- the last record
one-last : (t : ToldItem) → ends_last (untold_all (t ∷ [])) ≡ true
unfolding ends_last
one-last t = refl

-- A queue is seen, and what comes then.
module _ (acts : Bool) (sys : System) (looks p : ℕ) (c : counts.Counts) (v v1 v2 : LaneView) (room : Roomier (asked_once v) v1) (sees : Sees p v1 v2 c) (h : InOrder acts sys looks v) where
  gains-seen : Gains (seen_told p c.f c.l c.m ∷ []) (asked_once v) v2
  gains-seen = room-then (seen_told p c.f c.l c.m ∷ []) (asked_once v) v1 v2 room sees.0.grows

  seen-in_order : InOrder acts sys looks v2
  seen-in_order = grows-in_order acts sys looks (seen_told p c.f c.l c.m ∷ []) (asked_once v) v2 gains-seen (refl, tt) refl refl (in_order-once acts sys looks v h)

  -- it is empty
  pub passed-in_order : (floor place : ℕ) (o : ObjectDef) (a : Stand) → o.priority ≡ p → slice_get sys.objects place ≡ Some o → IsTrue (v2.serves o.priority) → c.f + c.l ≤ c.m → a.looks ≡ looks → a.lane ≡ v → AreSeenEmpty sys floor (place + 1) v
      → PassedInOrder acts sys floor place a (record a { lane = v2 })
  passed-in_order floor place o a is at served few count lane seen = record {
    order = subst (λ k. InOrder acts sys k v2) (sym count) seen-in_order;
    none = λ base acting none. none-seen acts sys looks p c.f c.l c.m (asked_once v) v2 gains-seen (in_order-once acts sys looks v h) base acting (subst (NoneActs base sys) lane none);
    empty =
        seen-more sys floor place o c (asked_once v) v1 v2 at (subst (λ q. Gains (seen_told q c.f c.l c.m ∷ []) (asked_once v) v2) (sym is) gains-seen) (subst (λ q. Sees q v1 v2 c) (sym is) sees) served few
        (λ i d from its high. empty-once d.priority v (seen i d from its high));
    stays = subst (λ u. PendingStays u v2) (sym lane) (seen-stays_pending p c.f c.l c.m (asked_once v) v2 gains-seen);
  }

  -- its object has taken its budget
  pub spent-in_order : (r : Rec) (v3 v4 : LaneView) → item_of r ≡ record { of = p; body = body.Spent } → GrowsOf r.of (told_note r v2) v2 v3 → Stops 6 v3 v4 → StopsInOrder acts sys v v4
  spent-in_order r v3 v4 note grown stops =
      halts-behind acts sys v v2 v4 halt.Stopped gains-seen.sys gains-seen.plan
      (ends-in_order acts sys looks 6 (for_object p (plain body.Spent) ∷ []) v2 v3 v4 (noted p body.Spent r v2 v3 note grown) stops (refl, tt) (one-last (for_object p (plain body.Spent))) seen-in_order.order)

  -- the stop word is found set
  pub stopped-seen : (code : ℕ) (v3 : LaneView) → v3 ≡ record v2 { answered = code ∷ v2.answered; asked = suc v2.asked } → StopsInOrder acts sys v v3
  stopped-seen code v3 is = halts-behind acts sys v v2 v3 halt.Stopped gains-seen.sys gains-seen.plan (found-in_order acts sys looks code v2 v3 is seen-in_order)

  -- its entry is taken
  pub took-in_order : (e : HeldEntry) (v3 v4 : LaneView) → v3 ≡ asked_once v2 → TakesIt p e v3 v4 → InOrder acts sys looks v4
  took-in_order e v3 v4 still takes =
      grows-in_order acts sys looks _ v3 v4 takes.adds.grows (refl, tt) refl refl (subst (InOrder acts sys looks) (sym still) (in_order-once acts sys looks v2 seen-in_order))
