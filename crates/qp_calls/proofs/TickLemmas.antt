-- Ticks timer by timer.
use Rattle.std.proofs.Common.{◌≡◌, ℕ, ◌+◌, ◌<◌, ◌≤◌, ◌==◌, nat_lt, Bool, true, false, List, [], ◌∷◌, ◌++◌, map, length, take, drop, slice_get, get_or, refl, sym, ◌∙◌, ap, subst, arith, append_assoc, IsTrue, Some, None, Ok, ◌⊎◌, inl, inr}
use Rattle.std.specs.Prelude.{◌≢◌}
use Rattle.std.proofs.lemmas.Bool.{ne_eqb, le-leb, eq-eqb}
use Rattle.std.proofs.lemmas.List.{map-append, append-nil, length-take-le, take_all, take_more, take-append-drop}
use Rattle.std.proofs.lemmas.Option.{slice_get-get_or}
use Rattle.std.specs.Bool.{MatchBool}
use Rattle.qp_model.specs.declared.systems.System.{System}
use Rattle.qp_model.specs.declared.systems.TimerDef.{TimerDef}
use Rattle.qp_model.specs.declared.bodies.Body.TheVariants as item
use Rattle.qp_model.specs.Record.{entry}
use Rattle.qp_model.specs.Told.{Told, plain, for_object}
use Rattle.qp_model.specs.Calls.{Answer, Granted, AtQueue}
use Rattle.qp_model.specs.Parts.{is_static, room_before}
use Rattle.qp_model.specs.Sites.{ring_of}
use Rattle.qp_model.specs.Sound.{IsSound, IsSoundTimer}
use Rattle.qp_model.specs.WordLaw.{is_object}
use Rattle.qp_model.specs.Sources.{Ticks, TicksOne, FiresInVain}
use Rattle.qp_model.specs.Shapes.{Posts}
use Rattle.qp_model.proofs.ListLemmas.{every-at}
use Rattle.qp_calls.specs.declared.did.Did.{Did}
use Rattle.qp_calls.specs.declared.did.Did.TheVariants as did
use Rattle.qp_calls.specs.Tokens.{hands_after, hands_by}
use Rattle.qp_calls.specs.LaneView.{LaneView, Gains, Grows, AddsOf, AddsTold, Roomier}
use Rattle.qp_calls.specs.Entries.{PostsEntry, did_of}
use Rattle.qp_calls.specs.Ticking.{FiredInVain, GrowsByTicks, TickCut, TickedAll, TickedSome, TickedTimer, TicksTimer, by_ticker, timer_posting}
use Rattle.qp_calls.proofs.Growing.{gains-none, gains-then, room-then}

idle_hands : (t n : ℕ) (a v : LaneView) → Grows (plain (item.Idle t n) ∷ []) a v → v.hands ≡ a.hands
unfolding hands_after hands_by
idle_hands t n a v g = g.hands

down_hands : (t n c : ℕ) (a v : LaneView) → Gains (for_object 0 (plain (item.Tick t n c)) ∷ []) a v → v.hands ≡ a.hands
unfolding hands_after hands_by
down_hands t n c a v g = g.hands

fire_hands : (t n c : ℕ) (a v : LaneView) → Gains (for_object 0 (plain (item.Fire t n c)) ∷ []) a v → v.hands ≡ a.hands
unfolding hands_after hands_by
fire_hands t n c a v g = g.hands

-- room first
ticks-room : (g : List Told) (a r w : LaneView) → Roomier a r → GrowsByTicks g r w → GrowsByTicks g a w
ticks-room g a r w room h =
    let by : r.by ≡ a.by = rw room.same refl in
    room-then (map (by_ticker a.by) g) a r w room (subst (λ o. Gains (map (by_ticker o) g) r w) by h)

pub ticks-then : (g h : List Told) (a b c : LaneView) → GrowsByTicks g a b → GrowsByTicks h b c → GrowsByTicks (g ++ h) a c
ticks-then g h a b c first second =
    let on : Gains (map (by_ticker a.by) h) b c = subst (λ o. Gains (map (by_ticker o) h) b c) first.by second in
    rw (map-append (by_ticker a.by) g h) (gains-then (map (by_ticker a.by) g) (map (by_ticker a.by) h) a b c first on)

pub tick-idle : (t object sig n : ℕ) (a r w : LaneView) → Roomier a r → AddsTold (plain (item.Idle t n) ∷ []) r w → TickedTimer t object sig a w
unfolding TicksOne
tick-idle t object sig n a r w room h = record {
  g = plain (item.Idle t n) ∷ [];
  grows = ticks-room (plain (item.Idle t n) ∷ []) a r w room h.grows;
  fits = inl (n, refl);
  hands = idle_hands t n r w h.grows ∙ rw room.same refl;
}

pub tick-down : (t object sig n counter : ℕ) (a r w : LaneView) → Roomier a r → AddsOf 0 (plain (item.Tick t n counter) ∷ []) r w → TickedTimer t object sig a w
unfolding TicksOne
tick-down t object sig n counter a r w room h = record {
  g = plain (item.Tick t n counter) ∷ [];
  grows = ticks-room (plain (item.Tick t n counter) ∷ []) a r w room h.grows;
  fits = inr (inl (n, counter, refl));
  hands = down_hands t n counter r w h.grows ∙ rw room.same refl;
}

-- a timer has fired, and its signal is posted
fire-post : (t object sig n reload f l m : ℕ) (a r v w : LaneView) → Roomier a r → AddsOf 0 (plain (item.Fire t n reload) ∷ []) r v
    → Grows (plain (item.Post object f l m (entry 0 sig 0)) ∷ []) v w → IsTrue (nat_lt 0 (room_before (ring_of v.sys object) f l m)) → w.hands ≡ v.hands → TickedTimer t object sig a w
unfolding TicksOne
fire-post t object sig n reload f l m a r v w room fire post some hands =
    let one : List Told = plain (item.Fire t n reload) ∷ [] in
    let two : List Told = plain (item.Post object f l m (entry 0 sig 0)) ∷ [] in
    let sys : v.sys ≡ a.sys = let here : r.sys ≡ a.sys = rw room.same refl in fire.grows.sys ∙ here in
    record {
      g = one ++ two;
      grows = ticks-room (one ++ two) a r w room (ticks-then one two r v w fire.grows post);
      fits = inr (inr (n, reload, f, l, m, refl, subst (λ s. IsTrue (nat_lt 0 (room_before (ring_of s object) f l m))) sys some));
      hands = hands ∙ fire_hands t n reload r v fire.grows ∙ rw room.same refl;
    }

fire-vain : (t object sig n reload f l m : ℕ) (a r v w : LaneView) → Roomier a r → AddsOf 0 (plain (item.Fire t n reload) ∷ []) r v
    → Grows (plain (item.NoEntry object f l m) ∷ []) v w → FiredInVain t object sig a w
unfolding FiresInVain
fire-vain t object sig n reload f l m a r v w room fire post =
    let one : List Told = plain (item.Fire t n reload) ∷ [] in
    let two : List Told = plain (item.NoEntry object f l m) ∷ [] in
    record { g = one ++ two; grows = ticks-room (one ++ two) a r w room (ticks-then one two r v w fire.grows post); fits = (n, reload, f, l, m, refl) }

pub tick-fired : (t object sig n reload : ℕ) (d : Did) (a r v w : LaneView) → Roomier a r → AddsOf 0 (plain (item.Fire t n reload) ∷ []) r v
    → PostsEntry object None (entry 0 sig 0) d v w → TicksTimer t object sig a w (Ok d)
unfolding Posts
tick-fired t object sig n reload d a r v w room fire post = subst (λ x. TicksTimer t object sig a w (Ok x)) (sym post.said) (go post.answer post.said post.fits)
  where
    go : (answer : Answer) → d ≡ did_of answer → Posts (ring_of v.sys object) object None [] (entry 0 sig 0) answer post.g → TicksTimer t object sig a w (Ok (did_of answer))
    go Granted said h =
        let grows : Grows (plain (item.Post object h.0 h.1 h.2 (entry 0 sig 0)) ∷ []) v w = subst (λ g. Grows g v w) h.3 post.grows in
        fire-post t object sig n reload h.0 h.1 h.2 a r v w room fire grows h.4 (post.hands (rw said refl))
    go AtQueue said h =
        let grows : Grows (plain (item.NoEntry object h.0 h.1 h.2) ∷ []) v w = subst (λ g. Grows g v w) h.3 post.grows in
        (refl, fire-vain t object sig n reload h.0 h.1 h.2 a r v w room fire grows)
    go _ said h = absurd h

-- Lists of timers.

ticks-append : (sys : System) (rate t : ℕ) (ds es : List TimerDef) (asserted : Bool) (g h : List Told)
    → Ticks sys rate t ds false g → Ticks sys rate (t + length ds) es asserted h → Ticks sys rate t (ds ++ es) asserted (g ++ h)
unfolding Ticks
ticks-append sys rate t [] es asserted g h a b =
    let same : t + length {A = TimerDef} [] ≡ t = omega arith in
    rw a.0 (subst (λ n. Ticks sys rate n es asserted h) same b)
ticks-append sys rate t (d ∷ ds) es asserted g h a b =
    let same : t + length (d ∷ ds) ≡ (t + 1) + length ds = omega arith in
    let on : Ticks sys rate ((t + 1) + length ds) es asserted h = subst (λ n. Ticks sys rate n es asserted h) same b in
    go (d.rate == rate) a (λ rest k. ticks-append sys rate (t + 1) ds es asserted rest h k on)
  where
    go : (u : Bool)
        → MatchBool u (((false ≡ true) × FiresInVain t d g) ⊎ ((one rest : List Told) × (g ≡ one ++ rest) × TicksOne (ring_of sys d.object) t d one × Ticks sys rate (t + 1) ds false rest))
        (Ticks sys rate (t + 1) ds false g)
        → ((rest : List Told) → Ticks sys rate (t + 1) ds false rest → Ticks sys rate (t + 1) (ds ++ es) asserted (rest ++ h))
        → MatchBool u (((asserted ≡ true) × FiresInVain t d (g ++ h))
        ⊎ ((one rest : List Told) × (g ++ h ≡ one ++ rest) × TicksOne (ring_of sys d.object) t d one × Ticks sys rate (t + 1) (ds ++ es) asserted rest))
        (Ticks sys rate (t + 1) (ds ++ es) asserted (g ++ h))
    go true (inl k) ih = absurd (cc (k.0))
    go true (inr k) ih = inr (k.0, k.1 ++ h, ap (λ x. x ++ h) k.2 ∙ append_assoc k.0 k.1 h, k.3, ih k.1 k.4)
    go false k ih = ih g k

-- a timer of another rate
ticks-other : (sys : System) (rate t : ℕ) (d : TimerDef) → (d.rate == rate) ≡ false → Ticks sys rate t (d ∷ []) false []
unfolding Ticks
ticks-other sys rate t d is = rw is (refl, refl)

ticks-one : (sys : System) (rate t : ℕ) (d : TimerDef) (g : List Told) → (d.rate == rate) ≡ true → TicksOne (ring_of sys d.object) t d g → Ticks sys rate t (d ∷ []) false g
unfolding Ticks
ticks-one sys rate t d g is h = rw is (inr (g, [], sym (append-nil g), h, (refl, refl)))

ticks-vain : (sys : System) (rate t : ℕ) (d : TimerDef) (others : List TimerDef) (g : List Told) → (d.rate == rate) ≡ true → FiresInVain t d g → Ticks sys rate t (d ∷ others) true g
unfolding Ticks
ticks-vain sys rate t d others g is h = rw is (inl (refl, h))

-- what the timers that are left could add
could_tick : (sys : System) (rate t : ℕ) (ds : List TimerDef) → (g : List Told) × Ticks sys rate t ds false g
unfolding Ticks TicksOne
could_tick sys rate t [] = ([], (refl, refl))
could_tick sys rate t (d ∷ ds) = go (d.rate == rate) (could_tick sys rate (t + 1) ds)
  where
    go : (u : Bool) → (g : List Told) × Ticks sys rate (t + 1) ds false g
        → (g : List Told) × MatchBool u (((false ≡ true) × FiresInVain t d g)
        ⊎ ((one rest : List Told) × (g ≡ one ++ rest) × TicksOne (ring_of sys d.object) t d one × Ticks sys rate (t + 1) ds false rest))
        (Ticks sys rate (t + 1) ds false g)
    go true rest = (plain (item.Idle t 0) ∷ rest.0, inr (plain (item.Idle t 0) ∷ [], rest.0, refl, inl (0, refl), rest.1))
    go false rest = rest

-- some, where the first of them is of the rate
could_next : (sys : System) (rate t : ℕ) (d : TimerDef) (ds : List TimerDef) → (d.rate == rate) ≡ true → (g : List Told) × Ticks sys rate t (d ∷ ds) false g × (g ≢ [])
unfolding Ticks TicksOne
could_next sys rate t d ds is =
    let rest = could_tick sys rate (t + 1) ds in
    (plain (item.Idle t 0) ∷ rest.0, rw is (inr (plain (item.Idle t 0) ∷ [], rest.0, refl, inl (0, refl), rest.1)), λ none. absurd (cc))

-- The loop over the timers.

pub ticked-none : (rate : ℕ) (a : LaneView) → TickedSome rate [] a a
unfolding Ticks
ticked-none rate a = record { g = []; grows = gains-none a; fits = (refl, refl); hands = refl }

pub ticked-other : (rate : ℕ) (done : List TimerDef) (d : TimerDef) (a v : LaneView) → TickedSome rate done a v → (d.rate == rate) ≡ false → TickedSome rate (done ++ d ∷ []) a v
ticked-other rate done d a v some is = record {
  g = some.g;
  grows = some.grows;
  fits = subst (λ g. Ticks a.sys rate 1 (done ++ d ∷ []) false g) (append-nil some.g) (ticks-append a.sys rate 1 done (d ∷ []) false some.g [] some.fits (ticks-other a.sys rate (1 + length done) d is));
  hands = some.hands;
}

-- what fits a timer of that object and signal fits this one
as_timer : (ring t : ℕ) (d : TimerDef) (g : List Told) → TicksOne ring t (timer_posting d.object d.sig) g → TicksOne ring t d g
unfolding TicksOne
as_timer ring t d g h = h

as_vain : (t : ℕ) (d : TimerDef) (g : List Told) → FiresInVain t (timer_posting d.object d.sig) g → FiresInVain t d g
unfolding FiresInVain
as_vain t d g h = h

pub ticked-more : (rate : ℕ) (done : List TimerDef) (d : TimerDef) (a v w : LaneView) → TickedSome rate done a v → (d.rate == rate) ≡ true
    → TickedTimer (1 + length done) d.object d.sig v w → TickedSome rate (done ++ d ∷ []) a w
ticked-more rate done d a v w some is one =
    let sys : v.sys ≡ a.sys = some.grows.sys in
    let fits : TicksOne (ring_of a.sys d.object) (1 + length done) d one.g =
    subst (λ s. TicksOne (ring_of s d.object) (1 + length done) d one.g) sys (as_timer (ring_of v.sys d.object) (1 + length done) d one.g one.fits) in
    record {
      g = some.g ++ one.g;
      grows = ticks-then some.g one.g a v w some.grows one.grows;
      fits = ticks-append a.sys rate 1 done (d ∷ []) false some.g one.g some.fits (ticks-one a.sys rate (1 + length done) d one.g is fits);
      hands = one.hands ∙ some.hands;
    }

pub ticked-vain : (rate : ℕ) (done others : List TimerDef) (d : TimerDef) (a v w : LaneView) → TickedSome rate done a v → (d.rate == rate) ≡ true
    → FiredInVain (1 + length done) d.object d.sig v w → a.sys.timers ≡ done ++ d ∷ others → TickedAll rate true a w
ticked-vain rate done others d a v w some is one split = record {
  g = some.g ++ one.g;
  grows = ticks-then some.g one.g a v w some.grows one.grows;
  fits =
      subst (λ ds. Ticks a.sys rate 1 ds true (some.g ++ one.g)) (sym split)
      (ticks-append a.sys rate 1 done (d ∷ others) true some.g one.g some.fits (ticks-vain a.sys rate (1 + length done) d others one.g is (as_vain (1 + length done) d one.g one.fits)));
  hands = λ no. absurd (cc);
}

pub ticked-cut : (rate : ℕ) (done : List TimerDef) (d : TimerDef) (others : List TimerDef) (a v w : LaneView) → TickedSome rate done a v → a.sys.timers ≡ done ++ d ∷ others
    → (d.rate == rate) ≡ true → w ≡ v → TickCut rate a w
ticked-cut rate done d others a v w some split is same =
    let rest = could_next a.sys rate (1 + length done) d others is in
    record {
      g = some.g;
      rest = rest.0;
      grows = subst (λ x. GrowsByTicks some.g a x) (sym same) some.grows;
      fits = subst (λ ds. Ticks a.sys rate 1 ds false (some.g ++ rest.0)) (sym split) (ticks-append a.sys rate 1 done (d ∷ others) false some.g rest.0 some.fits rest.1);
      some = rest.2;
    }

pub ticked-all : (rate : ℕ) (done : List TimerDef) (a w : LaneView) → TickedSome rate done a w → done ≡ a.sys.timers → TickedAll rate false a w
ticked-all rate done a w some all = record {
  g = some.g;
  grows = some.grows;
  fits = subst (λ ds. Ticks a.sys rate 1 ds false some.g) all some.fits;
  hands = λ no. some.hands;
}

-- The timer at a place of the list.

pub timer-object : (sys : System) (d : TimerDef) → IsSoundTimer sys d → is_object sys d.object ≡ true
unfolding is_object
timer-object sys d h = rw h.is_owner refl

pub timer-static : (sys : System) (d : TimerDef) → IsSoundTimer sys d → is_static sys d.sig ≡ true
unfolding is_static
timer-static sys d h = rw (le-leb 4 d.sig h.from_four, h.is_signal, h.static) refl

pub record At (xs : List TimerDef) (i : ℕ) (d : TimerDef) : Type 0 where
  pub within : i < length xs
  pub here : slice_get xs i ≡ Some d
  pub more : take (i + 1) xs ≡ take i xs ++ d ∷ []
  pub split : xs ≡ take i xs ++ d ∷ drop (i + 1) xs
  pub count : length (take i xs) ≡ i

pub at : (xs ys : List TimerDef) (i : ℕ) (dflt : TimerDef) → ys ≡ xs → i < length ys → At xs i (get_or ys i dflt)
at xs ys i dflt same lt =
    subst (λ zs. At zs i (get_or ys i dflt)) same
    (record {
      within = lt;
      here = slice_get-get_or ys i dflt lt;
      more = take_more ys i dflt lt;
      split =
          sym (take-append-drop (i + 1) ys)
          ∙ ap (λ zs. zs ++ drop (i + 1) ys) (take_more ys i dflt lt)
          ∙ append_assoc (take i ys) (get_or ys i dflt ∷ []) (drop (i + 1) ys);
      count = length-take-le i ys (omega (arith, lt));
    })

pub sound-at : (sys : System) (i : ℕ) (d : TimerDef) → IsSound sys → At sys.timers i d → IsSoundTimer sys d
sound-at sys i d sound at = every-at (IsSoundTimer sys) sys.timers sound.timers i d at.here

-- one round of the loop
pub ticked-skip : (rate i : ℕ) (ts : List TimerDef) (d : TimerDef) (a v w : LaneView) → TickedSome rate (take i ts) a v → At ts i d → (d.rate ≡ rate → ⊥) → w ≡ v
    → TickedSome rate (take (i + 1) ts) a w
ticked-skip rate i ts d a v w some here other same =
    subst (λ xs. TickedSome rate xs a w) (sym here.more)
    (subst (λ x. TickedSome rate (take i ts ++ d ∷ []) a x) (sym same) (ticked-other rate (take i ts) d a v some (ne_eqb d.rate rate other)))

first_at : (rate i t n : ℕ) (ts : List TimerDef) (d : TimerDef) → At ts i d → t ≡ i + 1 → t ≡ 1 + length (take i ts)
first_at rate i t n ts d here is = let count = here.count in omega (arith, is, count)

pub ticked-round : (rate i t n : ℕ) (ts : List TimerDef) (d : TimerDef) (x : Did) (a v u w : LaneView) → TickedSome rate (take i ts) a v → At ts i d → d.rate ≡ rate → t ≡ i + 1
    → TicksTimer t d.object d.sig v u (Ok x) → x ≡ did.Value n → w ≡ u → TickedSome rate (take (i + 1) ts) a w
ticked-round rate i t n ts d x a v u w some here same is one value left =
    let valued : TickedTimer t d.object d.sig v u = subst (λ y. TicksTimer t d.object d.sig v u (Ok y)) value one in
    let placed : TickedTimer (1 + length (take i ts)) d.object d.sig v u = subst (λ k. TickedTimer k d.object d.sig v u) (first_at rate i t n ts d here is) valued in
    subst (λ xs. TickedSome rate xs a w) (sym here.more)
    (subst (λ z. TickedSome rate (take i ts ++ d ∷ []) a z) (sym left) (ticked-more rate (take i ts) d a v u some (eq-eqb d.rate rate same) placed))

pub ticked-stop : (rate i t code : ℕ) (ts : List TimerDef) (d : TimerDef) (x : Did) (a v w : LaneView) → TickedSome rate (take i ts) a v → At ts i d → a.sys.timers ≡ ts → d.rate ≡ rate
    → t ≡ i + 1 → TicksTimer t d.object d.sig v w (Ok x) → x ≡ did.Assert code → (code ≡ 1) × TickedAll rate true a w
ticked-stop rate i t code ts d x a v w some here timers same is one value =
    let valued : (code ≡ 1) × FiredInVain t d.object d.sig v w = subst (λ y. TicksTimer t d.object d.sig v w (Ok y)) value one in
    let placed : FiredInVain (1 + length (take i ts)) d.object d.sig v w = subst (λ k. FiredInVain k d.object d.sig v w) (first_at rate i t code ts d here is) valued.1 in
    (valued.0, ticked-vain rate (take i ts) (drop (i + 1) ts) d a v w some (eq-eqb d.rate rate same) placed (timers ∙ here.split))

pub ticked-left : (rate i : ℕ) (ts : List TimerDef) (d : TimerDef) (a v w : LaneView) → TickedSome rate (take i ts) a v → At ts i d → a.sys.timers ≡ ts → d.rate ≡ rate → w ≡ v → TickCut rate a w
ticked-left rate i ts d a v w some here timers is same = ticked-cut rate (take i ts) d (drop (i + 1) ts) a v w some (timers ∙ here.split) (eq-eqb d.rate rate is) same

pub ticked-end : (rate i : ℕ) (ts : List TimerDef) (a w : LaneView) → TickedSome rate (take i ts) a w → a.sys.timers ≡ ts → length ts ≤ i → TickedAll rate false a w
ticked-end rate i ts a w some timers all = ticked-all rate (take i ts) a w some (take_all i ts all ∙ sym timers)
