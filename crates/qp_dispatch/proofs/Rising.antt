-- An assertion takes no reference out of the hands.
use Rattle.std.proofs.Common.{◌≡◌, ℕ, zero, suc, ◌≤◌, Bool, true, false, List, [], ◌∷◌, ◌++◌, map, drop, refl, sym, subst, arith, inl, inr, Option, Some, None, if◌then◌else◌}
use Rattle.std.specs.List.{list_all}
use Rattle.std.specs.Option.{option_and_then}
use Rattle.std.proofs.lemmas.Bool.{and_parts}
use Rattle.qp_model.specs.declared.systems.System.{System}
use Rattle.qp_model.specs.declared.bodies.Entry.{Entry}
use Rattle.qp_model.specs.declared.bodies.Body.{Body}
use Rattle.qp_model.specs.declared.bodies.Body.TheVariants as item
use Rattle.qp_model.specs.Told.{Told, Known, plain, for_object}
use Rattle.qp_model.specs.Calls as call
use Rattle.qp_model.specs.Calls.{Call, Answer, Granted, Refused, Flushed, AtQueue, AtPool, AtTimer, AtTicks, AtFront, is_assertion}
use Rattle.qp_model.specs.Deferral.{keep, kept_after}
use Rattle.qp_model.specs.Line.{is_front}
use Rattle.qp_model.specs.Shapes.{Fits, MakesBlock, MakesNew, again_by, MakesAgain, MakesAgainNow, Posts, PostsFront, PostsNew, PostsNewFront, Forwards, PostsOne, NoBlockFor, Defers, Recalls, Subscribes, Unsubscribes, Arms, Rearms, Disarms}
use Rattle.qp_model.proofs.FitsLemmas.{all-append}
use Rattle.qp_calls.specs.Tokens.{Token, Held, Loose, same_token, take_out, hands_of, hands_by, hands_after}
use Rattle.qp_calls.specs.Counting.{one_if, times, count_of}
use Rattle.qp_calls.specs.Deferring.{tokens_in}
use Rattle.qp_calls.specs.LaneView.{LaneView, Grows}
use Rattle.qp_calls.proofs.CountLemmas.{count-with}
use Rattle.qp_calls.proofs.HandLemmas.{same-equal}
use Rattle.qp_dispatch.specs.CallsDone.{is_single}

-- a record that takes no reference out of the hands, and no entry into the deferred list
abbrev pub is_mild : Body → Bool
is_mild (item.New p n b from sig pars) = true
is_mild (item.Inc p b r) = true
is_mild (item.Recall e) = true
is_mild (item.NoEntry a f l m) = true
is_mild (item.NoBlock p n free) = true
is_mild (item.Armed t n c) = true
is_mild (item.BadTicks t ticks interval) = true
is_mild (item.NoLifo a f l m) = true
is_mild _ = false

abbrev pub Mild : List Told → Type 0
Mild g = list_all (λ t. is_mild t.body) g ≡ true

mild-same : {g h : List Told} → g ≡ h → Mild h → Mild g
mild-same {g} {h} e k = subst (λ us. Mild us) (sym e) k

mild-append : (g h : List Told) → Mild g → Mild h → Mild (g ++ h)
mild-append g h a b = all-append (λ t. is_mild t.body) g h a b

mild-again : (old : Entry) (head : List Told) (e : Entry) → MakesAgain old head e → Mild head
unfolding MakesAgain
mild-again old head e h = by_pool old.pool h
  where
    by_pool : (p : ℕ) → again_by p old head e → list_all (λ t. is_mild t.body) head ≡ true
    by_pool zero h = rw h.0 refl
    by_pool (suc p) h = rw h.1 refl

mild-again_now : (now : Option Entry) (head : List Told) (e : Entry) → MakesAgainNow now head e → Mild head
unfolding MakesAgainNow
mild-again_now None head e h = absurd h
mild-again_now (Some now) head e h = mild-again now head e h

mild-new : (fixed : Bool) (sizes : List ℕ) (sig : ℕ) (pars : List ℕ) (reserve : Option ℕ) (head : List Told) (e : Entry) → MakesNew fixed sizes sig pars reserve head e → Mild head
unfolding MakesNew MakesBlock
mild-new true sizes sig pars reserve head e h = rw h.0 refl
mild-new false sizes sig pars reserve head e h = rw h.6 refl

no_block-mild : (fixed : Bool) (sizes pars : List ℕ) (reserve : Option ℕ) (answer : Answer) (g : List Told) → is_assertion answer ≡ true
    → NoBlockFor fixed sizes pars reserve answer g → Mild g
unfolding NoBlockFor
no_block-mild fixed sizes pars None AtPool g is h = rw h.5 refl
no_block-mild fixed sizes pars (Some r) Refused g is h = absurd (cc)
no_block-mild fixed sizes pars reserve _ g is h = absurd h

posts-mild : (ring to : ℕ) (margin : Option ℕ) (head : List Told) (e : Entry) (answer : Answer) (g : List Told) → is_assertion answer ≡ true
    → Mild head → Posts ring to margin head e answer g → Mild g
unfolding Posts
posts-mild ring to margin head e Granted g is c h = absurd (cc)
posts-mild ring to (Some k) head e Refused g is c h = absurd (cc)
posts-mild ring to None head e AtQueue g is c h = mild-same h.3 (mild-append head _ c refl)
posts-mild ring to margin head e _ g is c h = absurd h

front-mild : (o : ℕ) (head : List Told) (e : Entry) (answer : Answer) (g : List Told) → is_assertion answer ≡ true → Mild head → PostsFront o head e answer g → Mild g
unfolding PostsFront
front-mild o head e Granted g is c h = absurd (cc)
front-mild o head e AtFront g is c h = mild-same h.3 (mild-append head _ c refl)
front-mild o head e _ g is c h = absurd h

pub one-mild : (ring : ℕ) (e : Entry) (to : ℕ) (g : List Told) → PostsOne ring e to AtQueue g → Mild g
unfolding PostsOne
one-mild ring e to g h = posts-mild ring to None h.0 h.1 AtQueue g refl (mild-again e h.0 h.1 h.2) h.3

arms-mild : (t ticks interval : ℕ) (answer : Answer) (g : List Told) → is_assertion answer ≡ true → Arms t ticks interval answer g → Mild g
unfolding Arms
arms-mild t ticks interval Granted g is h = absurd (cc)
arms-mild t ticks interval AtTimer g is h = rw h.2 refl
arms-mild t ticks interval AtTicks g is h = rw h refl
arms-mild t ticks interval _ g is h = absurd h

rearms-mild : (t ticks : ℕ) (answer : Answer) (g : List Told) → is_assertion answer ≡ true → Rearms t ticks answer g → Mild g
unfolding Rearms
rearms-mild t ticks Granted g is h = absurd (cc)
rearms-mild t ticks Refused g is h = absurd (cc)
rearms-mild t ticks AtTicks g is h = rw h refl
rearms-mild t ticks _ g is h = absurd h

disarms-mild : (t : ℕ) (answer : Answer) (g : List Told) → is_assertion answer ≡ true → Disarms t answer g → Mild g
unfolding Disarms
disarms-mild t Granted g is h = absurd (cc)
disarms-mild t Refused g is h = absurd (cc)
disarms-mild t _ g is h = absurd h

subscribes-mild : (sig : ℕ) (answer : Answer) (g : List Told) → is_assertion answer ≡ true → Subscribes sig answer g → Mild g
unfolding Subscribes
subscribes-mild sig Granted g is h = absurd (cc)
subscribes-mild sig Refused g is h = absurd (cc)
subscribes-mild sig _ g is h = absurd h

unsubscribes-mild : (sig : ℕ) (answer : Answer) (g : List Told) → is_assertion answer ≡ true → Unsubscribes sig answer g → Mild g
unfolding Unsubscribes
unsubscribes-mild sig Granted g is h = absurd (cc)
unsubscribes-mild sig Refused g is h = absurd (cc)
unsubscribes-mild sig _ g is h = absurd h

defers-mild : (now : Option Entry) (answer : Answer) (g : List Told) → is_assertion answer ≡ true → Defers now answer g → Mild g
unfolding Defers
defers-mild now Granted g is h = absurd (cc)
defers-mild now Refused g is h = absurd (cc)
defers-mild now _ g is h = absurd h

recalls-mild : (o : ℕ) (answer : Answer) (g : List Told) → is_assertion answer ≡ true → Recalls o answer g → Mild g
unfolding Recalls
recalls-mild o Granted g is h = absurd (cc)
recalls-mild o Refused g is h = absurd (cc)
recalls-mild o AtFront g is h = mild-same h.6 (mild-append (plain (item.Recall h.0) ∷ []) h.3 refl (front-mild o h.2 h.1 AtFront h.3 refl (mild-again h.0 h.2 h.1 h.4) h.5))
recalls-mild o _ g is h = absurd h

-- a call other than a publication
pub fits-mild : (sys : System) (o : ℕ) (now : Option Entry) (x : Call) (answer : Answer) (g : List Told) → is_single x ≡ true → is_assertion answer ≡ true
    → Fits sys o now x answer g → Mild g
unfolding Fits PostsNew PostsNewFront Forwards
fits-mild sys o now (call.Post to sig pars margin reserve) answer g one_if is (inl h) = no_block-mild _ _ pars reserve answer g is h
fits-mild sys o now (call.Post to sig pars margin reserve) answer g one_if is (inr h) = posts-mild _ to margin h.0 h.1 answer g is (mild-new _ _ sig pars reserve h.0 h.1 h.2) h.3
fits-mild sys o now (call.Lifo sig pars reserve) answer g one_if is (inl h) = no_block-mild _ _ pars reserve answer g is h
fits-mild sys o now (call.Lifo sig pars reserve) answer g one_if is (inr h) = front-mild o h.0 h.1 answer g is (mild-new _ _ sig pars reserve h.0 h.1 h.2) h.3
fits-mild sys o now (call.Forward to margin) answer g one_if is h = posts-mild _ to margin h.0 h.1 answer g is (mild-again_now now h.0 h.1 h.2) h.3
fits-mild sys o now (call.Publish sig pars reserve) answer g one_if is h = absurd (cc)
fits-mild sys o now call.Defer answer g one_if is h = defers-mild now answer g is h
fits-mild sys o now call.Recall answer g one_if is h = recalls-mild o answer g is h
fits-mild sys o now call.Flush (Flushed n) g one_if is h = absurd (cc)
fits-mild sys o now call.Flush _ g one_if is h = absurd h
fits-mild sys o now (call.Subscribe sig) answer g one_if is h = subscribes-mild sig answer g is h
fits-mild sys o now (call.Unsubscribe sig) answer g one_if is h = unsubscribes-mild sig answer g is h
fits-mild sys o now (call.Arm t ticks interval) answer g one_if is h = arms-mild _ ticks interval answer g is h.0
fits-mild sys o now (call.Rearm t ticks) answer g one_if is h = rearms-mild _ ticks answer g is h.0
fits-mild sys o now (call.Disarm t) answer g one_if is h = disarms-mild _ answer g is h

-- a loose block taken out leaves the references
loose-out : (p b r q c : ℕ) (u : Bool) (hands : List Token) → count_of (Held p b r) (take_out (Loose q c u) hands) ≡ count_of (Held p b r) hands
unfolding take_out times
loose-out p b r q c u [] = refl
loose-out p b r q c u (x ∷ xs) = go (same_token (Loose q c u) x) refl (loose-out p b r q c u xs)
  where
    go : (v : Bool) → same_token (Loose q c u) x ≡ v → count_of (Held p b r) (take_out (Loose q c u) xs) ≡ count_of (Held p b r) xs
        → count_of (Held p b r) (if v then xs else x ∷ take_out (Loose q c u) xs) ≡ count_of (Held p b r) (x ∷ xs)
    go true is ih = let same : Loose q c u ≡ x = same-equal (Loose q c u) x is in rw (sym same) (omega arith)
    go false is ih = rw ih refl

mild-hands : (p b r : ℕ) (hands : List Token) (x : Body) (known : Known) → is_mild x ≡ true → count_of (Held p b r) hands ≤ count_of (Held p b r) (hands_of hands x known)
unfolding times
mild-hands p b r hands (item.New q n c from sig pars) known h = omega arith
mild-hands p b r hands (item.Inc q c s) known h = let out = loose-out p b r q c false hands in omega (arith, out)
mild-hands p b r hands (item.Recall e) known h = omega arith
mild-hands p b r hands (item.NoEntry a f l m) known h = omega arith
mild-hands p b r hands (item.NoBlock q n free) known h = omega arith
mild-hands p b r hands (item.Armed t n c) known h = omega arith
mild-hands p b r hands (item.BadTicks t ticks interval) known h = omega arith
mild-hands p b r hands (item.NoLifo a f l m) known h = omega arith
mild-hands p b r hands _ known h = absurd (cc)

mild-after : (p b r o : ℕ) (hands : List Token) (g : List Told) → Mild g → count_of (Held p b r) hands ≤ count_of (Held p b r) (hands_after hands (map (for_object o) g))
unfolding hands_after hands_by
mild-after p b r o hands [] m = omega arith
mild-after p b r o hands (t ∷ g) m =
    let parts = and_parts (is_mild t.body) (list_all (λ t. is_mild t.body) g) m in
    let here = mild-hands p b r hands t.body t.known parts.0 in
    let there = mild-after p b r o (hands_of hands t.body t.known) g parts.1 in
    omega (arith, here, there)

-- no reference leaves the hands by mild records
pub mild-rise : (g : List Told) (v w : LaneView) → Mild g → Grows g v w → (p b r : ℕ) → count_of (Held p b r) v.hands ≤ count_of (Held p b r) w.hands
mild-rise g v w m grows p b r = rw grows.hands (mild-after p b r v.by v.hands g m)

drop_one : (t : Token) (es : List Entry) → count_of t (tokens_in (drop 1 es)) ≤ count_of t (tokens_in es)
drop_one t [] = omega arith
drop_one t (e ∷ es) = let front = count-with t e (tokens_in es) in omega (arith, front)

mild-keep : (t : Token) (room : ℕ) (kept more : List Entry) (b : Body) → is_mild b ≡ true → keep room kept b ≡ Some more → count_of t (tokens_in more) ≤ count_of t (tokens_in kept)
unfolding keep
mild-keep t room kept more (item.Recall e) h is = go (is_front e kept) is
  where
    go : (u : Bool) → (if u then Some (drop 1 kept) else None) ≡ Some more → count_of t (tokens_in more) ≤ count_of t (tokens_in kept)
    go true is = let same : drop 1 kept ≡ more = cc in subst (λ x. count_of t (tokens_in x) ≤ count_of t (tokens_in kept)) same (drop_one t kept)
    go false is = absurd (cc)
mild-keep t room kept more (item.Defer e) h is = absurd (cc)
mild-keep t room kept more item.NoDefer h is = absurd (cc)
mild-keep t room kept more item.NoRecall h is = absurd (cc)
mild-keep t room kept more (item.Flush e) h is = absurd (cc)
mild-keep t room kept more _ h is = let same : kept ≡ more = cc in subst (λ x. count_of t (tokens_in x) ≤ count_of t (tokens_in kept)) same (omega arith)

-- nor does an entry come into the deferred list
pub mild-kept : (t : Token) (room : ℕ) (kept more : List Entry) (g : List Told) → Mild g → kept_after room kept g ≡ Some more → count_of t (tokens_in more) ≤ count_of t (tokens_in kept)
unfolding kept_after
mild-kept t room kept more [] m is = let same : kept ≡ more = cc in subst (λ x. count_of t (tokens_in x) ≤ count_of t (tokens_in kept)) same (omega arith)
mild-kept t room kept more (x ∷ g) m is =
    let parts = and_parts (is_mild x.body) (list_all (λ t. is_mild t.body) g) m in
    go (keep room kept x.body) refl parts.0 (λ next. mild-kept t room next more g parts.1) is
  where
    go : (o : Option (List Entry)) → keep room kept x.body ≡ o → is_mild x.body ≡ true
        → ((next : List Entry) → kept_after room next g ≡ Some more → count_of t (tokens_in more) ≤ count_of t (tokens_in next))
        → option_and_then (λ rest. kept_after room rest g) o ≡ Some more → count_of t (tokens_in more) ≤ count_of t (tokens_in kept)
    go None k h ih e = absurd (cc)
    go (Some next) k h ih e =
        let first = mild-keep t room kept next x.body h k in
        let after = ih next e in
        omega (arith, first, after)
