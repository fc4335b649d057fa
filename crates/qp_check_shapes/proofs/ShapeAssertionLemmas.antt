-- The records of calls that end in their assertions.
use Rattle.std.proofs.Common.{◌≡◌, ℕ, ◌==◌, nat_lt, Bool, true, false, List, [], ◌∷◌, ◌++◌, length, Some, None, refl, sym, ◌∙◌, ap, subst, inl, inr, ◌⊎◌, arith, append_assoc}
use Rattle.std.proofs.lemmas.Bool.{or_left, eqb-true, or_right}
use Rattle.std.proofs.lemmas.Bool.Decides.{nat_tests}
use Rattle.std.specs.declared.option.Option.{Option}
use Rattle.std.specs.Option.{unwrap_or}
use Rattle.qp_model.specs.declared.systems.System.{System}
use Rattle.qp_model.specs.declared.bodies.Entry.{Entry}
use Rattle.qp_model.specs.declared.bodies.Body.TheVariants as item
use Rattle.qp_model.specs.Record.{entry}
use Rattle.qp_model.specs.Told.{Told, plain}
use Rattle.qp_model.specs.Calls as call
use Rattle.qp_model.specs.Calls.{Answer, Granted, Refused, Flushed, AtQueue, AtPool, AtTimer, AtTicks, AtFront, is_assertion}
use Rattle.qp_model.specs.Parts.{is_static, sizes_of}
use Rattle.qp_model.specs.Sites.{ring_of}
use Rattle.qp_model.specs.Shapes.{Fits, FitsAny, MakesBlock, NoBlockFor, MakesAgain, MakesAgainNow, Posts, PostsFront, PostsNew, PostsNewFront, Forwards, Defers, Recalls, Subscribes, Unsubscribes, Arms, Rearms, Disarms}
use Rattle.qp_model.proofs.LineLemmas.{same_number}
use Rattle.qp_check_shapes.specs.ShapeUnit.{is_used, works_on, works_on_static, some_static}
use Rattle.qp_check_shapes.proofs.ShapePostLemmas.{new-static, new-cases, again-cases, again-static, again-pooled}
use Rattle.qp_check_shapes.proofs.ShapePartLemmas.{static-some, some-static, first-goes, used-first, first-used}
use Rattle.qp_check_shapes.specs.ShapeAssertion.{IsAsserted, Asserts, behind_cut, behind_recall_cut, plain_cut, given_cut, behind_assertion}

-- a post, and a last-in post, that find no entry
post-cut : (ring to : ℕ) (margin : Option ℕ) (head : List Told) (e : Entry) (answer : Answer) (g : List Told)
    → Posts ring to margin head e answer g → is_assertion answer ≡ true → (f l m : ℕ) × (g ≡ head ++ (plain (item.NoEntry to f l m) ∷ []))
unfolding Posts
post-cut ring to margin head e Granted g h cut = absurd (cc)
post-cut ring to None head e AtQueue g h cut = h
post-cut ring to margin head e Refused g h cut = absurd (cc)
post-cut ring to margin head e (Flushed n) g h cut = absurd (cc)
post-cut ring to (Some k) head e _ g h cut = absurd h
post-cut ring to None head e _ g h cut = absurd h

front-cut : (o : ℕ) (head : List Told) (e : Entry) (answer : Answer) (g : List Told)
    → PostsFront o head e answer g → is_assertion answer ≡ true → (f l m : ℕ) × (g ≡ head ++ (plain (item.NoLifo o f l m) ∷ []))
unfolding PostsFront
front-cut o head e AtFront g h cut = h
front-cut o head e Granted g h cut = absurd (cc)
front-cut o head e _ g h cut = absurd h

-- no block for a new event
block-cut : (fixed : Bool) (sizes : List ℕ) (pars : List ℕ) (reserve : Option ℕ) (answer : Answer) (g : List Told)
    → NoBlockFor fixed sizes pars reserve answer g → is_assertion answer ≡ true → (p n free : ℕ) × (g ≡ plain (item.NoBlock p n free) ∷ []) × (is_used sizes p ≡ true)
unfolding NoBlockFor
block-cut fixed sizes pars None AtPool g h cut = (h.0, h.1, h.2, h.5, first-used sizes (length pars) h.0 h.4)
block-cut fixed sizes pars (Some r) Refused g h cut = absurd (cc)
block-cut fixed sizes pars None _ g h cut = absurd h
block-cut fixed sizes pars (Some r) _ g h cut = absurd h

-- a block given out, and what is behind its first reference
given-whole : (sys : System) (o : ℕ) (now : Option Entry) (sig : ℕ) (pars : List ℕ) (reserve : Option ℕ) (head : List Told) (e : Entry) (tail rest : List Told)
    → is_static sys sig ≡ false → MakesBlock (sizes_of sys) sig pars reserve head e → behind_cut o tail ≡ Some rest → behind_assertion sys o now (head ++ tail) ≡ Some rest
unfolding MakesBlock given_cut
given-whole sys o now sig pars reserve head e tail rest pooled h behind =
    let goes = first-goes (sizes_of sys) (length pars) h.0 h.8 in
    let free : nat_lt 0 h.4 ≡ true = above (unwrap_or reserve 0) h.4 h.9 in
    rw (h.6, free, goes, pooled, same_number h.0, same_number h.2) behind
  where
    above : (k free : ℕ) → nat_lt k free ≡ true → nat_lt 0 free ≡ true
    above k free h = grind (arith, nat_tests)

post-whole : (sys : System) (o : ℕ) (now : Option Entry) (to sig : ℕ) (pars : List ℕ) (margin reserve : Option ℕ) (answer : Answer) (g rest : List Told)
    → PostsNew (is_static sys sig) (sizes_of sys) (ring_of sys to) to sig pars margin reserve answer g → is_assertion answer ≡ true → behind_assertion sys o now (g ++ rest) ≡ Some rest
unfolding PostsNew plain_cut
post-whole sys o now to sig pars margin reserve answer g rest (inl h) cut = let none = block-cut _ _ pars reserve answer g h cut in rw (none.3, none.4) refl
post-whole sys o now to sig pars margin reserve answer g rest (inr h) cut =
    let post = post-cut _ to margin h.0 h.1 answer g h.3 cut in
    subst (λ us. behind_assertion sys o now us ≡ Some rest) (sym (ap (λ us. us ++ rest) post.3 ∙ append_assoc h.0 (plain (item.NoEntry to post.0 post.1 post.2) ∷ []) rest))
    (by post.0 post.1 post.2 (new-cases _ _ sig pars reserve h.0 h.1 h.2))
  where
    by : (f l m : ℕ)
        → ((is_static sys sig ≡ true) × (h.0 ≡ []) × (h.1 ≡ entry 0 sig 0)) ⊎ ((is_static sys sig ≡ false) × MakesBlock (sizes_of sys) sig pars reserve h.0 h.1)
        → behind_assertion sys o now (h.0 ++ (plain (item.NoEntry to f l m) ∷ rest)) ≡ Some rest
    by f l m (inl k) = let test = or_left (some_static sys) (works_on_static now) (static-some sys sig k.0) in rw (k.1, test) refl
    by f l m (inr k) = given-whole sys o now sig pars reserve h.0 h.1 (plain (item.NoEntry to f l m) ∷ rest) rest k.0 k.1 refl

lifo-whole : (sys : System) (o : ℕ) (now : Option Entry) (sig : ℕ) (pars : List ℕ) (reserve : Option ℕ) (answer : Answer) (g rest : List Told)
    → PostsNewFront (is_static sys sig) (sizes_of sys) o sig pars reserve answer g → is_assertion answer ≡ true → behind_assertion sys o now (g ++ rest) ≡ Some rest
unfolding PostsNewFront plain_cut
lifo-whole sys o now sig pars reserve answer g rest (inl h) cut = let none = block-cut _ _ pars reserve answer g h cut in rw (none.3, none.4) refl
lifo-whole sys o now sig pars reserve answer g rest (inr h) cut =
    let front = front-cut o h.0 h.1 answer g h.3 cut in
    subst (λ us. behind_assertion sys o now us ≡ Some rest) (sym (ap (λ us. us ++ rest) front.3 ∙ append_assoc h.0 (plain (item.NoLifo o front.0 front.1 front.2) ∷ []) rest))
    (by front.0 front.1 front.2 (new-cases _ _ sig pars reserve h.0 h.1 h.2))
  where
    by : (f l m : ℕ)
        → ((is_static sys sig ≡ true) × (h.0 ≡ []) × (h.1 ≡ entry 0 sig 0)) ⊎ ((is_static sys sig ≡ false) × MakesBlock (sizes_of sys) sig pars reserve h.0 h.1)
        → behind_assertion sys o now (h.0 ++ (plain (item.NoLifo o f l m) ∷ rest)) ≡ Some rest
    by f l m (inl k) = let test = static-some sys sig k.0 in rw (k.1, test, same_number o) refl
    by f l m (inr k) = given-whole sys o now sig pars reserve h.0 h.1 (plain (item.NoLifo o f l m) ∷ rest) rest k.0 k.1 (rw (same_number o) refl)

forward-whole : (sys : System) (o : ℕ) (now : Option Entry) (to : ℕ) (margin : Option ℕ) (answer : Answer) (g rest : List Told)
    → Forwards (ring_of sys to) now to margin answer g → is_assertion answer ≡ true → behind_assertion sys o now (g ++ rest) ≡ Some rest
unfolding Forwards MakesAgainNow plain_cut
forward-whole sys o None to margin answer g rest h cut = absurd h.2
forward-whole sys o (Some k) to margin answer g rest h cut =
    let post = post-cut _ to margin h.0 h.1 answer g h.3 cut in
    subst (λ us. behind_assertion sys o (Some k) us ≡ Some rest) (sym (ap (λ us. us ++ rest) post.3 ∙ append_assoc h.0 (plain (item.NoEntry to post.0 post.1 post.2) ∷ []) rest))
    (by post.0 post.1 post.2 (again-cases k h.0 h.1 h.2))
  where
    by : (f l m : ℕ)
        → ((k.pool ≡ 0) × (h.0 ≡ []) × (h.1 ≡ k)) ⊎ ((nat_lt 0 k.pool ≡ true) × ((r : ℕ) × (h.0 ≡ plain (item.Inc k.pool k.block r) ∷ []) × (h.1 ≡ entry k.pool k.block r)))
        → behind_assertion sys o (Some k) (h.0 ++ (plain (item.NoEntry to f l m) ∷ rest)) ≡ Some rest
    by f l m (inl is) = let test = or_right (some_static sys) (k.pool == 0) (ap (λ p. p == 0) is.0) in rw (is.1, test) refl
    by f l m (inr is) = rw (is.1.1, is.0, same_number k.pool, same_number k.block) refl

recall-whole : (sys : System) (o : ℕ) (now : Option Entry) (answer : Answer) (g rest : List Told)
    → Recalls o answer g → is_assertion answer ≡ true → behind_assertion sys o now (g ++ rest) ≡ Some rest
unfolding Recalls plain_cut behind_recall_cut
recall-whole sys o now AtFront g rest h cut =
    let front = front-cut o h.2 h.1 AtFront h.3 h.5 refl in
    subst (λ us. behind_assertion sys o now us ≡ Some rest)
    (sym (ap (λ us. us ++ rest) h.6 ∙ ap (λ us. plain (item.Recall h.0) ∷ us) (ap (λ us. us ++ rest) front.3 ∙ append_assoc h.2 (plain (item.NoLifo o front.0 front.1 front.2) ∷ []) rest)))
    (by front.0 front.1 front.2 (again-cases h.0 h.2 h.1 h.4))
  where
    not_zero : (p : ℕ) → nat_lt 0 p ≡ true → (p == 0) ≡ false
    not_zero p h = grind (arith, nat_tests)

    by : (f l m : ℕ)
        → ((h.0.pool ≡ 0) × (h.2 ≡ []) × (h.1 ≡ h.0))
        ⊎ ((nat_lt 0 h.0.pool ≡ true) × ((r : ℕ) × (h.2 ≡ plain (item.Inc h.0.pool h.0.block r) ∷ []) × (h.1 ≡ entry h.0.pool h.0.block r)))
        → behind_recall_cut o h.0 (h.2 ++ (plain (item.NoLifo o f l m) ∷ rest)) ≡ Some rest
    by f l m (inl is) = let none : (h.0.pool == 0) ≡ true = ap (λ p. p == 0) is.0 in rw (is.1, none, same_number o) refl
    by f l m (inr is) =
        let some : (h.0.pool == 0) ≡ false = not_zero h.0.pool is.0 in
        rw (is.1.1, some, same_number h.0.pool, same_number h.0.block, same_number o) refl
recall-whole sys o now Granted g rest h cut = absurd (cc)
recall-whole sys o now Refused g rest h cut = absurd (cc)
recall-whole sys o now _ g rest h cut = absurd h

arm-whole : (sys : System) (o : ℕ) (now : Option Entry) (t ticks interval : ℕ) (answer : Answer) (g rest : List Told)
    → Arms t ticks interval answer g → is_assertion answer ≡ true → behind_assertion sys o now (g ++ rest) ≡ Some rest
unfolding Arms plain_cut
arm-whole sys o now t ticks interval AtTimer g rest h cut = rw h.2 refl
arm-whole sys o now t ticks interval AtTicks g rest h cut = rw h refl
arm-whole sys o now t ticks interval Granted g rest h cut = absurd (cc)
arm-whole sys o now t ticks interval _ g rest h cut = absurd h

rearm-whole : (sys : System) (o : ℕ) (now : Option Entry) (t ticks : ℕ) (answer : Answer) (g rest : List Told)
    → Rearms t ticks answer g → is_assertion answer ≡ true → behind_assertion sys o now (g ++ rest) ≡ Some rest
unfolding Rearms plain_cut
rearm-whole sys o now t ticks AtTicks g rest h cut = rw h refl
rearm-whole sys o now t ticks Granted g rest h cut = absurd (cc)
rearm-whole sys o now t ticks Refused g rest h cut = absurd (cc)
rearm-whole sys o now t ticks _ g rest h cut = absurd h

-- the other calls have no assertion
subscribe-none : (sig : ℕ) (answer : Answer) (g : List Told) → Subscribes sig answer g → is_assertion answer ≡ true → ⊥
unfolding Subscribes
subscribe-none sig Granted g h cut = cc
subscribe-none sig Refused g h cut = cc
subscribe-none sig _ g h cut = h

unsubscribe-none : (sig : ℕ) (answer : Answer) (g : List Told) → Unsubscribes sig answer g → is_assertion answer ≡ true → ⊥
unfolding Unsubscribes
unsubscribe-none sig Granted g h cut = cc
unsubscribe-none sig Refused g h cut = cc
unsubscribe-none sig _ g h cut = h

disarm-none : (t : ℕ) (answer : Answer) (g : List Told) → Disarms t answer g → is_assertion answer ≡ true → ⊥
unfolding Disarms
disarm-none t Granted g h cut = cc
disarm-none t Refused g h cut = cc
disarm-none t _ g h cut = h

defer-none : (now : Option Entry) (answer : Answer) (g : List Told) → Defers now answer g → is_assertion answer ≡ true → ⊥
unfolding Defers
defer-none now Granted g h cut = cc
defer-none now Refused g h cut = cc
defer-none now _ g h cut = h

pub assertion-whole : (sys : System) (o : ℕ) (now : Option Entry) (g rest : List Told) → IsAsserted sys o now g → behind_assertion sys o now (g ++ rest) ≡ Some rest
unfolding FitsAny Fits
assertion-whole sys o now g rest (Asserts (call.Post to sig pars margin reserve) answer single h cut) = post-whole sys o now to sig pars margin reserve answer g rest h cut
assertion-whole sys o now g rest (Asserts (call.Lifo sig pars reserve) answer single h cut) = lifo-whole sys o now sig pars reserve answer g rest h cut
assertion-whole sys o now g rest (Asserts (call.Forward to margin) answer single h cut) = forward-whole sys o now to margin answer g rest h cut
assertion-whole sys o now g rest (Asserts (call.Publish sig pars reserve) answer single h cut) = absurd (cc)
assertion-whole sys o now g rest (Asserts call.Defer answer single h cut) = absurd (defer-none now answer g h cut)
assertion-whole sys o now g rest (Asserts call.Recall answer single h cut) = recall-whole sys o now answer g rest h cut
assertion-whole sys o now g rest (Asserts call.Flush answer single h cut) = absurd (cc)
assertion-whole sys o now g rest (Asserts (call.Subscribe sig) answer single h cut) = absurd (subscribe-none sig answer g h cut)
assertion-whole sys o now g rest (Asserts (call.Unsubscribe sig) answer single h cut) = absurd (unsubscribe-none sig answer g h cut)
assertion-whole sys o now g rest (Asserts (call.Arm t ticks interval) answer single h cut) = arm-whole sys o now t ticks interval answer g rest h cut
assertion-whole sys o now g rest (Asserts (call.Rearm t ticks) answer single h cut) = rearm-whole sys o now t ticks answer g rest h cut
assertion-whole sys o now g rest (Asserts (call.Disarm t) answer single h cut) = absurd (disarm-none t answer g h cut)

-- Conversely each is such a call: a post that finds no entry,
pub no_entry-asserted : (sys : System) (o : ℕ) (now : Option Entry) (a f l m : ℕ) → (some_static sys ≡ true) ⊎ (works_on_static now ≡ true) → IsAsserted sys o now (plain (item.NoEntry a f l m) ∷ [])
unfolding FitsAny Fits PostsNew Posts Forwards MakesAgainNow
no_entry-asserted sys o now a f l m (inl h) =
    let sig = some-static sys h in
    Asserts (call.Post a sig.0 [] None None) AtQueue refl (inr ([], entry 0 sig.0 0, new-static (is_static sys sig.0) (sizes_of sys) sig.0 [] None sig.1, (f, l, m, refl))) refl
no_entry-asserted sys o None a f l m (inr h) = absurd (cc)
no_entry-asserted sys o (Some k) a f l m (inr h) = Asserts (call.Forward a None) AtQueue refl ([], k, again-static k (eqb-true k.pool 0 h), (f, l, m, refl)) refl

pub no_lifo-asserted : (sys : System) (o : ℕ) (now : Option Entry) (f l m : ℕ) → some_static sys ≡ true → IsAsserted sys o now (plain (item.NoLifo o f l m) ∷ [])
unfolding FitsAny Fits PostsNewFront PostsFront
no_lifo-asserted sys o now f l m h =
    let sig = some-static sys h in
    Asserts (call.Lifo sig.0 [] None) AtFront refl (inr ([], entry 0 sig.0 0, new-static (is_static sys sig.0) (sizes_of sys) sig.0 [] None sig.1, (f, l, m, refl))) refl

pub no_block-asserted : (sys : System) (o : ℕ) (now : Option Entry) (p n free : ℕ) → is_used (sizes_of sys) p ≡ true → IsAsserted sys o now (plain (item.NoBlock p n free) ∷ [])
unfolding FitsAny Fits PostsNew NoBlockFor is_static
no_block-asserted sys o now p n free h = let pars = used-first (sizes_of sys) p h in Asserts (call.Post 0 0 pars.0 None None) AtPool refl (inl (p, n, free, refl, pars.1, refl)) refl

-- a timer that was armed, or values that are refused,
pub armed-asserted : (sys : System) (o : ℕ) (now : Option Entry) (t n counter : ℕ) → IsAsserted sys o now (plain (item.Armed t n counter) ∷ [])
unfolding FitsAny Arms
armed-asserted sys o now t n counter = Asserts (call.Arm t 1 0) AtTimer refl (n, counter, refl) refl

pub bad_ticks-asserted : (sys : System) (o : ℕ) (now : Option Entry) (t ticks interval : ℕ) → IsAsserted sys o now (plain (item.BadTicks t ticks interval) ∷ [])
unfolding FitsAny Arms
bad_ticks-asserted sys o now t ticks interval = Asserts (call.Arm t ticks interval) AtTicks refl refl refl

-- a post of an entry with a reference of its own
pub again-asserted : (sys : System) (o : ℕ) (now : Option Entry) (p b r a f l m : ℕ) → works_on now p b ≡ true → IsAsserted sys o now (plain (item.Inc p b r) ∷ plain (item.NoEntry a f l m) ∷ [])
unfolding FitsAny Fits Forwards MakesAgainNow Posts
again-asserted sys o None p b r a f l m h = absurd (cc)
again-asserted sys o (Some now) p b r a f l m h =
    let pooled : nat_lt 0 now.pool ≡ true = grind (arith, nat_tests) in
    let same_pool : now.pool ≡ p = grind (arith, nat_tests) in
    let same_block : now.block ≡ b = grind (arith, nat_tests) in
    let again : MakesAgain now (plain (item.Inc p b r) ∷ []) (entry p b r) =
    subst (λ x. MakesAgain now (plain (item.Inc x b r) ∷ []) (entry x b r)) same_pool
    (subst (λ x. MakesAgain now (plain (item.Inc now.pool x r) ∷ []) (entry now.pool x r)) same_block (again-pooled now r pooled)) in
    Asserts (call.Forward a None) AtQueue refl (plain (item.Inc p b r) ∷ [], entry p b r, again, (f, l, m, refl)) refl
