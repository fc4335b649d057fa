-- Each unit is read off the front of a list.
use Rattle.std.proofs.Common.{◌≡◌, ℕ, ◌==◌, nat_lt, true, false, ◌||◌, List, [], ◌∷◌, ◌++◌, length, Some, None, refl, sym, ◌∙◌, ap, subst, inl, inr, ◌⊎◌, arith, append_assoc, append-nil}
use Rattle.std.proofs.lemmas.Bool.{or_left, or_right, false≢true}
use Rattle.std.proofs.lemmas.Bool.Decides.{nat_tests}
use Rattle.std.specs.declared.option.Option.{Option}
use Rattle.std.specs.Option.{unwrap_or}
use Rattle.qp_model.specs.declared.systems.System.{System}
use Rattle.qp_model.specs.declared.bodies.Entry.{Entry}
use Rattle.qp_model.specs.declared.bodies.Body.TheVariants as item
use Rattle.qp_model.specs.Record.{entry}
use Rattle.qp_model.specs.Told.{Told, plain}
use Rattle.qp_model.specs.Calls as call
use Rattle.qp_model.specs.Calls.{Call, Answer, Granted, Refused, Flushed, AtQueue, AtPool, AtTimer, AtTicks, AtFront, is_assertion}
use Rattle.qp_model.specs.Parts.{is_static, sizes_of}
use Rattle.qp_model.specs.Sites.{ring_of}
use Rattle.qp_model.specs.Shapes.{Fits, FitsAny, Drops, MakesBlock, MakesAgain, MakesAgainNow, PostsNew, PostsNewFront, Forwards, Defers, Recalls, Flushes, Subscribes, Unsubscribes, Arms, Rearms, Disarms}
use Rattle.qp_model.proofs.LineLemmas.{same_number, same_entry-refl}
use Rattle.qp_check_shapes.specs.ShapeUnit.{is_unit_call, IsUnit, SaysValue, MakesCall, FlushesOne, is_static_entry, is_static_now, works_on_static, some_static, behind_again, behind_entry, behind_lifo, behind_recall, plain_first, given_first, behind_unit}
use Rattle.qp_check_shapes.proofs.ShapeReleaseLemmas.{release-whole}
use Rattle.qp_check_shapes.proofs.ShapePostLemmas.{Posted, posts-posted, entry-static, new-cases, no-block, again-cases, drops-none, front-is, IsPosted, IsRefused}
use Rattle.qp_check_shapes.proofs.ShapePartLemmas.{static-some, first-goes}

-- a post of a static entry,
static-whole : (sys : System) (o : ℕ) (now : Option Entry) (e : Entry) (g rest : List Told) → Posted sys e g → e.pool ≡ 0
    → (is_static_entry sys e || is_static_now now e) ≡ true → (some_static sys || works_on_static now) ≡ true → behind_unit sys o now (g ++ rest) ≡ Some rest
unfolding plain_first
static-whole sys o now e g rest (IsPosted to f l m room is) low known fixed = rw (is, room, known) refl
static-whole sys o now e g rest (IsRefused to f l m margin rel drops is) low known fixed = let gone = drops-none e rel low drops in rw (is, gone, fixed) refl

-- of an entry of a new block, and of a new reference
entry-whole : (sys : System) (e : Entry) (g rest : List Told) → Posted sys e g → behind_entry sys e (g ++ rest) ≡ Some rest
entry-whole sys e g rest (IsPosted to f l m room is) = rw (is, same_entry-refl e, room) refl
entry-whole sys e g rest (IsRefused to f l m margin rel drops is) = rw is (release-whole e rel rest drops)

again-whole : (sys : System) (e : Entry) (g rest : List Told) → Posted sys e g → behind_again sys e (g ++ rest) ≡ Some rest
again-whole sys e g rest (IsPosted to f l m room is) = rw (is, same_entry-refl e, room) refl
again-whole sys e g rest (IsRefused to f l m margin rel drops is) = rw is (release-whole e rel rest drops)

-- a block given out, and what is behind its first reference
block-whole : (sys : System) (o : ℕ) (now : Option Entry) (sig : ℕ) (pars : List ℕ) (reserve : Option ℕ) (head : List Told) (e : Entry) (tail rest : List Told)
    → is_static sys sig ≡ false → MakesBlock (sizes_of sys) sig pars reserve head e → behind_entry sys e tail ≡ Some rest → behind_unit sys o now (head ++ tail) ≡ Some rest
unfolding MakesBlock given_first
block-whole sys o now sig pars reserve head e tail rest pooled h behind =
    let goes = first-goes (sizes_of sys) (length pars) h.0 h.8 in
    let free : nat_lt 0 h.4 ≡ true = above (unwrap_or reserve 0) h.4 h.9 in
    let end : behind_entry sys (entry h.0 h.2 h.5) tail ≡ Some rest = subst (λ x. behind_entry sys x tail ≡ Some rest) h.7 behind in
    rw (h.6, free, goes, pooled, same_number h.0, same_number h.2) end
  where
    above : (k free : ℕ) → nat_lt k free ≡ true → nat_lt 0 free ≡ true
    above k free h = grind (arith, nat_tests)

-- a reference more of the entry that a step works on
reference-whole : (sys : System) (o : ℕ) (k : Entry) (r : ℕ) (tail rest : List Told) → nat_lt 0 k.pool ≡ true → behind_again sys (entry k.pool k.block r) tail ≡ Some rest
    → behind_unit sys o (Some k) (plain (item.Inc k.pool k.block r) ∷ tail) ≡ Some rest
unfolding plain_first
reference-whole sys o k r tail rest pooled behind = rw (pooled, same_number k.pool, same_number k.block) behind

-- the post of a new event
post-whole : (sys : System) (o : ℕ) (now : Option Entry) (to sig : ℕ) (pars : List ℕ) (margin reserve : Option ℕ) (answer : Answer) (g rest : List Told)
    → PostsNew (is_static sys sig) (sizes_of sys) (ring_of sys to) to sig pars margin reserve answer g → is_assertion answer ≡ false → behind_unit sys o now (g ++ rest) ≡ Some rest
unfolding PostsNew plain_first
post-whole sys o now to sig pars margin reserve answer g rest (inl h) calm =
    let short = no-block _ _ pars reserve answer g h calm in rw (short.4, short.5) refl
post-whole sys o now to sig pars margin reserve answer g rest (inr h) calm =
    let posted = posts-posted sys to margin h.0 h.1 answer g h.3 calm in
    subst (λ us. behind_unit sys o now us ≡ Some rest) (sym (ap (λ us. us ++ rest) posted.2 ∙ append_assoc h.0 posted.0 rest))
    (by posted.0 posted.1 (new-cases _ _ sig pars reserve h.0 h.1 h.2))
  where
    by : (core : List Told) → Posted sys h.1 core
        → ((is_static sys sig ≡ true) × (h.0 ≡ []) × (h.1 ≡ entry 0 sig 0)) ⊎ ((is_static sys sig ≡ false) × MakesBlock (sizes_of sys) sig pars reserve h.0 h.1)
        → behind_unit sys o now (h.0 ++ (core ++ rest)) ≡ Some rest
    by core posted (inl k) =
        let of_static : is_static_entry sys h.1 ≡ true = ap (is_static_entry sys) k.2 ∙ entry-static sys sig k.0 in
        rw k.1 (static-whole sys o now h.1 core rest posted (ap (λ x. x.pool) k.2) (or_left _ _ of_static) (or_left _ _ (static-some sys sig k.0)))
    by core posted (inr k) = block-whole sys o now sig pars reserve h.0 h.1 (core ++ rest) rest k.0 k.1 (entry-whole sys h.1 core rest posted)

-- the last-in post of a new event
post_front-whole : (sys : System) (o : ℕ) (now : Option Entry) (sig : ℕ) (pars : List ℕ) (reserve : Option ℕ) (answer : Answer) (g rest : List Told)
    → PostsNewFront (is_static sys sig) (sizes_of sys) o sig pars reserve answer g → is_assertion answer ≡ false → behind_unit sys o now (g ++ rest) ≡ Some rest
unfolding PostsNewFront plain_first
post_front-whole sys o now sig pars reserve answer g rest (inl h) calm =
    let short = no-block _ _ pars reserve answer g h calm in rw (short.4, short.5) refl
post_front-whole sys o now sig pars reserve answer g rest (inr h) calm =
    let front = front-is o h.0 h.1 answer g h.3 calm in
    subst (λ us. behind_unit sys o now us ≡ Some rest) (sym (ap (λ us. us ++ rest) front.3 ∙ append_assoc h.0 (plain (item.Lifo front.0 front.1 front.2 h.1) ∷ []) rest))
    (by front.0 front.1 front.2 (new-cases _ _ sig pars reserve h.0 h.1 h.2))
  where
    by : (f l m : ℕ)
        → ((is_static sys sig ≡ true) × (h.0 ≡ []) × (h.1 ≡ entry 0 sig 0)) ⊎ ((is_static sys sig ≡ false) × MakesBlock (sizes_of sys) sig pars reserve h.0 h.1)
        → behind_unit sys o now (h.0 ++ (plain (item.Lifo f l m h.1) ∷ rest)) ≡ Some rest
    by f l m (inl k) = let of_static : is_static_entry sys h.1 ≡ true = ap (is_static_entry sys) k.2 ∙ entry-static sys sig k.0 in rw (k.1, of_static) refl
    by f l m (inr k) = block-whole sys o now sig pars reserve h.0 h.1 (plain (item.Lifo f l m h.1) ∷ rest) rest k.0 k.1 (rw (same_entry-refl h.1) refl)

-- the event that a step works on is posted once more
forward-whole : (sys : System) (o : ℕ) (now : Option Entry) (to : ℕ) (margin : Option ℕ) (answer : Answer) (g rest : List Told)
    → Forwards (ring_of sys to) now to margin answer g → is_assertion answer ≡ false → behind_unit sys o now (g ++ rest) ≡ Some rest
unfolding Forwards MakesAgainNow
forward-whole sys o None to margin answer g rest h calm = absurd h.2
forward-whole sys o (Some k) to margin answer g rest h calm =
    let posted = posts-posted sys to margin h.0 h.1 answer g h.3 calm in
    subst (λ us. behind_unit sys o (Some k) us ≡ Some rest) (sym (ap (λ us. us ++ rest) posted.2 ∙ append_assoc h.0 posted.0 rest))
    (by posted.0 posted.1 (again-cases k h.0 h.1 h.2))
  where
    by : (core : List Told) → Posted sys h.1 core
        → ((k.pool ≡ 0) × (h.0 ≡ []) × (h.1 ≡ k)) ⊎ ((nat_lt 0 k.pool ≡ true) × ((r : ℕ) × (h.0 ≡ plain (item.Inc k.pool k.block r) ∷ []) × (h.1 ≡ entry k.pool k.block r)))
        → behind_unit sys o (Some k) (h.0 ++ (core ++ rest)) ≡ Some rest
    by core posted (inl is) =
        let zero_pool : (k.pool == 0) ≡ true = ap (λ p. p == 0) is.0 in
        let now_is : is_static_now (Some k) h.1 ≡ true = rw (is.2, zero_pool) (same_entry-refl k) in
        rw is.1 (static-whole sys o (Some k) h.1 core rest posted (ap (λ x. x.pool) is.2 ∙ is.0) (or_right _ _ now_is) (or_right _ _ zero_pool))
    by core posted (inr is) =
        rw is.1.1 (reference-whole sys o k is.1.0 (core ++ rest) rest is.0 (subst (λ x. behind_again sys x (core ++ rest) ≡ Some rest) is.1.2 (again-whole sys h.1 core rest posted)))

-- it is deferred
defer-whole : (sys : System) (o : ℕ) (now : Option Entry) (answer : Answer) (g rest : List Told)
    → Defers now answer g → is_assertion answer ≡ false → behind_unit sys o now (g ++ rest) ≡ Some rest
unfolding Defers MakesAgainNow plain_first
defer-whole sys o None Granted g rest h calm = absurd h.2
defer-whole sys o (Some k) Granted g rest h calm =
    subst (λ us. behind_unit sys o (Some k) us ≡ Some rest) (sym (ap (λ us. us ++ rest) h.3 ∙ append_assoc h.0 (plain (item.Defer h.1) ∷ []) rest))
    (by (again-cases k h.0 h.1 h.2))
  where
    by : ((k.pool ≡ 0) × (h.0 ≡ []) × (h.1 ≡ k)) ⊎ ((nat_lt 0 k.pool ≡ true) × ((r : ℕ) × (h.0 ≡ plain (item.Inc k.pool k.block r) ∷ []) × (h.1 ≡ entry k.pool k.block r)))
        → behind_unit sys o (Some k) (h.0 ++ (plain (item.Defer h.1) ∷ rest)) ≡ Some rest
    by (inl is) =
        let zero_pool : (k.pool == 0) ≡ true = ap (λ p. p == 0) is.0 in
        let now_is : is_static_now (Some k) h.1 ≡ true = rw (is.2, zero_pool) (same_entry-refl k) in
        rw (is.1, now_is) refl
    by (inr is) =
        rw is.1.1
        (reference-whole sys o k is.1.0 (plain (item.Defer h.1) ∷ rest) rest is.0
        (subst (λ x. behind_again sys x (plain (item.Defer h.1) ∷ rest) ≡ Some rest) is.1.2 (rw (same_entry-refl h.1) refl)))
defer-whole sys o now Refused g rest h calm = rw h refl
defer-whole sys o now _ g rest h calm = absurd h

-- the oldest deferred entry is recalled
lifo-whole : (k e : Entry) (rel rest : List Told) (f l m : ℕ) → Drops k rel → behind_lifo k e (plain (item.Lifo f l m e) ∷ (rel ++ rest)) ≡ Some rest
lifo-whole k e rel rest f l m drops = rw (same_entry-refl e) (release-whole k rel rest drops)

recalled-whole : (k e : Entry) (head rel rest : List Told) (f l m : ℕ) → MakesAgain k head e → Drops k rel
    → behind_recall k (head ++ (plain (item.Lifo f l m e) ∷ (rel ++ rest))) ≡ Some rest
unfolding behind_recall
recalled-whole k e head rel rest f l m again drops = by (again-cases k head e again)
  where
    not_zero : (p : ℕ) → nat_lt 0 p ≡ true → (p == 0) ≡ false
    not_zero p h = grind (arith, nat_tests)

    by : ((k.pool ≡ 0) × (head ≡ []) × (e ≡ k)) ⊎ ((nat_lt 0 k.pool ≡ true) × ((r : ℕ) × (head ≡ plain (item.Inc k.pool k.block r) ∷ []) × (e ≡ entry k.pool k.block r)))
        → behind_recall k (head ++ (plain (item.Lifo f l m e) ∷ (rel ++ rest))) ≡ Some rest
    by (inl is) =
        let none : (k.pool == 0) ≡ true = ap (λ p. p == 0) is.0 in
        rw (is.1, is.2, none) (lifo-whole k k rel rest f l m drops)
    by (inr is) =
        let some : (k.pool == 0) ≡ false = not_zero k.pool is.0 in
        rw (is.1.1, is.1.2, some, same_number k.pool, same_number k.block, same_number is.1.0) (release-whole k rel rest drops)

recall-whole : (sys : System) (o : ℕ) (now : Option Entry) (answer : Answer) (g rest : List Told)
    → Recalls o answer g → is_assertion answer ≡ false → behind_unit sys o now (g ++ rest) ≡ Some rest
unfolding Recalls plain_first
recall-whole sys o now Granted g rest h calm =
    let front = front-is o h.2 h.1 Granted h.3 h.6 refl in
    subst (λ us. behind_unit sys o now us ≡ Some rest)
    (sym (ap (λ us. us ++ rest) h.8 ∙ ap (λ us. plain (item.Recall h.0) ∷ ((us ++ h.4) ++ rest)) front.3 ∙ ap (λ us. plain (item.Recall h.0) ∷ us) (spread h.2 (plain (item.Lifo front.0 front.1 front.2 h.1)))))
    (recalled-whole h.0 h.1 h.2 h.4 rest front.0 front.1 front.2 h.5 h.7)
  where
    spread : (head : List Told) (t : Told) → ((head ++ (t ∷ [])) ++ h.4) ++ rest ≡ head ++ (t ∷ (h.4 ++ rest))
    spread head t = ap (λ us. us ++ rest) (append_assoc head (t ∷ []) h.4) ∙ append_assoc head (t ∷ h.4) rest
recall-whole sys o now Refused g rest h calm = rw h refl
recall-whole sys o now (Flushed n) g rest h calm = absurd h
recall-whole sys o now AtQueue g rest h calm = absurd h
recall-whole sys o now AtPool g rest h calm = absurd h
recall-whole sys o now AtTimer g rest h calm = absurd h
recall-whole sys o now AtTicks g rest h calm = absurd h
recall-whole sys o now AtFront g rest h calm = absurd (cc)

-- one deferred entry is flushed
flush-whole : (sys : System) (o : ℕ) (now : Option Entry) (g rest : List Told) → Flushes 1 g → behind_unit sys o now (g ++ rest) ≡ Some rest
unfolding Flushes plain_first
flush-whole sys o now g rest h =
    let all : g ≡ plain (item.Flush h.0) ∷ h.1 = h.5 ∙ ap (λ us. plain (item.Flush h.0) ∷ (h.1 ++ us)) h.4 ∙ ap (λ us. plain (item.Flush h.0) ∷ us) (append-nil h.1) in
    rw all (release-whole h.0 h.1 rest h.3)

subscribe-whole : (sys : System) (o : ℕ) (now : Option Entry) (sig : ℕ) (answer : Answer) (g rest : List Told)
    → Subscribes sig answer g → is_assertion answer ≡ false → behind_unit sys o now (g ++ rest) ≡ Some rest
unfolding Subscribes plain_first
subscribe-whole sys o now sig Granted g rest h calm = rw h.1 refl
subscribe-whole sys o now sig Refused g rest h calm = rw h.1 refl
subscribe-whole sys o now sig _ g rest h calm = absurd h

unsubscribe-whole : (sys : System) (o : ℕ) (now : Option Entry) (sig : ℕ) (answer : Answer) (g rest : List Told)
    → Unsubscribes sig answer g → is_assertion answer ≡ false → behind_unit sys o now (g ++ rest) ≡ Some rest
unfolding Unsubscribes plain_first
unsubscribe-whole sys o now sig Granted g rest h calm = rw h.1 refl
unsubscribe-whole sys o now sig Refused g rest h calm = rw h.1 refl
unsubscribe-whole sys o now sig _ g rest h calm = absurd h

-- timers
arm-whole : (sys : System) (o : ℕ) (now : Option Entry) (t ticks interval : ℕ) (answer : Answer) (g rest : List Told)
    → Arms t ticks interval answer g → is_assertion answer ≡ false → behind_unit sys o now (g ++ rest) ≡ Some rest
unfolding Arms plain_first
arm-whole sys o now t ticks interval Granted g rest h calm = rw h.1 refl
arm-whole sys o now t ticks interval AtTimer g rest h calm = absurd (cc)
arm-whole sys o now t ticks interval AtTicks g rest h calm = absurd (cc)
arm-whole sys o now t ticks interval _ g rest h calm = absurd h

rearm-whole : (sys : System) (o : ℕ) (now : Option Entry) (t ticks : ℕ) (answer : Answer) (g rest : List Told)
    → Rearms t ticks answer g → is_assertion answer ≡ false → behind_unit sys o now (g ++ rest) ≡ Some rest
unfolding Rearms plain_first
rearm-whole sys o now t ticks Granted g rest h calm = rw h.2 refl
rearm-whole sys o now t ticks Refused g rest h calm = rw h.1 refl
rearm-whole sys o now t ticks AtTicks g rest h calm = absurd (cc)
rearm-whole sys o now t ticks _ g rest h calm = absurd h

disarm-whole : (sys : System) (o : ℕ) (now : Option Entry) (t : ℕ) (answer : Answer) (g rest : List Told)
    → Disarms t answer g → is_assertion answer ≡ false → behind_unit sys o now (g ++ rest) ≡ Some rest
unfolding Disarms plain_first
disarm-whole sys o now t Granted g rest h calm = rw h.2 refl
disarm-whole sys o now t Refused g rest h calm = rw h.1 refl
disarm-whole sys o now t _ g rest h calm = absurd h

call-whole : (sys : System) (o : ℕ) (now : Option Entry) (x : Call) (answer : Answer) (g rest : List Told)
    → is_unit_call x ≡ true → FitsAny sys o now x answer g → is_assertion answer ≡ false → behind_unit sys o now (g ++ rest) ≡ Some rest
unfolding FitsAny Fits
call-whole sys o now (call.Post to sig pars margin reserve) answer g rest single h calm = post-whole sys o now to sig pars margin reserve answer g rest h calm
call-whole sys o now (call.Lifo sig pars reserve) answer g rest single h calm = post_front-whole sys o now sig pars reserve answer g rest h calm
call-whole sys o now (call.Forward to margin) answer g rest single h calm = forward-whole sys o now to margin answer g rest h calm
call-whole sys o now (call.Publish sig pars reserve) answer g rest single h calm = absurd (false≢true single)
call-whole sys o now call.Defer answer g rest single h calm = defer-whole sys o now answer g rest h calm
call-whole sys o now call.Recall answer g rest single h calm = recall-whole sys o now answer g rest h calm
call-whole sys o now call.Flush answer g rest single h calm = absurd (false≢true single)
call-whole sys o now (call.Subscribe sig) answer g rest single h calm = subscribe-whole sys o now sig answer g rest h calm
call-whole sys o now (call.Unsubscribe sig) answer g rest single h calm = unsubscribe-whole sys o now sig answer g rest h calm
call-whole sys o now (call.Arm t ticks interval) answer g rest single h calm = arm-whole sys o now t ticks interval answer g rest h calm
call-whole sys o now (call.Rearm t ticks) answer g rest single h calm = rearm-whole sys o now t ticks answer g rest h calm
call-whole sys o now (call.Disarm t) answer g rest single h calm = disarm-whole sys o now t answer g rest h calm

-- each unit is read off
pub unit-whole : (sys : System) (o : ℕ) (now : Option Entry) (g rest : List Told) → IsUnit sys o now g → behind_unit sys o now (g ++ rest) ≡ Some rest
unfolding plain_first
unit-whole sys o now g rest (SaysValue value is) = rw is refl
unit-whole sys o now g rest (FlushesOne h) = flush-whole sys o now g rest h
unit-whole sys o now g rest (MakesCall x answer single h calm) = call-whole sys o now x answer g rest single h calm
