-- Which kinds of records a call makes: an assertion only as the last, deferral only for `defer`, `recall` and `flush`, and no note of a step.
use Rattle.std.proofs.Common.{◌≡◌, ℕ, zero, suc, Bool, true, false, ◌||◌, List, [], ◌∷◌, ◌++◌, refl, sym, ◌∙◌, ap, subst, inl, inr, Option, Some, None, append_assoc}
use Rattle.std.specs.Bool.{MatchBool}
use Rattle.std.specs.List.{list_all}
use Rattle.std.proofs.lemmas.Bool.{and_from, and_parts}
use Rattle.std.proofs.lemmas.List.Folds.{list_all-append}
use Rattle.qp_model.specs.declared.systems.System.{System}
use Rattle.qp_model.specs.declared.bodies.Entry.{Entry}
use Rattle.qp_model.specs.declared.bodies.Body.{Body}
use Rattle.qp_model.specs.declared.bodies.Body.TheVariants as item
use Rattle.qp_model.specs.Told.{Told, plain}
use Rattle.qp_model.specs.Calls as call
use Rattle.qp_model.specs.Calls.{Call, Answer, Granted, Refused, Flushed, AtQueue, AtPool, AtTimer, AtTicks, AtFront, is_assertion}
use Rattle.qp_model.specs.Parts.{timer_number}
use Rattle.qp_model.specs.Shapes.{Fits, FitsAny, MakesBlock, MakesNew, again_by, MakesAgain, MakesAgainNow, Posts, PostsFront, PostsNew, PostsNewFront, Forwards, PostsOne, PostsToAll, PostsUpTo, NoBlockFor, Drops, releases_by, Releases, Flushes, Publishes, PublishesFirst, PublishesLast, raising, restoring, Defers, Recalls, Subscribes, Unsubscribes, Arms, Rearms, Disarms}
use Rattle.qp_model.specs.Ends.{is_assert}

-- a record of a call that is neither deferral nor an assertion
unfoldable pub is_calm : Body → Bool
is_calm (item.New p n b from sig pars) = true
is_calm (item.Short p n free reserve) = true
is_calm (item.Inc p b r) = true
is_calm (item.Dec p b d k) = true
is_calm (item.Back p n b to) = true
is_calm (item.Post a f l m e) = true
is_calm (item.Lifo f l m e) = true
is_calm (item.Full a f l m margin) = true
is_calm (item.Pub sig n set) = true
is_calm (item.Lock c) = true
is_calm (item.Unlock c) = true
is_calm (item.Sub sig n) = true
is_calm (item.Unsub sig n) = true
is_calm (item.Same sig n) = true
is_calm (item.Arm t n ticks interval) = true
is_calm (item.Disarm t n former) = true
is_calm (item.Rearm t n former ticks) = true
is_calm (item.Idle t n) = true
is_calm _ = false

-- a record of deferral
unfoldable pub is_deferral : Body → Bool
is_deferral (item.Defer e) = true
is_deferral item.NoDefer = true
is_deferral (item.Recall e) = true
is_deferral item.NoRecall = true
is_deferral (item.Flush e) = true
is_deferral _ = false

-- a call that is no matter of the deferred list
unfoldable pub is_other : Call → Bool
is_other call.Defer = false
is_other call.Recall = false
is_other call.Flush = false
is_other _ = true

-- every record is calm
abbrev pub Calm : List Told → Type 0
Calm g = list_all (λ t. is_calm t.body) g ≡ true

-- every record is calm, or of deferral
abbrev pub Usual : List Told → Type 0
Usual g = list_all (λ t. is_calm t.body || is_deferral t.body) g ≡ true

pub all-append : {X : Type 0} (f : X → Bool) (xs ys : List X) → list_all f xs ≡ true → list_all f ys ≡ true → list_all f (xs ++ ys) ≡ true
all-append f xs ys h k = list_all-append f xs ys ∙ and_from _ _ h k

pub calm-append : (g h : List Told) → Calm g → Calm h → Calm (g ++ h)
calm-append g h a b = all-append (λ t. is_calm t.body) g h a b

pub usual-append : (g h : List Told) → Usual g → Usual h → Usual (g ++ h)
usual-append g h a b = all-append (λ t. is_calm t.body || is_deferral t.body) g h a b

-- calm records are usual ones
pub usual : (g : List Told) → Calm g → Usual g
usual [] h = refl
usual (t ∷ g) h =
    and_from (is_calm t.body || is_deferral t.body) (list_all (λ t. is_calm t.body || is_deferral t.body) g)
    (rw (and_parts (is_calm t.body) (list_all (λ t. is_calm t.body) g) h).0 refl) (usual g (and_parts (is_calm t.body) (list_all (λ t. is_calm t.body) g) h).1)

calm-same : {g h : List Told} → g ≡ h → Calm h → Calm g
calm-same {g} {h} e k = subst (λ us. Calm us) (sym e) k

one : (t : Told) → is_calm t.body ≡ true → Calm (t ∷ [])
one t h = rw h refl

-- the parts of the shapes
pub calm-drops : (e : Entry) (rel : List Told) → Drops e rel → Calm rel
unfolding Drops is_calm
calm-drops e rel h = by_pool e.pool h
  where
    by_case : Releases e.pool e.block e.name rel → list_all (λ t. is_calm t.body) rel ≡ true
    by_case (inl k) = rw k.2 refl
    by_case (inr k) = rw k.2 refl

    by_pool : (p : ℕ) → releases_by p e rel → list_all (λ t. is_calm t.body) rel ≡ true
    by_pool zero h = rw h refl
    by_pool (suc p) h = by_case h

calm-again : (old : Entry) (head : List Told) (e : Entry) → MakesAgain old head e → Calm head
unfolding MakesAgain is_calm
calm-again old head e h = by_pool old.pool h
  where
    by_pool : (p : ℕ) → again_by p old head e → list_all (λ t. is_calm t.body) head ≡ true
    by_pool zero h = rw h.0 refl
    by_pool (suc p) h = rw h.1 refl

calm-again_now : (now : Option Entry) (head : List Told) (e : Entry) → MakesAgainNow now head e → Calm head
unfolding MakesAgainNow
calm-again_now None head e h = absurd h
calm-again_now (Some now) head e h = calm-again now head e h

calm-new : (fixed : Bool) (sizes : List ℕ) (sig : ℕ) (pars : List ℕ) (reserve : Option ℕ) (head : List Told) (e : Entry) → MakesNew fixed sizes sig pars reserve head e → Calm head
unfolding MakesNew MakesBlock is_calm
calm-new true sizes sig pars reserve head e h = rw h.0 refl
calm-new false sizes sig pars reserve head e h = rw h.6 refl

-- the answer that an assertion is
abbrev pub assertion_of : Body → Option Answer
assertion_of (item.NoEntry a f l m) = Some AtQueue
assertion_of (item.NoBlock p n free) = Some AtPool
assertion_of (item.Armed t n c) = Some AtTimer
assertion_of (item.BadTicks t ticks interval) = Some AtTicks
assertion_of (item.NoLifo a f l m) = Some AtFront
assertion_of _ = None

pub answer-assert : (b : Body) (answer : Answer) → assertion_of b ≡ Some answer → is_assert b ≡ true
answer-assert (item.NoEntry a f l m) answer h = refl
answer-assert (item.NoBlock p n free) answer h = refl
answer-assert (item.Armed t n c) answer h = refl
answer-assert (item.BadTicks t ticks interval) answer h = refl
answer-assert (item.NoLifo a f l m) answer h = refl
answer-assert _ answer h = absurd (cc)

-- the records end in the answer's assertion, and those before it are so
unfoldable pub Ending : (List Told → Type 0) → Answer → List Told → Type 0
Ending P answer g = (front : List Told) × (t : Told) × P front × (assertion_of t.body ≡ Some answer) × (g ≡ front ++ (t ∷ []))

-- an answer's records: calm, or calm up to an assertion
unfoldable pub Answers : (List Told → Type 0) → Answer → List Told → Type 0
unfolding Ending
Answers P answer g = MatchBool (is_assertion answer) (Ending P answer g) (P g)

no_block-calm : (fixed : Bool) (sizes pars : List ℕ) (reserve : Option ℕ) (answer : Answer) (g : List Told) → NoBlockFor fixed sizes pars reserve answer g → Answers Calm answer g
unfolding NoBlockFor Answers Ending is_calm
no_block-calm fixed sizes pars None AtPool g h = ([], plain (item.NoBlock h.0 h.1 h.2), refl, refl, h.5)
no_block-calm fixed sizes pars None _ g h = absurd h
no_block-calm fixed sizes pars (Some r) Refused g h = rw h.5 refl
no_block-calm fixed sizes pars (Some r) _ g h = absurd h

posts-calm : (ring to : ℕ) (margin : Option ℕ) (head : List Told) (e : Entry) (answer : Answer) (g : List Told) → Calm head → Posts ring to margin head e answer g → Answers Calm answer g
unfolding Posts Answers Ending is_calm
posts-calm ring to margin head e Granted g c h = calm-same h.3 (calm-append head (plain (item.Post to h.0 h.1 h.2 e) ∷ []) c (one (plain (item.Post to h.0 h.1 h.2 e)) refl))
posts-calm ring to (Some k) head e Refused g c h =
    calm-same h.4 (calm-append head (plain (item.Full to h.0 h.1 h.2 k) ∷ h.3) c (calm-append (plain (item.Full to h.0 h.1 h.2 k) ∷ []) h.3 (one (plain (item.Full to h.0 h.1 h.2 k)) refl) (calm-drops e h.3 h.5)))
posts-calm ring to None head e Refused g c h = absurd h
posts-calm ring to None head e AtQueue g c h = (head, plain (item.NoEntry to h.0 h.1 h.2), c, refl, h.3)
posts-calm ring to (Some k) head e AtQueue g c h = absurd h
posts-calm ring to None head e (Flushed n) g c h = absurd h
posts-calm ring to (Some k) head e (Flushed n) g c h = absurd h
posts-calm ring to None head e AtPool g c h = absurd h
posts-calm ring to (Some k) head e AtPool g c h = absurd h
posts-calm ring to None head e AtTimer g c h = absurd h
posts-calm ring to (Some k) head e AtTimer g c h = absurd h
posts-calm ring to None head e AtTicks g c h = absurd h
posts-calm ring to (Some k) head e AtTicks g c h = absurd h
posts-calm ring to None head e AtFront g c h = absurd h
posts-calm ring to (Some k) head e AtFront g c h = absurd h

front-calm : (o : ℕ) (head : List Told) (e : Entry) (answer : Answer) (g : List Told) → Calm head → PostsFront o head e answer g → Answers Calm answer g
unfolding PostsFront Answers Ending is_calm
front-calm o head e Granted g c h = calm-same h.3 (calm-append head (plain (item.Lifo h.0 h.1 h.2 e) ∷ []) c (one (plain (item.Lifo h.0 h.1 h.2 e)) refl))
front-calm o head e AtFront g c h = (head, plain (item.NoLifo o h.0 h.1 h.2), c, refl, h.3)
front-calm o head e _ g c h = absurd h

post_one-calm : (ring : ℕ) (e : Entry) (to : ℕ) (answer : Answer) (g : List Told) → PostsOne ring e to answer g → Answers Calm answer g
unfolding PostsOne
post_one-calm ring e to answer g h = posts-calm ring to None h.0 h.1 answer g (calm-again e h.0 h.1 h.2) h.3

all-calm : (rings : ℕ → ℕ) (e : Entry) (ms : List ℕ) (g : List Told) → PostsToAll rings e ms g → Calm g
unfolding PostsToAll Answers
all-calm rings e [] g h = rw h refl
all-calm rings e (to ∷ others) g h = calm-same h.2 (calm-append h.0 h.1 (post_one-calm (rings to) e to Granted h.0 h.3) (all-calm rings e others h.1 h.4))

-- records before those that end in an assertion
ending-before : (P : List Told → Type 0) (more : (g h : List Told) → P g → P h → P (g ++ h)) (answer : Answer) (g h : List Told) → P g
    → Ending P answer h → Ending P answer (g ++ h)
unfolding Ending
ending-before P more answer g h a k = (g ++ k.0, k.1, more g k.0 a k.2, k.3, ap (λ us. g ++ us) k.4 ∙ sym (append_assoc g k.0 (k.1 ∷ [])))

ending-same : (P : List Told → Type 0) (answer : Answer) {g h : List Told} → g ≡ h → Ending P answer h → Ending P answer g
ending-same P answer e k = subst (λ us. Ending P answer us) (sym e) k

up_to-calm : (rings : ℕ → ℕ) (e : Entry) (ms : List ℕ) (g : List Told) → PostsUpTo rings e ms g → Ending Calm AtQueue g
unfolding PostsUpTo Answers
up_to-calm rings e [] g h = absurd h
up_to-calm rings e (to ∷ others) g (inl h) = post_one-calm (rings to) e to AtQueue g h
up_to-calm rings e (to ∷ others) g (inr h) =
    ending-same Calm AtQueue h.2 (ending-before Calm calm-append AtQueue h.0 h.1 (post_one-calm (rings to) e to Granted h.0 h.3) (up_to-calm rings e others h.1 h.4))

first-calm : (fixed : Bool) (sizes : List ℕ) (o sig : ℕ) (pars : List ℕ) (reserve : Option ℕ) (e : Entry) (former : ℕ) (ms : List ℕ) (g : List Told)
    → PublishesFirst fixed sizes o sig pars reserve e former ms g → Calm g
unfolding PublishesFirst raising is_calm
first-calm fixed sizes o sig pars reserve e former ms g h =
    calm-same h.5 (calm-append h.0 (plain (item.Pub sig h.1 h.2) ∷ raising o former ms) (calm-new fixed sizes sig pars reserve h.0 e h.3) (by_members o ms))
  where
    by_members : (o : ℕ) (ms : List ℕ) → list_all (λ t. is_calm t.body) (plain (item.Pub sig h.1 h.2) ∷ raising o former ms) ≡ true
    by_members o [] = refl
    by_members zero (x ∷ others) = refl
    by_members (suc o) (x ∷ others) = refl

last-calm : (o : ℕ) (e : Entry) (former : ℕ) (ms : List ℕ) (g : List Told) → PublishesLast o e former ms g → Calm g
unfolding PublishesLast restoring is_calm
last-calm o e former ms g h = calm-same h.2 (calm-append (restoring o former ms) h.0 (by_members o ms) (calm-drops e h.0 h.1))
  where
    by_members : (o : ℕ) (ms : List ℕ) → list_all (λ t. is_calm t.body) (restoring o former ms) ≡ true
    by_members o [] = refl
    by_members zero (x ∷ others) = refl
    by_members (suc o) (x ∷ others) = refl

publishes-calm : (fixed : Bool) (sizes : List ℕ) (rings : ℕ → ℕ) (o sig : ℕ) (pars : List ℕ) (reserve : Option ℕ) (answer : Answer) (g : List Told)
    → Publishes fixed sizes rings o sig pars reserve answer g → Answers Calm answer g
unfolding Publishes Answers
publishes-calm fixed sizes rings o sig pars reserve Granted g h =
    calm-same h.9 (calm-append h.3 (h.4 ++ h.5) (first-calm fixed sizes o sig pars reserve h.0 h.1 h.2 h.3 h.6) (calm-append h.4 h.5 (all-calm rings h.0 h.2 h.4 h.7) (last-calm o h.0 h.1 h.2 h.5 h.8)))
publishes-calm fixed sizes rings o sig pars reserve AtQueue g h =
    ending-same Calm AtQueue h.7 (ending-before Calm calm-append AtQueue h.3 h.4 (first-calm fixed sizes o sig pars reserve h.0 h.1 h.2 h.3 h.5) (up_to-calm rings h.0 h.2 h.4 h.6))
publishes-calm fixed sizes rings o sig pars reserve answer g h = no_block-calm fixed sizes pars reserve answer g h

arms-calm : (t ticks interval : ℕ) (answer : Answer) (g : List Told) → Arms t ticks interval answer g → Answers Calm answer g
unfolding Arms Answers Ending is_calm
arms-calm t ticks interval Granted g h = rw h.1 refl
arms-calm t ticks interval AtTimer g h = ([], plain (item.Armed t h.0 h.1), refl, refl, h.2)
arms-calm t ticks interval AtTicks g h = ([], plain (item.BadTicks t ticks interval), refl, refl, h)
arms-calm t ticks interval _ g h = absurd h

rearms-calm : (t ticks : ℕ) (answer : Answer) (g : List Told) → Rearms t ticks answer g → Answers Calm answer g
unfolding Rearms Answers Ending is_calm
rearms-calm t ticks Granted g h = rw h.2 refl
rearms-calm t ticks Refused g h = rw h.1 refl
rearms-calm t ticks AtTicks g h = ([], plain (item.BadTicks t ticks 0), refl, refl, h)
rearms-calm t ticks _ g h = absurd h

disarms-calm : (t : ℕ) (answer : Answer) (g : List Told) → Disarms t answer g → Answers Calm answer g
unfolding Disarms Answers is_calm
disarms-calm t Granted g h = rw h.2 refl
disarms-calm t Refused g h = rw h.1 refl
disarms-calm t _ g h = absurd h

-- a call that is no matter of the deferred list leaves calm records, up to an assertion
pub fits-calm : (sys : System) (o : ℕ) (now : Option Entry) (x : Call) (answer : Answer) (g : List Told) → is_other x ≡ true → Fits sys o now x answer g → Answers Calm answer g
unfolding Fits PostsNew PostsNewFront Forwards Subscribes Unsubscribes Answers is_calm is_other
fits-calm sys o now (call.Post to sig pars margin reserve) answer g is (inl h) = no_block-calm _ _ pars reserve answer g h
fits-calm sys o now (call.Post to sig pars margin reserve) answer g is (inr h) = posts-calm _ to margin h.0 h.1 answer g (calm-new _ _ sig pars reserve h.0 h.1 h.2) h.3
fits-calm sys o now (call.Lifo sig pars reserve) answer g is (inl h) = no_block-calm _ _ pars reserve answer g h
fits-calm sys o now (call.Lifo sig pars reserve) answer g is (inr h) = front-calm o h.0 h.1 answer g (calm-new _ _ sig pars reserve h.0 h.1 h.2) h.3
fits-calm sys o now (call.Forward to margin) answer g is h = posts-calm _ to margin h.0 h.1 answer g (calm-again_now now h.0 h.1 h.2) h.3
fits-calm sys o now (call.Publish sig pars reserve) answer g is h = publishes-calm _ _ _ o sig pars reserve answer g h
fits-calm sys o now (call.Subscribe sig) Granted g is h = rw h.1 refl
fits-calm sys o now (call.Subscribe sig) Refused g is h = rw h.1 refl
fits-calm sys o now (call.Unsubscribe sig) Granted g is h = rw h.1 refl
fits-calm sys o now (call.Unsubscribe sig) Refused g is h = rw h.1 refl
fits-calm sys o now (call.Arm t ticks interval) answer g is h = arms-calm _ ticks interval answer g h.0
fits-calm sys o now (call.Rearm t ticks) answer g is h = rearms-calm _ ticks answer g h.0
fits-calm sys o now (call.Disarm t) answer g is h = disarms-calm _ answer g h
fits-calm sys o now (call.Subscribe sig) (Flushed n) g is h = absurd h
fits-calm sys o now (call.Subscribe sig) AtQueue g is h = absurd h
fits-calm sys o now (call.Subscribe sig) AtPool g is h = absurd h
fits-calm sys o now (call.Subscribe sig) AtTimer g is h = absurd h
fits-calm sys o now (call.Subscribe sig) AtTicks g is h = absurd h
fits-calm sys o now (call.Subscribe sig) AtFront g is h = absurd h
fits-calm sys o now (call.Unsubscribe sig) (Flushed n) g is h = absurd h
fits-calm sys o now (call.Unsubscribe sig) AtQueue g is h = absurd h
fits-calm sys o now (call.Unsubscribe sig) AtPool g is h = absurd h
fits-calm sys o now (call.Unsubscribe sig) AtTimer g is h = absurd h
fits-calm sys o now (call.Unsubscribe sig) AtTicks g is h = absurd h
fits-calm sys o now (call.Unsubscribe sig) AtFront g is h = absurd h
fits-calm sys o now _ answer g is h = absurd (cc)

ending-usual : (answer : Answer) (g : List Told) → Ending Calm answer g → Ending Usual answer g
unfolding Ending
ending-usual answer g h = (h.0, h.1, usual h.0 h.2, h.3, h.4)

answers-usual : (answer : Answer) (g : List Told) → Answers Calm answer g → Answers Usual answer g
unfolding Answers
answers-usual answer g h = by (is_assertion answer) h
  where
    by : (b : Bool) → MatchBool b (Ending Calm answer g) (Calm g) → MatchBool b (Ending Usual answer g) (Usual g)
    by true h = ending-usual answer g h
    by false h = usual g h

defers-usual : (now : Option Entry) (answer : Answer) (g : List Told) → Defers now answer g → Answers Usual answer g
unfolding Defers Answers is_deferral is_calm
defers-usual now Granted g h = subst (λ us. Usual us) (sym h.3) (usual-append h.0 (plain (item.Defer h.1) ∷ []) (usual h.0 (calm-again_now now h.0 h.1 h.2)) refl)
defers-usual now Refused g h = rw h refl
defers-usual now _ g h = absurd h

recalls-usual : (o : ℕ) (answer : Answer) (g : List Told) → Recalls o answer g → Answers Usual answer g
unfolding Recalls Answers is_deferral is_calm
recalls-usual o Granted g h =
    subst (λ us. Usual us) (sym h.8)
    (usual-append (plain (item.Recall h.0) ∷ []) (h.3 ++ h.4) refl
    (usual-append h.3 h.4 (usual h.3 (front-calm o h.2 h.1 Granted h.3 (calm-again h.0 h.2 h.1 h.5) h.6)) (usual h.4 (calm-drops h.0 h.4 h.7))))
recalls-usual o Refused g h = rw h refl
recalls-usual o AtFront g h =
    ending-same Usual AtFront h.6
    (ending-before Usual usual-append AtFront (plain (item.Recall h.0) ∷ []) h.3 refl (ending-usual AtFront h.3 (front-calm o h.2 h.1 AtFront h.3 (calm-again h.0 h.2 h.1 h.4) h.5)))
recalls-usual o _ g h = absurd h

flushes-usual : (n : ℕ) (g : List Told) → Flushes n g → Usual g
unfolding Flushes is_deferral is_calm
flushes-usual zero g h = rw h refl
flushes-usual (suc n) g h =
    subst (λ us. Usual us) (sym h.5) (usual-append (plain (item.Flush h.0) ∷ []) (h.1 ++ h.2) refl (usual-append h.1 h.2 (usual h.1 (calm-drops h.0 h.1 h.3)) (flushes-usual n h.2 h.4)))

-- a call leaves usual records, up to an assertion
pub fits-usual : (sys : System) (o : ℕ) (now : Option Entry) (x : Call) (answer : Answer) (g : List Told) → Fits sys o now x answer g → Answers Usual answer g
unfolding Fits Answers is_other
fits-usual sys o now call.Defer answer g h = defers-usual now answer g h
fits-usual sys o now call.Recall answer g h = recalls-usual o answer g h
fits-usual sys o now call.Flush (Flushed n) g h = flushes-usual n g h
fits-usual sys o now call.Flush Granted g h = absurd h
fits-usual sys o now call.Flush Refused g h = absurd h
fits-usual sys o now call.Flush AtQueue g h = absurd h
fits-usual sys o now call.Flush AtPool g h = absurd h
fits-usual sys o now call.Flush AtTimer g h = absurd h
fits-usual sys o now call.Flush AtTicks g h = absurd h
fits-usual sys o now call.Flush AtFront g h = absurd h
fits-usual sys o now x answer g h = answers-usual answer g (fits-calm sys o now x answer g refl h)

-- the same of a shape
pub any-usual : (sys : System) (o : ℕ) (now : Option Entry) (x : Call) (answer : Answer) (g : List Told) → FitsAny sys o now x answer g → Answers Usual answer g
unfolding FitsAny
any-usual sys o now (call.Arm t ticks interval) answer g h = answers-usual answer g (arms-calm t ticks interval answer g h)
any-usual sys o now (call.Rearm t ticks) answer g h = answers-usual answer g (rearms-calm t ticks answer g h)
any-usual sys o now (call.Disarm t) answer g h = answers-usual answer g (disarms-calm t answer g h)
any-usual sys o now x answer g h = fits-usual sys o now x answer g h

-- what fits a call is a shape, of the call that names its time event by the number in the system
pub fits-any : (sys : System) (o : ℕ) (now : Option Entry) (x : Call) (answer : Answer) (g : List Told) → Fits sys o now x answer g
    → (y : Call) × FitsAny sys o now y answer g
unfolding Fits FitsAny
fits-any sys o now (call.Arm t ticks interval) answer g h = (call.Arm (timer_number sys.timers o t) ticks interval, h.0)
fits-any sys o now (call.Rearm t ticks) answer g h = (call.Rearm (timer_number sys.timers o t) ticks, h.0)
fits-any sys o now (call.Disarm t) answer g h = (call.Disarm (timer_number sys.timers o t), h)
fits-any sys o now x answer g h = (x, h)
