-- The records of a call and its answer.
use Rattle.std.specs.Prelude.{◌≡◌, ℕ, zero, suc, ◌+◌, nat_lt, max, Bool, true, false, not, ◌&&◌, ◌⊎◌, List, [], ◌∷◌, ◌++◌, length, IsTrue, IsFalse, Some, None}
use Rattle.std.specs.declared.option.Option.{Option}
use Rattle.std.specs.Bool.{MatchBool}
use Rattle.std.specs.Option.{unwrap_or}
use Rattle.qp_model.specs.declared.systems.System.{System}
use Rattle.qp_model.specs.declared.bodies.Entry.{Entry}
use Rattle.qp_model.specs.declared.bodies.Body.TheVariants as item
use Rattle.qp_model.specs.Record.{entry}
use Rattle.qp_model.specs.Told.{Told, plain, told_new, dropped, raised, same_in}
use Rattle.qp_model.specs.Calls as call
use Rattle.qp_model.specs.Calls.{Call, Answer, Granted, Refused, Flushed, AtQueue, AtPool, AtTimer, AtTicks, AtFront}
use Rattle.qp_model.specs.Sites.{ring_of}
use Rattle.qp_model.specs.Parts.{is_static, sizes_of, first_pool, room_before, members, timer_number}

-- reference k of a block is dropped, and the block comes back exactly where none is left
abbrev pub Releases : ℕ → ℕ → ℕ → List Told → Type 0
Releases p b k g =
    ((d left : ℕ) × (g ≡ dropped p b d k (suc left) ∷ []))
    ⊎ ((d n : ℕ) × (g ≡ dropped p b d k 0 ∷ plain (item.Back p n b (d + 1)) ∷ []))

unfoldable pub releases_by : ℕ → Entry → List Told → Type 0
releases_by zero e g = g ≡ []
releases_by (suc p) e g = Releases e.pool e.block e.name g

-- the release of an entry; a static event has no references
unfoldable pub Drops : Entry → List Told → Type 0
unfolding releases_by
Drops e g = releases_by e.pool e g

-- a block of the first pool that is large enough is given out and referred to, with more than the reserve free before
unfoldable pub MakesBlock : List ℕ → ℕ → List ℕ → Option ℕ → List Told → Entry → Type 0
unfolding first_pool
MakesBlock sizes sig pars reserve head e =
    (p n b from free r : ℕ) × (head ≡ told_new p n b from sig pars free ∷ plain (item.Inc p b r) ∷ []) × (e ≡ entry p b r)
    × (first_pool sizes (length pars) ≡ Some p) × IsTrue (nat_lt (unwrap_or reserve 0) free)

-- these records make the entry of a new event: none where its signal is static
unfoldable pub MakesNew : Bool → List ℕ → ℕ → List ℕ → Option ℕ → List Told → Entry → Type 0
unfolding MakesBlock
MakesNew fixed sizes sig pars reserve head e =
    MatchBool fixed ((head ≡ []) × (e ≡ entry 0 sig 0)) (MakesBlock sizes sig pars reserve head e)

-- too few blocks were there for a new event: a refusal where a reserve is asked for, else assertion 2
unfoldable pub NoBlockFor : Bool → List ℕ → List ℕ → Option ℕ → Answer → List Told → Type 0
unfolding first_pool
NoBlockFor fixed sizes pars None AtPool g =
    (p n free : ℕ) × IsFalse fixed × (first_pool sizes (length pars) ≡ Some p) × (g ≡ plain (item.NoBlock p n free) ∷ [])
NoBlockFor fixed sizes pars (Some r) Refused g =
    (p n free : ℕ) × IsFalse fixed × (first_pool sizes (length pars) ≡ Some p) × (g ≡ plain (item.Short p n free r) ∷ [])
NoBlockFor fixed sizes pars reserve answer g = ⊥

unfoldable pub again_by : ℕ → Entry → List Told → Entry → Type 0
again_by zero old head e = (head ≡ []) × (e ≡ old)
again_by (suc p) old head e = (r : ℕ) × (head ≡ plain (item.Inc old.pool old.block r) ∷ []) × (e ≡ entry old.pool old.block r)

-- these records make another entry of an event that has one: a new reference, where it isn't static
unfoldable pub MakesAgain : Entry → List Told → Entry → Type 0
unfolding again_by
MakesAgain old head e = again_by old.pool old head e

-- the same of the entry that a step works on; a start has none
unfoldable pub MakesAgainNow : Option Entry → List Told → Entry → Type 0
unfolding MakesAgain
MakesAgainNow None head e = ⊥
MakesAgainNow (Some now) head e = MakesAgain now head e

-- the entry that the head made is posted to a queue with this ring, or released where the margin isn't free, or assertion 1 comes
unfoldable pub Posts : ℕ → ℕ → Option ℕ → List Told → Entry → Answer → List Told → Type 0
unfolding Drops room_before
Posts ring to margin head e Granted g =
    (f l m : ℕ) × (g ≡ head ++ (plain (item.Post to f l m e) ∷ [])) × IsTrue (nat_lt (unwrap_or margin 0) (room_before ring f l m))
Posts ring to (Some k) head e Refused g = (f l m : ℕ) × (rel : List Told) × (g ≡ head ++ (plain (item.Full to f l m k) ∷ rel)) × Drops e rel
Posts ring to None head e AtQueue g = (f l m : ℕ) × (g ≡ head ++ (plain (item.NoEntry to f l m) ∷ []))
Posts ring to margin head e answer g = ⊥

-- the entry is posted at the front of the object's own queue, or assertion 5 comes
unfoldable pub PostsFront : ℕ → List Told → Entry → Answer → List Told → Type 0
PostsFront o head e Granted g = (f l m : ℕ) × (g ≡ head ++ (plain (item.Lifo f l m e) ∷ []))
PostsFront o head e AtFront g = (f l m : ℕ) × (g ≡ head ++ (plain (item.NoLifo o f l m) ∷ []))
PostsFront o head e answer g = ⊥

-- a new event is posted
unfoldable pub PostsNew : Bool → List ℕ → ℕ → ℕ → ℕ → List ℕ → Option ℕ → Option ℕ → Answer → List Told → Type 0
unfolding MakesNew NoBlockFor Posts
PostsNew fixed sizes ring to sig pars margin reserve answer g =
    NoBlockFor fixed sizes pars reserve answer g
    ⊎ ((head : List Told) × (e : Entry) × MakesNew fixed sizes sig pars reserve head e × Posts ring to margin head e answer g)

-- a new event is posted last-in
unfoldable pub PostsNewFront : Bool → List ℕ → ℕ → ℕ → List ℕ → Option ℕ → Answer → List Told → Type 0
unfolding MakesNew NoBlockFor PostsFront
PostsNewFront fixed sizes o sig pars reserve answer g =
    NoBlockFor fixed sizes pars reserve answer g
    ⊎ ((head : List Told) × (e : Entry) × MakesNew fixed sizes sig pars reserve head e × PostsFront o head e answer g)

-- the event that a step works on is posted once more
unfoldable pub Forwards : ℕ → Option Entry → ℕ → Option ℕ → Answer → List Told → Type 0
unfolding MakesAgainNow Posts
Forwards ring now to margin answer g = (head : List Told) × (e : Entry) × MakesAgainNow now head e × Posts ring to margin head e answer g

-- one post of a publication, with a reference of its own
unfoldable pub PostsOne : ℕ → Entry → ℕ → Answer → List Told → Type 0
unfolding MakesAgain Posts
PostsOne ring e to answer g = (head : List Told) × (again : Entry) × MakesAgain e head again × Posts ring to None head again answer g

-- the posts of a publication to these members, in order
unfoldable pub PostsToAll : (ℕ → ℕ) → Entry → List ℕ → List Told → Type 0
unfolding PostsOne
PostsToAll rings e [] g = g ≡ []
PostsToAll rings e (a ∷ others) g = (one rest : List Told) × (g ≡ one ++ rest) × PostsOne (rings a) e a Granted one × PostsToAll rings e others rest

-- the same up to a post that finds no entry
unfoldable pub PostsUpTo : (ℕ → ℕ) → Entry → List ℕ → List Told → Type 0
unfolding PostsOne
PostsUpTo rings e [] g = ⊥
PostsUpTo rings e (a ∷ others) g =
    PostsOne (rings a) e a AtQueue g
    ⊎ ((one rest : List Told) × (g ≡ one ++ rest) × PostsOne (rings a) e a Granted one × PostsUpTo rings e others rest)

-- before its posts a handler's publication raises the ceiling to the highest member; a source is object 0
unfoldable pub raising : ℕ → ℕ → List ℕ → List Told
raising o former [] = []
raising zero former (a ∷ others) = []
raising (suc o) former (a ∷ others) = raised (max former a) former ∷ []

-- after its posts it restores the former ceiling
unfoldable pub restoring : ℕ → ℕ → List ℕ → List Told
restoring o former [] = []
restoring zero former (a ∷ others) = []
restoring (suc o) former (a ∷ others) = plain (item.Unlock former) ∷ []

-- a publication up to its first post: its own reference, the set, and the ceiling raised
unfoldable pub PublishesFirst : Bool → List ℕ → ℕ → ℕ → List ℕ → Option ℕ → Entry → ℕ → List ℕ → List Told → Type 0
unfolding MakesNew members raising
PublishesFirst fixed sizes o sig pars reserve e former ms g =
    (head : List Told) × (n set : ℕ) × MakesNew fixed sizes sig pars reserve head e × (ms ≡ members set)
    × (g ≡ head ++ (plain (item.Pub sig n set) ∷ raising o former ms))

-- a publication after its last post: the ceiling restored, and its own reference released
unfoldable pub PublishesLast : ℕ → Entry → ℕ → List ℕ → List Told → Type 0
unfolding Drops restoring
PublishesLast o e former ms g = (rel : List Told) × Drops e rel × (g ≡ restoring o former ms ++ rel)

-- a publication: a new event is posted to each member of the set shown; assertion 1 cuts it in the place of a post
unfoldable pub Publishes : Bool → List ℕ → (ℕ → ℕ) → ℕ → ℕ → List ℕ → Option ℕ → Answer → List Told → Type 0
unfolding NoBlockFor PostsToAll PostsUpTo PublishesFirst PublishesLast
Publishes fixed sizes rings o sig pars reserve Granted g =
    (e : Entry) × (former : ℕ) × (ms : List ℕ) × (first posts last : List Told)
    × PublishesFirst fixed sizes o sig pars reserve e former ms first × PostsToAll rings e ms posts × PublishesLast o e former ms last
    × (g ≡ first ++ (posts ++ last))
Publishes fixed sizes rings o sig pars reserve AtQueue g =
    (e : Entry) × (former : ℕ) × (ms : List ℕ) × (first posts : List Told)
    × PublishesFirst fixed sizes o sig pars reserve e former ms first × PostsUpTo rings e ms posts × (g ≡ first ++ posts)
Publishes fixed sizes rings o sig pars reserve answer g = NoBlockFor fixed sizes pars reserve answer g

-- the event that a step works on is deferred with a reference of its own, or the list is full
unfoldable pub Defers : Option Entry → Answer → List Told → Type 0
unfolding MakesAgainNow
Defers now Granted g = (head : List Told) × (e : Entry) × MakesAgainNow now head e × (g ≡ head ++ (plain (item.Defer e) ∷ []))
Defers now Refused g = g ≡ plain item.NoDefer ∷ []
Defers now answer g = ⊥

-- the oldest deferred entry is posted last-in with a new reference, and the deferral's reference is released
unfoldable pub Recalls : ℕ → Answer → List Told → Type 0
unfolding Drops MakesAgain PostsFront
Recalls o Granted g =
    (k e : Entry) × (head one rel : List Told)
    × MakesAgain k head e × PostsFront o head e Granted one × Drops k rel × (g ≡ plain (item.Recall k) ∷ (one ++ rel))
Recalls o AtFront g =
    (k e : Entry) × (head one : List Told) × MakesAgain k head e × PostsFront o head e AtFront one × (g ≡ plain (item.Recall k) ∷ one)
Recalls o Refused g = g ≡ plain item.NoRecall ∷ []
Recalls o answer g = ⊥

-- so many deferred entries are released, the oldest first
unfoldable pub Flushes : ℕ → List Told → Type 0
unfolding Drops
Flushes zero g = g ≡ []
Flushes (suc n) g = (k : Entry) × (rel rest : List Told) × Drops k rel × Flushes n rest × (g ≡ plain (item.Flush k) ∷ (rel ++ rest))

-- the set changes, or shows that it had the object already
unfoldable pub Subscribes : ℕ → Answer → List Told → Type 0
Subscribes sig Granted g = (n : ℕ) × (g ≡ plain (item.Sub sig n) ∷ [])
Subscribes sig Refused g = (n : ℕ) × (g ≡ same_in sig n true ∷ [])
Subscribes sig answer g = ⊥

unfoldable pub Unsubscribes : ℕ → Answer → List Told → Type 0
Unsubscribes sig Granted g = (n : ℕ) × (g ≡ plain (item.Unsub sig n) ∷ [])
Unsubscribes sig Refused g = (n : ℕ) × (g ≡ same_in sig n false ∷ [])
Unsubscribes sig answer g = ⊥

-- a timer takes 1 to 65,535 ticks and an interval of at most 65,535
unfoldable pub ticks_fit : ℕ → ℕ → Bool
ticks_fit ticks interval = nat_lt 0 ticks && nat_lt ticks 65536 && nat_lt interval 65536

-- assertion 4 is the only answer to values that are none for a timer, and comes for no others
abbrev pub answers_ticks : Bool → Answer → Bool
answers_ticks fit AtTicks = not fit
answers_ticks fit answer = fit

-- timer t is armed, or was armed already, or the values are refused
unfoldable pub Arms : ℕ → ℕ → ℕ → Answer → List Told → Type 0
Arms t ticks interval Granted g = (n : ℕ) × (g ≡ plain (item.Arm t n ticks interval) ∷ [])
Arms t ticks interval AtTimer g = (n c : ℕ) × (g ≡ plain (item.Armed t n c) ∷ [])
Arms t ticks interval AtTicks g = g ≡ plain (item.BadTicks t ticks interval) ∷ []
Arms t ticks interval answer g = ⊥

-- the answer tells whether the former counter isn't 0
unfoldable pub Rearms : ℕ → ℕ → Answer → List Told → Type 0
Rearms t ticks Granted g = (n former : ℕ) × (g ≡ plain (item.Rearm t n (suc former) ticks) ∷ [])
Rearms t ticks Refused g = (n : ℕ) × (g ≡ plain (item.Rearm t n 0 ticks) ∷ [])
Rearms t ticks AtTicks g = g ≡ plain (item.BadTicks t ticks 0) ∷ []
Rearms t ticks answer g = ⊥

unfoldable pub Disarms : ℕ → Answer → List Told → Type 0
Disarms t Granted g = (n former : ℕ) × (g ≡ plain (item.Disarm t n former) ∷ [])
Disarms t Refused g = (n : ℕ) × (g ≡ plain (item.Idle t n) ∷ [])
Disarms t answer g = ⊥

-- the records of a call and its answer, for object o while it works on the entry `now`; o is 0 at a source
unfoldable pub Fits : System → ℕ → Option Entry → Call → Answer → List Told → Type 0
unfolding Arms Defers Disarms Flushes Forwards PostsNew PostsNewFront Publishes Rearms Recalls Subscribes Unsubscribes is_static ring_of sizes_of ticks_fit timer_number
Fits sys o now (call.Post to sig pars margin reserve) answer g =
    PostsNew (is_static sys sig) (sizes_of sys) (ring_of sys to) to sig pars margin reserve answer g
Fits sys o now (call.Lifo sig pars reserve) answer g = PostsNewFront (is_static sys sig) (sizes_of sys) o sig pars reserve answer g
Fits sys o now (call.Forward to margin) answer g = Forwards (ring_of sys to) now to margin answer g
Fits sys o now (call.Publish sig pars reserve) answer g = Publishes (is_static sys sig) (sizes_of sys) (ring_of sys) o sig pars reserve answer g
Fits sys o now call.Defer answer g = Defers now answer g
Fits sys o now call.Recall answer g = Recalls o answer g
Fits sys o now call.Flush (Flushed n) g = Flushes n g
Fits sys o now call.Flush answer g = ⊥
Fits sys o now (call.Subscribe sig) answer g = Subscribes sig answer g
Fits sys o now (call.Unsubscribe sig) answer g = Unsubscribes sig answer g
Fits sys o now (call.Arm t ticks interval) answer g =
    Arms (timer_number sys.timers o t) ticks interval answer g × IsTrue (answers_ticks (ticks_fit ticks interval) answer)
Fits sys o now (call.Rearm t ticks) answer g =
    Rearms (timer_number sys.timers o t) ticks answer g × IsTrue (answers_ticks (ticks_fit ticks 0) answer)
Fits sys o now (call.Disarm t) answer g = Disarms (timer_number sys.timers o t) answer g

-- the same as a shape alone, which asks nothing of a call's numbers: it may name any time event of the system, or none, with any values
unfoldable pub FitsAny : System → ℕ → Option Entry → Call → Answer → List Told → Type 0
unfolding Arms Disarms Fits Rearms
FitsAny sys o now (call.Arm t ticks interval) answer g = Arms t ticks interval answer g
FitsAny sys o now (call.Rearm t ticks) answer g = Rearms t ticks answer g
FitsAny sys o now (call.Disarm t) answer g = Disarms t answer g
FitsAny sys o now x answer g = Fits sys o now x answer g
