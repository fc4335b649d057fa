-- The records of a call leave the ceiling of their lane, and none of them is a `spill`.
use Rattle.std.proofs.Common.{◌≡◌, ℕ, zero, suc, Bool, true, false, ◌||◌, List, [], ◌∷◌, ◌++◌, map, refl, sym, ◌∙◌, subst, inl, inr, Option, Some, None}
use Rattle.std.specs.List.{list_all, list_any}
use Rattle.std.proofs.lemmas.Bool.{and_parts}
use Rattle.qp_model.proofs.FitsLemmas.{all-append}
use Rattle.qp_model.specs.declared.systems.System.{System}
use Rattle.qp_model.specs.declared.bodies.Entry.{Entry}
use Rattle.qp_model.specs.declared.bodies.Body.{Body}
use Rattle.qp_model.specs.declared.bodies.Body.TheVariants as item
use Rattle.qp_model.specs.Told.{Told, ToldItem, plain, for_object}
use Rattle.qp_model.specs.Ends.{is_spill}
use Rattle.qp_model.specs.Knowing.{ceiling_after}
use Rattle.qp_model.specs.Calls as call
use Rattle.qp_model.specs.Calls.{Call, Answer, Granted, Refused, Flushed, AtQueue, AtPool, AtTimer, AtTicks, AtFront}
use Rattle.qp_model.specs.Shapes.{Fits, MakesBlock, MakesNew, again_by, MakesAgain, MakesAgainNow, Posts, PostsFront, PostsNew, PostsNewFront, Forwards, PostsOne, NoBlockFor, Drops, releases_by, Releases, Flushes, Defers, Recalls, Subscribes, Unsubscribes, Arms, Rearms, Disarms}
use Rattle.qp_calls.specs.LaneView.{ceiling_in}
use Rattle.qp_calls.specs.Notes.{spills_told}
use Rattle.qp_calls.proofs.NoteLemmas.{ceiling-append}
use Rattle.qp_dispatch.specs.CallsDone.{is_single}

-- a record that is no `lock`, `unlock` or `spill`
abbrev pub is_quiet : Body → Bool
is_quiet (item.Lock c) = false
is_quiet (item.Unlock c) = false
is_quiet (item.Spill n) = false
is_quiet _ = true

abbrev pub Quiet : List Told → Type 0
Quiet g = list_all (λ t. is_quiet t.body) g ≡ true

pub quiet-append : (g h : List Told) → Quiet g → Quiet h → Quiet (g ++ h)
quiet-append g h a b = all-append (λ t. is_quiet t.body) g h a b

quiet-same : {g h : List Told} → g ≡ h → Quiet h → Quiet g
quiet-same {g} {h} e k = subst (λ us. Quiet us) (sym e) k

pub quiet-drops : (e : Entry) (rel : List Told) → Drops e rel → Quiet rel
unfolding Drops
quiet-drops e rel h = by_pool e.pool h
  where
    by_case : Releases e.pool e.block e.name rel → list_all (λ t. is_quiet t.body) rel ≡ true
    by_case (inl k) = rw k.2 refl
    by_case (inr k) = rw k.2 refl

    by_pool : (p : ℕ) → releases_by p e rel → list_all (λ t. is_quiet t.body) rel ≡ true
    by_pool zero h = rw h refl
    by_pool (suc p) h = by_case h

quiet-again : (old : Entry) (head : List Told) (e : Entry) → MakesAgain old head e → Quiet head
unfolding MakesAgain
quiet-again old head e h = by_pool old.pool h
  where
    by_pool : (p : ℕ) → again_by p old head e → list_all (λ t. is_quiet t.body) head ≡ true
    by_pool zero h = rw h.0 refl
    by_pool (suc p) h = rw h.1 refl

quiet-again_now : (now : Option Entry) (head : List Told) (e : Entry) → MakesAgainNow now head e → Quiet head
unfolding MakesAgainNow
quiet-again_now None head e h = absurd h
quiet-again_now (Some now) head e h = quiet-again now head e h

pub quiet-new : (fixed : Bool) (sizes : List ℕ) (sig : ℕ) (pars : List ℕ) (reserve : Option ℕ) (head : List Told) (e : Entry) → MakesNew fixed sizes sig pars reserve head e → Quiet head
unfolding MakesNew MakesBlock
quiet-new true sizes sig pars reserve head e h = rw h.0 refl
quiet-new false sizes sig pars reserve head e h = rw h.6 refl

pub no_block-quiet : (fixed : Bool) (sizes pars : List ℕ) (reserve : Option ℕ) (answer : Answer) (g : List Told) → NoBlockFor fixed sizes pars reserve answer g → Quiet g
unfolding NoBlockFor
no_block-quiet fixed sizes pars None AtPool g h = rw h.5 refl
no_block-quiet fixed sizes pars (Some r) Refused g h = rw h.5 refl
no_block-quiet fixed sizes pars reserve _ g h = absurd h

posts-quiet : (ring to : ℕ) (margin : Option ℕ) (head : List Told) (e : Entry) (answer : Answer) (g : List Told) → Quiet head → Posts ring to margin head e answer g → Quiet g
unfolding Posts
posts-quiet ring to margin head e Granted g c h = quiet-same h.3 (quiet-append head _ c refl)
posts-quiet ring to (Some k) head e Refused g c h = quiet-same h.4 (quiet-append head _ c (quiet-append (plain (item.Full to h.0 h.1 h.2 k) ∷ []) h.3 refl (quiet-drops e h.3 h.5)))
posts-quiet ring to None head e AtQueue g c h = quiet-same h.3 (quiet-append head _ c refl)
posts-quiet ring to margin head e _ g c h = absurd h

front-quiet : (o : ℕ) (head : List Told) (e : Entry) (answer : Answer) (g : List Told) → Quiet head → PostsFront o head e answer g → Quiet g
unfolding PostsFront
front-quiet o head e Granted g c h = quiet-same h.3 (quiet-append head _ c refl)
front-quiet o head e AtFront g c h = quiet-same h.3 (quiet-append head _ c refl)
front-quiet o head e _ g c h = absurd h

pub one-quiet : (ring : ℕ) (e : Entry) (to : ℕ) (answer : Answer) (g : List Told) → PostsOne ring e to answer g → Quiet g
unfolding PostsOne
one-quiet ring e to answer g h = posts-quiet ring to None h.0 h.1 answer g (quiet-again e h.0 h.1 h.2) h.3

subscribes-quiet : (sig : ℕ) (answer : Answer) (g : List Told) → Subscribes sig answer g → Quiet g
unfolding Subscribes
subscribes-quiet sig Granted g h = rw h.1 refl
subscribes-quiet sig Refused g h = rw h.1 refl
subscribes-quiet sig _ g h = absurd h

unsubscribes-quiet : (sig : ℕ) (answer : Answer) (g : List Told) → Unsubscribes sig answer g → Quiet g
unfolding Unsubscribes
unsubscribes-quiet sig Granted g h = rw h.1 refl
unsubscribes-quiet sig Refused g h = rw h.1 refl
unsubscribes-quiet sig _ g h = absurd h

arms-quiet : (t ticks interval : ℕ) (answer : Answer) (g : List Told) → Arms t ticks interval answer g → Quiet g
unfolding Arms
arms-quiet t ticks interval Granted g h = rw h.1 refl
arms-quiet t ticks interval AtTimer g h = rw h.2 refl
arms-quiet t ticks interval AtTicks g h = rw h refl
arms-quiet t ticks interval _ g h = absurd h

rearms-quiet : (t ticks : ℕ) (answer : Answer) (g : List Told) → Rearms t ticks answer g → Quiet g
unfolding Rearms
rearms-quiet t ticks Granted g h = rw h.2 refl
rearms-quiet t ticks Refused g h = rw h.1 refl
rearms-quiet t ticks AtTicks g h = rw h refl
rearms-quiet t ticks _ g h = absurd h

disarms-quiet : (t : ℕ) (answer : Answer) (g : List Told) → Disarms t answer g → Quiet g
unfolding Disarms
disarms-quiet t Granted g h = rw h.2 refl
disarms-quiet t Refused g h = rw h.1 refl
disarms-quiet t _ g h = absurd h

defers-quiet : (now : Option Entry) (answer : Answer) (g : List Told) → Defers now answer g → Quiet g
unfolding Defers
defers-quiet now Granted g h = quiet-same h.3 (quiet-append h.0 _ (quiet-again_now now h.0 h.1 h.2) refl)
defers-quiet now Refused g h = rw h refl
defers-quiet now _ g h = absurd h

recalls-quiet : (o : ℕ) (answer : Answer) (g : List Told) → Recalls o answer g → Quiet g
unfolding Recalls
recalls-quiet o Granted g h =
    quiet-same h.8
    (quiet-append (plain (item.Recall h.0) ∷ []) (h.3 ++ h.4) refl
    (quiet-append h.3 h.4 (front-quiet o h.2 h.1 Granted h.3 (quiet-again h.0 h.2 h.1 h.5) h.6) (quiet-drops h.0 h.4 h.7)))
recalls-quiet o Refused g h = rw h refl
recalls-quiet o AtFront g h = quiet-same h.6 (quiet-append (plain (item.Recall h.0) ∷ []) h.3 refl (front-quiet o h.2 h.1 AtFront h.3 (quiet-again h.0 h.2 h.1 h.4) h.5))
recalls-quiet o _ g h = absurd h

pub flushes-quiet : (n : ℕ) (g : List Told) → Flushes n g → Quiet g
unfolding Flushes
flushes-quiet zero g h = rw h refl
flushes-quiet (suc n) g h =
    quiet-same h.5 (quiet-append (plain (item.Flush h.0) ∷ []) (h.1 ++ h.2) refl (quiet-append h.1 h.2 (quiet-drops h.0 h.1 h.3) (flushes-quiet n h.2 h.4)))

-- a call other than a publication
pub fits-quiet : (sys : System) (o : ℕ) (now : Option Entry) (x : Call) (answer : Answer) (g : List Told) → is_single x ≡ true → Fits sys o now x answer g → Quiet g
unfolding Fits PostsNew PostsNewFront Forwards
fits-quiet sys o now (call.Post to sig pars margin reserve) answer g is (inl h) = no_block-quiet _ _ pars reserve answer g h
fits-quiet sys o now (call.Post to sig pars margin reserve) answer g is (inr h) = posts-quiet _ to margin h.0 h.1 answer g (quiet-new _ _ sig pars reserve h.0 h.1 h.2) h.3
fits-quiet sys o now (call.Lifo sig pars reserve) answer g is (inl h) = no_block-quiet _ _ pars reserve answer g h
fits-quiet sys o now (call.Lifo sig pars reserve) answer g is (inr h) = front-quiet o h.0 h.1 answer g (quiet-new _ _ sig pars reserve h.0 h.1 h.2) h.3
fits-quiet sys o now (call.Forward to margin) answer g is h = posts-quiet _ to margin h.0 h.1 answer g (quiet-again_now now h.0 h.1 h.2) h.3
fits-quiet sys o now (call.Publish sig pars reserve) answer g is h = absurd (cc)
fits-quiet sys o now call.Defer answer g is h = defers-quiet now answer g h
fits-quiet sys o now call.Recall answer g is h = recalls-quiet o answer g h
fits-quiet sys o now call.Flush (Flushed n) g is h = flushes-quiet n g h
fits-quiet sys o now call.Flush _ g is h = absurd h
fits-quiet sys o now (call.Subscribe sig) answer g is h = subscribes-quiet sig answer g h
fits-quiet sys o now (call.Unsubscribe sig) answer g is h = unsubscribes-quiet sig answer g h
fits-quiet sys o now (call.Arm t ticks interval) answer g is h = arms-quiet _ ticks interval answer g h.0
fits-quiet sys o now (call.Rearm t ticks) answer g is h = rearms-quiet _ ticks answer g h.0
fits-quiet sys o now (call.Disarm t) answer g is h = disarms-quiet _ answer g h

-- the front of quiet records is quiet
pub quiet-front : (g h : List Told) → Quiet (g ++ h) → Quiet g
quiet-front [] h q = refl
quiet-front (t ∷ g) h q =
    let parts = and_parts (is_quiet t.body) (list_all (λ t. is_quiet t.body) (g ++ h)) q in
    rw (parts.0, quiet-front g h parts.1) refl

quiet-ceiling_after : (c : ℕ) (b : Body) → is_quiet b ≡ true → ceiling_after c b ≡ c
quiet-ceiling_after c (item.Lock x) h = absurd (cc)
quiet-ceiling_after c (item.Unlock x) h = absurd (cc)
quiet-ceiling_after c _ h = refl

quiet-all : (c o : ℕ) (g : List Told) → Quiet g → ceiling_in c (map (for_object o) g) ≡ c
unfolding ceiling_in
quiet-all c o [] q = refl
quiet-all c o (t ∷ g) q =
    let parts = and_parts (is_quiet t.body) (list_all (λ t. is_quiet t.body) g) q in
    subst (λ x. ceiling_in x (map (for_object o) g) ≡ c) (sym (quiet-ceiling_after c t.body parts.0)) (quiet-all c o g parts.1)

-- quiet records leave the ceiling of the lane
pub quiet-ceiling : (o : ℕ) (told : List ToldItem) (g : List Told) → Quiet g → ceiling_in 0 (told ++ map (for_object o) g) ≡ ceiling_in 0 told
quiet-ceiling o told g q = ceiling-append 0 told (map (for_object o) g) ∙ quiet-all (ceiling_in 0 told) o g q

abbrev pub Spillless : List Told → Type 0
Spillless g = list_any (λ t. is_spill t.body) g ≡ false

quiet-spill : (b : Body) → is_quiet b ≡ true → is_spill b ≡ false
quiet-spill (item.Spill n) h = absurd (cc)
quiet-spill _ h = refl

pub quiet-spillless : (g : List Told) → Quiet g → Spillless g
quiet-spillless [] q = refl
quiet-spillless (t ∷ g) q =
    let parts = and_parts (is_quiet t.body) (list_all (λ t. is_quiet t.body) g) q in
    rw (quiet-spill t.body parts.0, quiet-spillless g parts.1) refl

pub spillless-append : (g h : List Told) → Spillless g → Spillless h → Spillless (g ++ h)
spillless-append [] h a b = b
spillless-append (t ∷ g) h a b = go (is_spill t.body) a (spillless-append g h)
  where
    go : (u : Bool) → (u || list_any (λ t. is_spill t.body) g) ≡ false → (Spillless g → Spillless h → Spillless (g ++ h)) → (u || list_any (λ t. is_spill t.body) (g ++ h)) ≡ false
    go true k ih = absurd (cc)
    go false k ih = ih k b

-- without a `spill` before and among the records there is none behind them
pub spills-append : (o : ℕ) (told : List ToldItem) (g : List Told) → spills_told told ≡ false → Spillless g → spills_told (told ++ map (for_object o) g) ≡ false
spills-append o [] [] a b = refl
spills-append o [] (t ∷ g) a b = go (is_spill t.body) b (spills-append o [] g a)
  where
    go : (u : Bool) → (u || list_any (λ t. is_spill t.body) g) ≡ false → (Spillless g → spills_told (map (for_object o) g) ≡ false) → (u || spills_told (map (for_object o) g)) ≡ false
    go true k ih = absurd (cc)
    go false k ih = ih k
spills-append o (x ∷ told) g a b = go (is_spill x.told.body) a (spills-append o told g)
  where
    go : (u : Bool) → (u || spills_told told) ≡ false → (spills_told told ≡ false → Spillless g → spills_told (told ++ map (for_object o) g) ≡ false) → (u || spills_told (told ++ map (for_object o) g)) ≡ false
    go true k ih = absurd (cc)
    go false k ih = ih k b
