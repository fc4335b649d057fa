-- A stimulus takes nothing from a queue, and posts nothing last-in.
use Rattle.std.proofs.Common.{◌≡◌, ℕ, zero, suc, ◌+◌, ◌<◌, ◌==◌, Bool, true, false, ◌⊎◌, List, [], ◌∷◌, ◌++◌, map, refl, sym, ◌∙◌, ap, subst, inl, inr, Option, Some, None, IsTrue}
use Rattle.std.specs.Bool.{MatchBool}
use Rattle.std.specs.List.{list_all}
use Rattle.std.proofs.lemmas.Bool.{and_parts}
use Rattle.qp_model.specs.declared.stimulus.Stim.{Stim}
use Rattle.qp_model.specs.declared.stimulus.Stim.TheVariants as stim
use Rattle.qp_model.specs.declared.systems.System.{System}
use Rattle.qp_model.specs.declared.systems.TimerDef.{TimerDef}
use Rattle.qp_model.specs.declared.bodies.Entry.{Entry}
use Rattle.qp_model.specs.declared.bodies.Body.{Body}
use Rattle.qp_model.specs.declared.bodies.Body.TheVariants as item
use Rattle.qp_model.specs.Told.{Told, plain, for_object}
use Rattle.qp_model.specs.Calls.{Answer, Granted, Refused, AtQueue, AtPool}
use Rattle.qp_model.specs.Kernels.{sim, may_try}
use Rattle.qp_model.specs.Sites.{ring_of}
use Rattle.qp_model.specs.Shapes.{Fits, MakesBlock, MakesNew, again_by, MakesAgain, NoBlockFor, Posts, PostsNew, PostsOne, PostsToAll, PostsUpTo, Publishes, PublishesFirst, PublishesLast, Drops, releases_by, Releases}
use Rattle.qp_model.specs.Sources.{CallFits, FiresInVain, SeesEmpty, SeesEntry, Settles, StimFits, Ticks, TicksOne, Tries, priorities}
use Rattle.qp_model.proofs.FitsLemmas.{all-append}
use Rattle.qp_calls.specs.LaneView.{LaneView, Grows, Own, own_after, own_of}
use Rattle.qp_calls.proofs.Sending.{no_restore, no_raise}
use Rattle.qp_calls_stimulus.specs.Stimulating.{begun_records}

abbrev pub is_aloof : Body → Bool
is_aloof (item.Took f l m e) = false
is_aloof (item.Lifo f l m e) = false
is_aloof _ = true

abbrev pub Aloof : List Told → Type 0
Aloof g = list_all (λ t. is_aloof t.body) g ≡ true

more : (g h : List Told) → Aloof g → Aloof h → Aloof (g ++ h)
more g h a b = all-append (λ t. is_aloof t.body) g h a b

same : {g h : List Told} → g ≡ h → Aloof h → Aloof g
same {g} {h} e k = subst (λ us. Aloof us) (sym e) k

-- The parts of the shapes.

drops : (e : Entry) (rel : List Told) → Drops e rel → Aloof rel
unfolding Drops
drops e rel h = by_pool e.pool h
  where
    by_case : Releases e.pool e.block e.name rel → list_all (λ t. is_aloof t.body) rel ≡ true
    by_case (inl k) = rw k.2 refl
    by_case (inr k) = rw k.2 refl

    by_pool : (p : ℕ) → releases_by p e rel → list_all (λ t. is_aloof t.body) rel ≡ true
    by_pool zero h = rw h refl
    by_pool (suc p) h = by_case h

again : (old : Entry) (head : List Told) (e : Entry) → MakesAgain old head e → Aloof head
unfolding MakesAgain
again old head e h = by_pool old.pool h
  where
    by_pool : (p : ℕ) → again_by p old head e → list_all (λ t. is_aloof t.body) head ≡ true
    by_pool zero h = rw h.0 refl
    by_pool (suc p) h = rw h.1 refl

new : (fixed : Bool) (sizes : List ℕ) (sig : ℕ) (pars : List ℕ) (reserve : Option ℕ) (head : List Told) (e : Entry) → MakesNew fixed sizes sig pars reserve head e → Aloof head
unfolding MakesNew MakesBlock
new true sizes sig pars reserve head e h = rw h.0 refl
new false sizes sig pars reserve head e h = rw h.6 refl

no_block : (fixed : Bool) (sizes pars : List ℕ) (reserve : Option ℕ) (answer : Answer) (g : List Told) → NoBlockFor fixed sizes pars reserve answer g → Aloof g
unfolding NoBlockFor
no_block fixed sizes pars None AtPool g h = rw h.5 refl
no_block fixed sizes pars (Some r) Refused g h = rw h.5 refl
no_block fixed sizes pars reserve _ g h = absurd h

posts : (ring to : ℕ) (margin : Option ℕ) (head : List Told) (e : Entry) (answer : Answer) (g : List Told) → Aloof head → Posts ring to margin head e answer g → Aloof g
unfolding Posts
posts ring to margin head e Granted g c h = same h.3 (more head _ c refl)
posts ring to (Some k) head e Refused g c h = same h.4 (more head _ c (more (plain (item.Full to h.0 h.1 h.2 k) ∷ []) h.3 refl (drops e h.3 h.5)))
posts ring to None head e AtQueue g c h = same h.3 (more head _ c refl)
posts ring to margin head e _ g c h = absurd h

posts_one : (ring : ℕ) (e : Entry) (to : ℕ) (answer : Answer) (g : List Told) → PostsOne ring e to answer g → Aloof g
unfolding PostsOne
posts_one ring e to answer g h = posts ring to None h.0 h.1 answer g (again e h.0 h.1 h.2) h.3

posts_all : (rings : ℕ → ℕ) (e : Entry) (ms : List ℕ) (g : List Told) → PostsToAll rings e ms g → Aloof g
unfolding PostsToAll
posts_all rings e [] g h = rw h refl
posts_all rings e (a ∷ ms) g h = same h.2 (more h.0 h.1 (posts_one (rings a) e a Granted h.0 h.3) (posts_all rings e ms h.1 h.4))

posts_up : (rings : ℕ → ℕ) (e : Entry) (ms : List ℕ) (g : List Told) → PostsUpTo rings e ms g → Aloof g
unfolding PostsUpTo
posts_up rings e [] g h = absurd h
posts_up rings e (a ∷ ms) g (inl h) = posts_one (rings a) e a AtQueue g h
posts_up rings e (a ∷ ms) g (inr h) = same h.2 (more h.0 h.1 (posts_one (rings a) e a Granted h.0 h.3) (posts_up rings e ms h.1 h.4))

first : (fixed : Bool) (sizes : List ℕ) (sig : ℕ) (pars : List ℕ) (reserve : Option ℕ) (e : Entry) (former : ℕ) (ms : List ℕ) (g : List Told)
    → PublishesFirst fixed sizes 0 sig pars reserve e former ms g → Aloof g
unfolding PublishesFirst
first fixed sizes sig pars reserve e former ms g h =
    same (h.5 ∙ ap (λ x. h.0 ++ (plain (item.Pub sig h.1 h.2) ∷ x)) (no_raise former ms)) (more h.0 _ (new fixed sizes sig pars reserve h.0 e h.3) refl)

last : (e : Entry) (former : ℕ) (ms : List ℕ) (g : List Told) → PublishesLast 0 e former ms g → Aloof g
unfolding PublishesLast
last e former ms g h = same (h.2 ∙ ap (λ x. x ++ h.0) (no_restore former ms)) (drops e h.0 h.1)

publishes : (fixed : Bool) (sizes : List ℕ) (rings : ℕ → ℕ) (sig : ℕ) (pars : List ℕ) (reserve : Option ℕ) (answer : Answer) (g : List Told)
    → Publishes fixed sizes rings 0 sig pars reserve answer g → Aloof g
unfolding Publishes
publishes fixed sizes rings sig pars reserve Granted g h =
    same h.9
    (more h.3 (h.4 ++ h.5) (first fixed sizes sig pars reserve h.0 h.1 h.2 h.3 h.6) (more h.4 h.5 (posts_all rings h.0 h.2 h.4 h.7) (last h.0 h.1 h.2 h.5 h.8)))
publishes fixed sizes rings sig pars reserve AtQueue g h = same h.7 (more h.3 h.4 (first fixed sizes sig pars reserve h.0 h.1 h.2 h.3 h.5) (posts_up rings h.0 h.2 h.4 h.6))
publishes fixed sizes rings sig pars reserve answer g h = no_block fixed sizes pars reserve answer g h

tick : (ring t : ℕ) (d : TimerDef) (g : List Told) → TicksOne ring t d g → Aloof g
unfolding TicksOne
tick ring t d g (inl h) = rw h.1 refl
tick ring t d g (inr (inl h)) = rw h.2 refl
tick ring t d g (inr (inr h)) = rw h.5 refl

ticks : (sys : System) (rate t : ℕ) (ds : List TimerDef) (asserted : Bool) (g : List Told) → Ticks sys rate t ds asserted g → Aloof g
unfolding Ticks FiresInVain
ticks sys rate t [] asserted g h = rw h.0 refl
ticks sys rate t (d ∷ ds) asserted g h = by (d.rate == rate) h (λ rest k. ticks sys rate (t + 1) ds asserted rest k)
  where
    by : (b : Bool)
        → MatchBool b (((asserted ≡ true) × FiresInVain t d g) ⊎ ((one rest : List Told) × (g ≡ one ++ rest) × TicksOne (ring_of sys d.object) t d one × Ticks sys rate (t + 1) ds asserted rest)) (Ticks sys rate (t + 1) ds asserted g)
        → ((rest : List Told) → Ticks sys rate (t + 1) ds asserted rest → Aloof rest) → Aloof g
    by true (inl k) go = let vain = k.1 in same vain.5 refl
    by true (inr k) go = same k.2 (more k.0 k.1 (tick (ring_of sys d.object) t d k.0 k.3) (go k.1 k.4))
    by false k go = go g k

sees : (os : List ℕ) (g : List Told) → SeesEmpty os g → Aloof g
unfolding SeesEmpty
sees [] g h = rw h refl
sees (o ∷ os) g h = same h.4 (sees os h.3 h.6)

pub entry-aloof : (os : List ℕ) (g : List Told) → SeesEntry os g → Aloof g
unfolding SeesEntry
entry-aloof [] g h = absurd h
entry-aloof (o ∷ os) g h = same h.4 (by h.3 h.5 (λ rest k. entry-aloof os rest k))
  where
    by : (rest : List Told) → ((h.0 + h.1 ≡ h.2) × SeesEntry os rest) ⊎ ((h.2 < h.0 + h.1) × (rest ≡ [])) → ((rest : List Told) → SeesEntry os rest → Aloof rest) → Aloof rest
    by rest (inl k) go = go rest k.1
    by rest (inr k) go = rw k.1 refl

settle : (sys : System) (g : List Told) → Settles sys sim g → Aloof g
unfolding Settles Tries
settle sys g (n, tries, last, is, tried, once, empty) = by once
  where
    none : n ≡ 0 → tries ≡ []
    none e = subst (λ k. Tries (priorities sys) k tries) e tried

    by : (IsTrue (may_try sim)) ⊎ (n ≡ 0) → Aloof g
    by (inl wrong) = let no : false ≡ true = wrong in absurd (cc)
    by (inr e) = same (is ∙ ap (λ x. x ++ plain item.Settle ∷ last) (none e)) (sees (priorities sys) last empty)

-- any stimulus
pub stimulus-aloof : (sys : System) (s : Stim) (asserted : Bool) (g : List Told) → StimFits sys sim s asserted g → Aloof g
unfolding StimFits CallFits Fits PostsNew
stimulus-aloof sys (stim.Post to ev margin reserve) asserted g (answer, (inl h), is) = no_block _ _ ev.pars.items reserve answer g h
stimulus-aloof sys (stim.Post to ev margin reserve) asserted g (answer, (inr h), is) = posts _ to margin h.0 h.1 answer g (new _ _ ev.sig ev.pars.items reserve h.0 h.1 h.2) h.3
stimulus-aloof sys (stim.Publish ev reserve) asserted g h = publishes _ _ _ ev.sig ev.pars.items reserve h.0 g h.1
stimulus-aloof sys (stim.Tick rate) asserted g h = ticks sys rate 1 sys.timers asserted g h
stimulus-aloof sys stim.Settle asserted g h = settle sys g h.0

pub aloof-front : (g h : List Told) → Aloof (g ++ h) → Aloof g
aloof-front [] h q = refl
aloof-front (t ∷ g) h q =
    let parts = and_parts (is_aloof t.body) (list_all (λ t. is_aloof t.body) (g ++ h)) q in
    rw (parts.0, aloof-front g h parts.1) refl

pub aloof-begun : (place look : ℕ) (one : List Told) → Aloof one → Aloof (begun_records place look one)
aloof-begun place look one h = h

aloof-of : (a o : ℕ) (c : Own) (b : Body) → is_aloof b ≡ true → own_of a c o b ≡ c
aloof-of a o c (item.Took f l m e) h = absurd (cc)
aloof-of a o c (item.Lifo f l m e) h = absurd (cc)
aloof-of a o c _ h = refl

own-after : (a o : ℕ) (c : Own) (g : List Told) → Aloof g → own_after a c (map (for_object o) g) ≡ c
unfolding own_after
own-after a o c [] h = refl
own-after a o c (t ∷ g) h =
    let parts = and_parts (is_aloof t.body) (list_all (λ t. is_aloof t.body) g) h in
    ap (λ x. own_after a x (map (for_object o) g)) (aloof-of a o c t.body parts.0) ∙ own-after a o c g parts.1

-- such records leave the lane's own counts
pub own-same : (g : List Told) (v w : LaneView) (a : ℕ) → Grows g v w → Aloof g → w.own a ≡ v.own a
own-same g v w a grows aloof = grows.own a ∙ own-after a v.by (v.own a) g aloof
