-- What posts leave, and the records that make their entries.
use Rattle.std.proofs.Common.{◌≡◌, ℕ, zero, suc, ◌==◌, nat_lt, Bool, true, false, ◌&&◌, List, [], ◌∷◌, ◌++◌, length, Some, None, refl, ap, inl, inr, ◌⊎◌, arith}
use Rattle.std.proofs.lemmas.Bool.Decides.{nat_tests}
use Rattle.std.specs.declared.option.Option.{Option}
use Rattle.std.proofs.lemmas.Option.{none-some}
use Rattle.qp_model.specs.declared.systems.System.{System}
use Rattle.qp_model.specs.declared.bodies.Entry.{Entry}
use Rattle.qp_model.specs.declared.bodies.Body.{Body}
use Rattle.qp_model.specs.declared.bodies.Body.TheVariants as item
use Rattle.qp_model.specs.Record.{entry}
use Rattle.qp_model.specs.Line.{same_entry}
use Rattle.qp_model.specs.Told.{Told, Known, Nothing, plain}
use Rattle.qp_model.specs.Calls.{Answer, Granted, Refused, Flushed, AtPool, AtFront, is_assertion}
use Rattle.qp_model.specs.Parts.{is_static, first_pool}
use Rattle.qp_model.specs.Sites.{ring_of}
use Rattle.qp_model.specs.Shapes.{Drops, releases_by, MakesNew, MakesBlock, NoBlockFor, MakesAgain, again_by, Posts, PostsFront}
use Rattle.qp_check_shapes.specs.ShapeUnit.{had_room, is_used, is_static_entry, post_first, behind_post}
use Rattle.qp_check_shapes.proofs.ShapeReleaseLemmas.{when-passed, release-sound}
use Rattle.qp_check_shapes.proofs.ShapePartLemmas.{first-used}
use Rattle.qp_model.proofs.RecordLemmas.{same_entry-is, told-is}

-- what a post leaves behind the records that made its entry, where it doesn't end in an assertion
pub data Posted (sys : System) (e : Entry) (g : List Told) : Type 0 where
  IsPosted : (to f l m : ℕ) → had_room sys to f l m ≡ true → g ≡ plain (item.Post to f l m e) ∷ [] → Posted sys e g
  IsRefused : (to f l m margin : ℕ) (rel : List Told) → Drops e rel → g ≡ plain (item.Full to f l m margin) ∷ rel → Posted sys e g

pub posted-sound : (sys : System) (e : Entry) (told rest : List Told) → behind_post sys e told ≡ Some rest → (g : List Told) × Posted sys e g × (told ≡ g ++ rest)
posted-sound sys e [] rest h = absurd (cc)
posted-sound sys e (t ∷ ts) rest h = by t.body t.known refl refl h
  where
    by : (body : Body) (known : Known) → t.body ≡ body → t.known ≡ known → post_first sys e body known ts ≡ Some rest → (g : List Told) × Posted sys e g × (t ∷ ts ≡ g ++ rest)
    by (item.Post to f l m x) Nothing is_body is_known k =
        let passed = when-passed _ ts rest k in
        let test : (same_entry x e && had_room sys to f l m) ≡ true = passed.0 in
        let same : same_entry x e ≡ true = grind (arith, nat_tests) in
        let room : had_room sys to f l m ≡ true = grind (arith, nat_tests) in
        let entries : x ≡ e = same_entry-is x e same in
        let whole : t ≡ plain (item.Post to f l m x) = told-is t _ _ is_body is_known in
        let behind : ts ≡ rest = passed.1 in
        (plain (item.Post to f l m e) ∷ [], IsPosted to f l m room refl, cc)
    by (item.Full to f l m margin) Nothing is_body is_known k =
        let rel = release-sound e ts rest k in
        let whole : t ≡ plain (item.Full to f l m margin) = told-is t _ _ is_body is_known in
        let behind : ts ≡ rel.0 ++ rest = rel.2 in
        (plain (item.Full to f l m margin) ∷ rel.0, IsRefused to f l m margin rel.0 rel.1 refl, cc)
    by body known is_body is_known k = absurd (none-some _ k)

-- posts are these, behind their heads
pub posts-posted : (sys : System) (to : ℕ) (margin : Option ℕ) (head : List Told) (e : Entry) (answer : Answer) (g : List Told)
    → Posts (ring_of sys to) to margin head e answer g → is_assertion answer ≡ false → (core : List Told) × Posted sys e core × (g ≡ head ++ core)
unfolding Posts had_room
posts-posted sys to margin head e Granted g h calm =
    (plain (item.Post to h.0 h.1 h.2 e) ∷ [], IsPosted to h.0 h.1 h.2 (above _ _ h.4) refl, h.3)
  where
    above : (k room : ℕ) → nat_lt k room ≡ true → nat_lt 0 room ≡ true
    above k room h = grind (arith, nat_tests)
posts-posted sys to (Some k) head e Refused g h calm = (plain (item.Full to h.0 h.1 h.2 k) ∷ h.3, IsRefused to h.0 h.1 h.2 k h.3 h.5 refl, h.4)
posts-posted sys to None head e Refused g h calm = absurd h
posts-posted sys to margin head e (Flushed n) g h calm = absurd (none margin h)
  where
    none : (margin : Option ℕ) → Posts (ring_of sys to) to margin head e (Flushed n) g → ⊥
    none None h = h
    none (Some k) h = h
posts-posted sys to margin head e _ g h calm = absurd (cc)

pub posted-posts : (sys : System) (e : Entry) (head core : List Told) → Posted sys e core
    → (to : ℕ) × (margin : Option ℕ) × (answer : Answer) × Posts (ring_of sys to) to margin head e answer (head ++ core) × (is_assertion answer ≡ false)
unfolding Posts had_room
posted-posts sys e head core (IsPosted to f l m room is) = (to, None, Granted, (f, l, m, ap (λ us. head ++ us) is, room), refl)
posted-posts sys e head core (IsRefused to f l m margin rel drops is) = (to, Some margin, Refused, (f, l, m, rel, ap (λ us. head ++ us) is, drops), refl)

-- an entry of a static event, and the head of one
pub static-entry : (sys : System) (e : Entry) → is_static_entry sys e ≡ true → (e ≡ entry 0 e.block 0) × (is_static sys e.block ≡ true)
unfolding is_static_entry
static-entry sys e h = by (is_static sys e.block) refl h
  where
    by : (fixed : Bool) → is_static sys e.block ≡ fixed → ((e.pool == 0) && (e.name == 0) && fixed) ≡ true → (e ≡ entry 0 e.block 0) × (is_static sys e.block ≡ true)
    by false is h = absurd (grind (arith, nat_tests))
    by true is h =
        let e1 : e.pool ≡ 0 = grind (arith, nat_tests) in
        let e2 : e.name ≡ 0 = grind (arith, nat_tests) in
        let whole : e ≡ entry e.pool e.block e.name = refl in
        (cc, is)

pub entry-static : (sys : System) (sig : ℕ) → is_static sys sig ≡ true → is_static_entry sys (entry 0 sig 0) ≡ true
unfolding is_static_entry
entry-static sys sig h = rw h refl

pub new-static : (fixed : Bool) (sizes : List ℕ) (sig : ℕ) (pars : List ℕ) (reserve : Option ℕ) → fixed ≡ true → MakesNew fixed sizes sig pars reserve [] (entry 0 sig 0)
unfolding MakesNew
new-static true sizes sig pars reserve h = (refl, refl)
new-static false sizes sig pars reserve h = absurd (cc)

-- the records that make the entry of a new event: none, or a block given out
pub new-cases : (fixed : Bool) (sizes : List ℕ) (sig : ℕ) (pars : List ℕ) (reserve : Option ℕ) (head : List Told) (e : Entry) → MakesNew fixed sizes sig pars reserve head e
    → ((fixed ≡ true) × (head ≡ []) × (e ≡ entry 0 sig 0)) ⊎ ((fixed ≡ false) × MakesBlock sizes sig pars reserve head e)
unfolding MakesNew
new-cases true sizes sig pars reserve head e h = inl (refl, h.0, h.1)
new-cases false sizes sig pars reserve head e h = inr (refl, h)

pub new-block : (fixed : Bool) (sizes : List ℕ) (sig : ℕ) (pars : List ℕ) (reserve : Option ℕ) (head : List Told) (e : Entry) → fixed ≡ false → MakesBlock sizes sig pars reserve head e
    → MakesNew fixed sizes sig pars reserve head e
unfolding MakesNew
new-block true sizes sig pars reserve head e is h = absurd (cc)
new-block false sizes sig pars reserve head e is h = h

-- a refusal for want of blocks
pub no-block : (fixed : Bool) (sizes : List ℕ) (pars : List ℕ) (reserve : Option ℕ) (answer : Answer) (g : List Told)
    → NoBlockFor fixed sizes pars reserve answer g → is_assertion answer ≡ false
    → (p n free r : ℕ) × (g ≡ plain (item.Short p n free r) ∷ []) × (is_used sizes p ≡ true)
unfolding NoBlockFor
no-block fixed sizes pars None AtPool g h calm = absurd (cc)
no-block fixed sizes pars (Some r) Refused g h calm = (h.0, h.1, h.2, r, h.5, first-used sizes (length pars) h.0 h.4)
no-block fixed sizes pars None _ g h calm = absurd h
no-block fixed sizes pars (Some r) _ g h calm = absurd h

pub short-no_block : (sizes pars : List ℕ) (p n free r : ℕ) → first_pool sizes (length pars) ≡ Some p → NoBlockFor false sizes pars (Some r) Refused (plain (item.Short p n free r) ∷ [])
unfolding NoBlockFor
short-no_block sizes pars p n free r h = (p, n, free, refl, h, refl)

-- another entry of an event: none is made of a static one
pub again-cases : (k : Entry) (head : List Told) (e : Entry) → MakesAgain k head e
    → ((k.pool ≡ 0) × (head ≡ []) × (e ≡ k)) ⊎ ((nat_lt 0 k.pool ≡ true) × ((r : ℕ) × (head ≡ plain (item.Inc k.pool k.block r) ∷ []) × (e ≡ entry k.pool k.block r)))
unfolding MakesAgain again_by
again-cases k head e h = by k.pool refl h
  where
    by : (p : ℕ) → k.pool ≡ p → again_by p k head e
        → ((k.pool ≡ 0) × (head ≡ []) × (e ≡ k)) ⊎ ((nat_lt 0 k.pool ≡ true) × ((r : ℕ) × (head ≡ plain (item.Inc k.pool k.block r) ∷ []) × (e ≡ entry k.pool k.block r)))
    by zero is h = inl (is, h.0, h.1)
    by (suc p) is h = inr (grind (arith, nat_tests), h)

pub again-static : (k : Entry) → k.pool ≡ 0 → MakesAgain k [] k
unfolding MakesAgain again_by
again-static k is = by k.pool is
  where
    by : (p : ℕ) → p ≡ 0 → again_by p k [] k
    by zero is = (refl, refl)
    by (suc p) is = absurd (omega arith)

pub again-pooled : (k : Entry) (r : ℕ) → nat_lt 0 k.pool ≡ true → MakesAgain k (plain (item.Inc k.pool k.block r) ∷ []) (entry k.pool k.block r)
unfolding MakesAgain again_by
again-pooled k r is = by k.pool is
  where
    by : (p : ℕ) → nat_lt 0 p ≡ true → again_by p k (plain (item.Inc k.pool k.block r) ∷ []) (entry k.pool k.block r)
    by zero is = absurd (grind (arith, nat_tests))
    by (suc p) is = (r, refl, refl)

-- the release of a static entry has no records
pub drops-none : (e : Entry) (rel : List Told) → e.pool ≡ 0 → Drops e rel → rel ≡ []
unfolding Drops releases_by
drops-none e rel is h = by e.pool is h
  where
    by : (p : ℕ) → p ≡ 0 → releases_by p e rel → rel ≡ []
    by zero is h = h
    by (suc p) is h = absurd (omega arith)

pub none-drops : (e : Entry) → e.pool ≡ 0 → Drops e []
unfolding Drops releases_by
none-drops e is = by e.pool is
  where
    by : (p : ℕ) → p ≡ 0 → releases_by p e []
    by zero is = refl
    by (suc p) is = absurd (omega arith)

-- a last-in post that doesn't end in an assertion
pub front-is : (o : ℕ) (head : List Told) (e : Entry) (answer : Answer) (g : List Told) → PostsFront o head e answer g → is_assertion answer ≡ false
    → (f l m : ℕ) × (g ≡ head ++ (plain (item.Lifo f l m e) ∷ []))
unfolding PostsFront
front-is o head e Granted g h calm = h
front-is o head e AtFront g h calm = absurd (cc)
front-is o head e _ g h calm = absurd h
