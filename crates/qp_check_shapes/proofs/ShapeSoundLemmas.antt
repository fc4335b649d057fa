-- What is read off the front of a list is a unit.
use Rattle.std.proofs.Common.{◌≡◌, ℕ, zero, suc, ◌==◌, nat_lt, Bool, true, false, cond, List, [], ◌∷◌, ◌++◌, length, Some, None, refl, sym, subst, inl, inr, ◌⊎◌, arith}
use Rattle.std.proofs.lemmas.Bool.{and_parts, eqb-true}
use Rattle.std.proofs.lemmas.Bool.Decides.{nat_tests}
use Rattle.std.specs.declared.option.Option.{Option}
use Rattle.std.proofs.lemmas.Option.{none-some}
use Rattle.qp_model.specs.declared.systems.System.{System}
use Rattle.qp_model.specs.declared.bodies.Entry.{Entry}
use Rattle.qp_model.specs.declared.bodies.Body.{Body}
use Rattle.qp_model.specs.declared.bodies.Body.TheVariants as item
use Rattle.qp_model.specs.Record.{entry}
use Rattle.qp_model.specs.Line.{same_entry}
use Rattle.qp_model.specs.Told.{Told, Known, Nothing, plain, told_new}
use Rattle.qp_model.specs.Calls as call
use Rattle.qp_model.specs.Calls.{Granted, Refused}
use Rattle.qp_model.specs.Parts.{is_static, sizes_of}
use Rattle.qp_model.specs.Shapes.{Fits, FitsAny, Drops, MakesNew, MakesBlock, MakesAgain, MakesAgainNow, PostsFront, PostsNew, PostsNewFront, Forwards, Defers, Arms, Rearms, Disarms}
use Rattle.qp_check_shapes.specs.ShapeUnit.{IsUnit, MakesCall, is_used, goes_to, is_static_entry, is_static_now, works_on, works_on_static, some_static, post_first, behind_post, again_first, behind_again, new_first, behind_entry, reference_first, behind_new, lifo_first, behind_lifo}
use Rattle.qp_check_shapes.proofs.ShapeReleaseLemmas.{when-passed, release-sound}
use Rattle.qp_check_shapes.proofs.ShapePostLemmas.{Posted, posted-sound, posted-posts, static-entry, entry-static, new-static, new-block, short-no_block, again-static, again-pooled, none-drops, IsRefused}
use Rattle.qp_check_shapes.proofs.ShapePartLemmas.{some-static, goes-first, used-first}
use Rattle.qp_model.proofs.RecordLemmas.{same_entry-is, told-is}
use Rattle.qp_model.proofs.LineLemmas.{same_entry-refl}

-- A test that is passed before what stands behind is read.
pub passed : (test : Bool) (behind : Option (List Told)) (rest : List Told) → cond test behind None ≡ Some rest → (test ≡ true) × (behind ≡ Some rest)
passed true behind rest h = (refl, h)
passed false behind rest h = absurd (cc)

-- a post of a static event, or of the static event that a step works on, is a unit
pub static-unit : (sys : System) (o : ℕ) (now : Option Entry) (e : Entry) (g : List Told) → Posted sys e g → (is_static_entry sys e ≡ true) ⊎ (is_static_now now e ≡ true) → IsUnit sys o now g
unfolding FitsAny Fits PostsNew Forwards MakesAgainNow
static-unit sys o now e g posted (inl h) =
    let is = static-entry sys e h in
    let posts = posted-posts sys e [] g posted in
    MakesCall (call.Post posts.0 e.block [] posts.1 None) posts.2 refl
    (inr ([], e, subst (λ x. MakesNew (is_static sys e.block) (sizes_of sys) e.block [] None [] x) (sym is.0) (new-static (is_static sys e.block) (sizes_of sys) e.block [] None is.1), posts.3)) posts.4
static-unit sys o None e g posted (inr h) = absurd (cc)
static-unit sys o (Some k) e g posted (inr h) =
    let tests = and_parts (k.pool == 0) (same_entry k e) h in
    let same : k ≡ e = same_entry-is k e tests.1 in
    let posts = posted-posts sys e [] g posted in
    MakesCall (call.Forward posts.0 posts.1) posts.2 refl ([], e, subst (λ x. MakesAgain k [] x) same (again-static k (eqb-true k.pool 0 tests.0)), posts.3) posts.4

-- a refusal alone is one of a static event
pub full-unit : (sys : System) (o : ℕ) (now : Option Entry) (to f l m margin : ℕ) → (some_static sys ≡ true) ⊎ (works_on_static now ≡ true) → IsUnit sys o now (plain (item.Full to f l m margin) ∷ [])
full-unit sys o now to f l m margin (inl h) =
    let sig = some-static sys h in
    static-unit sys o now (entry 0 sig.0 0) (plain (item.Full to f l m margin) ∷ []) (IsRefused to f l m margin [] (none-drops (entry 0 sig.0 0) refl) refl) (inl (entry-static sys sig.0 sig.1))
full-unit sys o None to f l m margin (inr h) = absurd (cc)
full-unit sys o (Some k) to f l m margin (inr h) =
    let now_is : is_static_now (Some k) k ≡ true = rw h (same_entry-refl k) in
    static-unit sys o (Some k) k (plain (item.Full to f l m margin) ∷ []) (IsRefused to f l m margin [] (none-drops k (eqb-true k.pool 0 h)) refl) (inr now_is)

-- a last-in post of a static event
pub lifo-unit : (sys : System) (o : ℕ) (now : Option Entry) (f l m : ℕ) (e : Entry) → is_static_entry sys e ≡ true → IsUnit sys o now (plain (item.Lifo f l m e) ∷ [])
unfolding FitsAny Fits PostsNewFront PostsFront
lifo-unit sys o now f l m e h =
    let is = static-entry sys e h in
    MakesCall (call.Lifo e.block [] None) Granted refl
    (inr ([], e, subst (λ x. MakesNew (is_static sys e.block) (sizes_of sys) e.block [] None [] x) (sym is.0) (new-static (is_static sys e.block) (sizes_of sys) e.block [] None is.1), (f, l, m, refl))) refl

-- a deferral of a static event
pub defer-unit : (sys : System) (o : ℕ) (now : Option Entry) (e : Entry) → is_static_now now e ≡ true → IsUnit sys o now (plain (item.Defer e) ∷ [])
unfolding FitsAny Fits Defers MakesAgainNow
defer-unit sys o None e h = absurd (cc)
defer-unit sys o (Some k) e h =
    let tests = and_parts (k.pool == 0) (same_entry k e) h in
    let same : k ≡ e = same_entry-is k e tests.1 in
    MakesCall call.Defer Granted refl ([], e, subst (λ x. MakesAgain k [] x) same (again-static k (eqb-true k.pool 0 tests.0)), refl) refl

pub short-unit : (sys : System) (o : ℕ) (now : Option Entry) (p n free r : ℕ) → is_used (sizes_of sys) p ≡ true → IsUnit sys o now (plain (item.Short p n free r) ∷ [])
unfolding FitsAny Fits PostsNew is_static
short-unit sys o now p n free r h =
    let pars = used-first (sizes_of sys) p h in
    MakesCall (call.Post 0 0 pars.0 None (Some r)) Refused refl (inl (short-no_block (sizes_of sys) pars.0 p n free r pars.1)) refl

-- time events, whichever they are
pub arm-unit : (sys : System) (o : ℕ) (now : Option Entry) (t n ticks interval : ℕ) → IsUnit sys o now (plain (item.Arm t n ticks interval) ∷ [])
unfolding FitsAny Arms
arm-unit sys o now t n ticks interval = MakesCall (call.Arm t ticks interval) Granted refl (n, refl) refl

pub rearm-unit : (sys : System) (o : ℕ) (now : Option Entry) (t n former ticks : ℕ) → IsUnit sys o now (plain (item.Rearm t n former ticks) ∷ [])
unfolding FitsAny Rearms
rearm-unit sys o now t n zero ticks = MakesCall (call.Rearm t ticks) Refused refl (n, refl) refl
rearm-unit sys o now t n (suc former) ticks = MakesCall (call.Rearm t ticks) Granted refl (n, former, refl) refl

pub disarm-unit : (sys : System) (o : ℕ) (now : Option Entry) (t n former : ℕ) → IsUnit sys o now (plain (item.Disarm t n former) ∷ [])
unfolding FitsAny Disarms
disarm-unit sys o now t n former = MakesCall (call.Disarm t) Granted refl (n, former, refl) refl

pub idle-unit : (sys : System) (o : ℕ) (now : Option Entry) (t n : ℕ) → IsUnit sys o now (plain (item.Idle t n) ∷ [])
unfolding FitsAny Disarms
idle-unit sys o now t n = MakesCall (call.Disarm t) Refused refl (n, refl) refl

-- the test of a post at the record that it is read from
pub as-post : (sys : System) (e : Entry) (t : Told) (ts rest : List Told) (body : Body) (known : Known) → t.body ≡ body → t.known ≡ known
    → post_first sys e body known ts ≡ Some rest → behind_post sys e (t ∷ ts) ≡ Some rest
as-post sys e t ts rest body known is_body is_known k =
    subst (λ x. post_first sys e x t.known ts ≡ Some rest) (sym is_body) (subst (λ x. post_first sys e body x ts ≡ Some rest) (sym is_known) k)

-- What stands behind a reference more of the entry that a step works on: a post or a deferral of that entry.
pub again-unit : (sys : System) (o : ℕ) (now : Option Entry) (p b r : ℕ) (told rest : List Told) → works_on now p b ≡ true → behind_again sys (entry p b r) told ≡ Some rest
    → (g : List Told) × IsUnit sys o now (plain (item.Inc p b r) ∷ g) × (told ≡ g ++ rest)
unfolding FitsAny Fits Forwards Defers MakesAgainNow
again-unit sys o None p b r told rest h k = absurd (cc)
again-unit sys o (Some now) p b r [] rest h k = absurd (cc)
again-unit sys o (Some now) p b r (t ∷ ts) rest h k = by t.body t.known refl refl k
  where
    pooled : nat_lt 0 now.pool ≡ true
    pooled = grind (arith, nat_tests)

    same_pool : now.pool ≡ p
    same_pool = grind (arith, nat_tests)

    same_block : now.block ≡ b
    same_block = grind (arith, nat_tests)

    again : MakesAgain now (plain (item.Inc p b r) ∷ []) (entry p b r)
    again = subst (λ x. MakesAgain now (plain (item.Inc x b r) ∷ []) (entry x b r)) same_pool (subst (λ x. MakesAgain now (plain (item.Inc now.pool x r) ∷ []) (entry now.pool x r)) same_block (again-pooled now r pooled))

    post : behind_post sys (entry p b r) (t ∷ ts) ≡ Some rest → (g : List Told) × IsUnit sys o (Some now) (plain (item.Inc p b r) ∷ g) × (t ∷ ts ≡ g ++ rest)
    post k =
        let posted = posted-sound sys (entry p b r) (t ∷ ts) rest k in
        let posts = posted-posts sys (entry p b r) (plain (item.Inc p b r) ∷ []) posted.0 posted.1 in
        (posted.0, MakesCall (call.Forward posts.0 posts.1) posts.2 refl (plain (item.Inc p b r) ∷ [], entry p b r, again, posts.3) posts.4, posted.2)

    by : (body : Body) (known : Known) → t.body ≡ body → t.known ≡ known → again_first sys (entry p b r) body known ts ≡ Some rest
        → (g : List Told) × IsUnit sys o (Some now) (plain (item.Inc p b r) ∷ g) × (t ∷ ts ≡ g ++ rest)
    by (item.Defer x) Nothing is_body is_known k =
        let test = when-passed _ ts rest k in
        let same : x ≡ entry p b r = same_entry-is x (entry p b r) test.0 in
        let whole : t ≡ plain (item.Defer x) = told-is t _ _ is_body is_known in
        let behind : ts ≡ rest = test.1 in
        (plain (item.Defer (entry p b r)) ∷ [], MakesCall call.Defer Granted refl (plain (item.Inc p b r) ∷ [], entry p b r, again, refl) refl, cc)
    by body known is_body is_known k = post (as-post sys (entry p b r) t ts rest body known is_body is_known k)

-- behind a new block's first reference: a post or a last-in post of its entry
pub new-unit : (sys : System) (o : ℕ) (now : Option Entry) (p n b from sig free r : ℕ) (pars : List ℕ) (told rest : List Told)
    → nat_lt 0 free ≡ true → goes_to (sizes_of sys) (length pars) p ≡ true → is_static sys sig ≡ false → behind_entry sys (entry p b r) told ≡ Some rest
    → (g : List Told) × IsUnit sys o now (told_new p n b from sig pars free ∷ plain (item.Inc p b r) ∷ g) × (told ≡ g ++ rest)
unfolding FitsAny Fits PostsNew PostsNewFront PostsFront MakesBlock
new-unit sys o now p n b from sig free r pars [] rest above goes pooled k = absurd (cc)
new-unit sys o now p n b from sig free r pars (t ∷ ts) rest above goes pooled k = by t.body t.known refl refl k
  where
    head : List Told
    head = told_new p n b from sig pars free ∷ plain (item.Inc p b r) ∷ []

    makes : MakesNew (is_static sys sig) (sizes_of sys) sig pars None head (entry p b r)
    makes = new-block (is_static sys sig) (sizes_of sys) sig pars None head (entry p b r) pooled (p, n, b, from, free, r, refl, refl, goes-first (sizes_of sys) (length pars) p goes, above)

    post : behind_post sys (entry p b r) (t ∷ ts) ≡ Some rest → (g : List Told) × IsUnit sys o now (told_new p n b from sig pars free ∷ plain (item.Inc p b r) ∷ g) × (t ∷ ts ≡ g ++ rest)
    post k =
        let posted = posted-sound sys (entry p b r) (t ∷ ts) rest k in
        let posts = posted-posts sys (entry p b r) head posted.0 posted.1 in
        (posted.0, MakesCall (call.Post posts.0 sig pars posts.1 None) posts.2 refl (inr (head, entry p b r, makes, posts.3)) posts.4, posted.2)

    by : (body : Body) (known : Known) → t.body ≡ body → t.known ≡ known → new_first sys (entry p b r) body known ts ≡ Some rest
        → (g : List Told) × IsUnit sys o now (told_new p n b from sig pars free ∷ plain (item.Inc p b r) ∷ g) × (t ∷ ts ≡ g ++ rest)
    by (item.Lifo f l m x) Nothing is_body is_known k =
        let test = when-passed _ ts rest k in
        let same : x ≡ entry p b r = same_entry-is x (entry p b r) test.0 in
        let whole : t ≡ plain (item.Lifo f l m x) = told-is t _ _ is_body is_known in
        let behind : ts ≡ rest = test.1 in
        (plain (item.Lifo f l m (entry p b r)) ∷ [], MakesCall (call.Lifo sig pars None) Granted refl (inr (head, entry p b r, makes, (f, l, m, refl))) refl, cc)
    by body known is_body is_known k = post (as-post sys (entry p b r) t ts rest body known is_body is_known k)

-- a block given out, and its first reference
pub block-unit : (sys : System) (o : ℕ) (now : Option Entry) (p n b from sig free : ℕ) (pars : List ℕ) (told rest : List Told)
    → nat_lt 0 free ≡ true → goes_to (sizes_of sys) (length pars) p ≡ true → is_static sys sig ≡ false → behind_new sys p b told ≡ Some rest
    → (g : List Told) × IsUnit sys o now (told_new p n b from sig pars free ∷ g) × (told ≡ g ++ rest)
block-unit sys o now p n b from sig free pars [] rest above goes pooled k = absurd (cc)
block-unit sys o now p n b from sig free pars (t ∷ ts) rest above goes pooled k = by t.body t.known refl refl k
  where
    by : (body : Body) (known : Known) → t.body ≡ body → t.known ≡ known → reference_first sys p b body known ts ≡ Some rest
        → (g : List Told) × IsUnit sys o now (told_new p n b from sig pars free ∷ g) × (t ∷ ts ≡ g ++ rest)
    by (item.Inc q c r) Nothing is_body is_known k =
        let test = passed _ _ rest k in
        let tests = and_parts (q == p) (c == b) test.0 in
        let e1 : q ≡ p = eqb-true q p tests.0 in
        let e2 : c ≡ b = eqb-true c b tests.1 in
        let whole : t ≡ plain (item.Inc q c r) = told-is t _ _ is_body is_known in
        let unit = new-unit sys o now p n b from sig free r pars ts rest above goes pooled test.1 in
        let behind : ts ≡ unit.0 ++ rest = unit.2 in
        (plain (item.Inc p b r) ∷ unit.0, unit.1, cc)
    by body known is_body is_known k = absurd (none-some _ k)

-- a last-in post of a recalled entry, and the release of its deferral
pub lifo-sound : (k e : Entry) (told rest : List Told) → behind_lifo k e told ≡ Some rest
    → (f l m : ℕ) × (rel : List Told) × Drops k rel × (told ≡ plain (item.Lifo f l m e) ∷ (rel ++ rest))
lifo-sound k e [] rest h = absurd (cc)
lifo-sound k e (t ∷ ts) rest h = by t.body t.known refl refl h
  where
    by : (body : Body) (known : Known) → t.body ≡ body → t.known ≡ known → lifo_first k e body known ts ≡ Some rest
        → (f l m : ℕ) × (rel : List Told) × Drops k rel × (t ∷ ts ≡ plain (item.Lifo f l m e) ∷ (rel ++ rest))
    by (item.Lifo f l m x) Nothing is_body is_known h =
        let test = passed _ _ rest h in
        let same : x ≡ e = same_entry-is x e test.0 in
        let whole : t ≡ plain (item.Lifo f l m x) = told-is t _ _ is_body is_known in
        let rel = release-sound k ts rest test.1 in
        let behind : ts ≡ rel.0 ++ rest = rel.2 in
        (f, l, m, rel.0, rel.1, cc)
    by body known is_body is_known h = absurd (none-some _ h)
