-- Calls that end in their assertions are read off the front of a list, each way.
use Rattle.std.proofs.Common.{◌≡◌, ℕ, ◌==◌, nat_lt, Bool, true, false, not, cond, ◌&&◌, List, [], ◌∷◌, ◌++◌, length, Some, None, refl, sym, subst, inr, arith}
use Rattle.std.proofs.lemmas.Bool.{and_parts, not-true, or_cases, eqb-true}
use Rattle.std.proofs.lemmas.Bool.Decides.{nat_tests}
use Rattle.std.specs.declared.option.Option.{Option}
use Rattle.std.proofs.lemmas.Option.{none-some}
use Rattle.qp_model.specs.declared.systems.System.{System}
use Rattle.qp_model.specs.declared.bodies.Entry.{Entry}
use Rattle.qp_model.specs.declared.bodies.Body.{Body}
use Rattle.qp_model.specs.declared.bodies.Body.TheVariants as item
use Rattle.qp_model.specs.Record.{entry}
use Rattle.qp_model.specs.Told.{Told, Known, Nothing, Free, plain, told_new}
use Rattle.qp_model.specs.Calls as call
use Rattle.qp_model.specs.Calls.{AtQueue, AtFront}
use Rattle.qp_model.specs.Parts.{is_static, sizes_of}
use Rattle.qp_model.specs.Shapes.{Fits, FitsAny, MakesNew, MakesBlock, MakesAgain, Posts, PostsFront, PostsNew, PostsNewFront, Recalls}
use Rattle.qp_check_shapes.specs.ShapeUnit.{goes_to, some_static}
use Rattle.qp_check_shapes.proofs.ShapeReleaseLemmas.{when-passed}
use Rattle.qp_check_shapes.proofs.ShapePostLemmas.{new-block, again-static, again-pooled}
use Rattle.qp_check_shapes.proofs.ShapePartLemmas.{goes-first}
use Rattle.qp_check_shapes.specs.ShapeRelease.{IsUnambiguous}
use Rattle.qp_check_shapes.specs.ShapeAssertion.{IsAsserted, Asserts, no_entry_first, behind_no_entry, no_lifo_first, behind_no_lifo, cut_first, behind_cut, new_cut_first, behind_new_cut, recall_cut_first, behind_recall_reference, behind_recall_cut, plain_cut, given_cut, assertion_first, behind_assertion}
use Rattle.qp_check_shapes.proofs.ShapeReleaseLemmas.{leaves}
use Rattle.qp_check_shapes.proofs.ShapeSoundLemmas.{passed}
use Rattle.qp_check_shapes.proofs.ShapeAssertionLemmas.{assertion-whole, no_entry-asserted, no_lifo-asserted, no_block-asserted, armed-asserted, bad_ticks-asserted, again-asserted}
use Rattle.qp_model.proofs.RecordLemmas.{told-is}

no_entry-sound : (told rest : List Told) → behind_no_entry told ≡ Some rest → (a f l m : ℕ) × (told ≡ plain (item.NoEntry a f l m) ∷ rest)
no_entry-sound [] rest h = absurd (cc)
no_entry-sound (t ∷ ts) rest h = by t.body t.known refl refl h
  where
    by : (body : Body) (known : Known) → t.body ≡ body → t.known ≡ known → no_entry_first body known ts ≡ Some rest → (a f l m : ℕ) × (t ∷ ts ≡ plain (item.NoEntry a f l m) ∷ rest)
    by (item.NoEntry a f l m) Nothing is_body is_known h = let whole : t ≡ plain (item.NoEntry a f l m) = told-is t _ _ is_body is_known in let behind : ts ≡ rest = cc in (a, f, l, m, cc)
    by body known is_body is_known h = absurd (none-some _ h)

no_lifo-sound : (o : ℕ) (told rest : List Told) → behind_no_lifo o told ≡ Some rest → (f l m : ℕ) × (told ≡ plain (item.NoLifo o f l m) ∷ rest)
no_lifo-sound o [] rest h = absurd (cc)
no_lifo-sound o (t ∷ ts) rest h = by t.body t.known refl refl h
  where
    by : (body : Body) (known : Known) → t.body ≡ body → t.known ≡ known → no_lifo_first o body known ts ≡ Some rest → (f l m : ℕ) × (t ∷ ts ≡ plain (item.NoLifo o f l m) ∷ rest)
    by (item.NoLifo a f l m) Nothing is_body is_known h =
        let test = when-passed _ ts rest h in
        let own : a ≡ o = eqb-true a o test.0 in
        let whole : t ≡ plain (item.NoLifo a f l m) = told-is t _ _ is_body is_known in
        let behind : ts ≡ rest = test.1 in
        (f, l, m, cc)
    by body known is_body is_known h = absurd (none-some _ h)

-- a post or a last-in post of a new event that finds no entry
cut-asserted : (sys : System) (o : ℕ) (now : Option Entry) (p n b from sig free r : ℕ) (pars : List ℕ) (told rest : List Told)
    → nat_lt 0 free ≡ true → goes_to (sizes_of sys) (length pars) p ≡ true → is_static sys sig ≡ false → behind_cut o told ≡ Some rest
    → (g : List Told) × IsAsserted sys o now (told_new p n b from sig pars free ∷ plain (item.Inc p b r) ∷ g) × (told ≡ g ++ rest)
unfolding FitsAny Fits PostsNew PostsNewFront Posts PostsFront MakesBlock
cut-asserted sys o now p n b from sig free r pars [] rest above goes pooled k = absurd (cc)
cut-asserted sys o now p n b from sig free r pars (t ∷ ts) rest above goes pooled k = by t.body t.known refl refl k
  where
    head : List Told
    head = told_new p n b from sig pars free ∷ plain (item.Inc p b r) ∷ []

    makes : MakesNew (is_static sys sig) (sizes_of sys) sig pars None head (entry p b r)
    makes = new-block (is_static sys sig) (sizes_of sys) sig pars None head (entry p b r) pooled (p, n, b, from, free, r, refl, refl, goes-first (sizes_of sys) (length pars) p goes, above)

    by : (body : Body) (known : Known) → t.body ≡ body → t.known ≡ known → cut_first o body known ts ≡ Some rest
        → (g : List Told) × IsAsserted sys o now (told_new p n b from sig pars free ∷ plain (item.Inc p b r) ∷ g) × (t ∷ ts ≡ g ++ rest)
    by (item.NoEntry a f l m) Nothing is_body is_known h =
        let whole : t ≡ plain (item.NoEntry a f l m) = told-is t _ _ is_body is_known in
        let behind : ts ≡ rest = cc in
        (plain (item.NoEntry a f l m) ∷ [], Asserts (call.Post a sig pars None None) AtQueue refl (inr (head, entry p b r, makes, (f, l, m, refl))) refl, cc)
    by (item.NoLifo a f l m) Nothing is_body is_known h =
        let test = when-passed _ ts rest h in
        let own : a ≡ o = eqb-true a o test.0 in
        let whole : t ≡ plain (item.NoLifo a f l m) = told-is t _ _ is_body is_known in
        let behind : ts ≡ rest = test.1 in
        (plain (item.NoLifo o f l m) ∷ [], Asserts (call.Lifo sig pars None) AtFront refl (inr (head, entry p b r, makes, (f, l, m, refl))) refl, cc)
    by body known is_body is_known h = absurd (none-some _ h)

new-asserted : (sys : System) (o : ℕ) (now : Option Entry) (p n b from sig free : ℕ) (pars : List ℕ) (told rest : List Told)
    → nat_lt 0 free ≡ true → goes_to (sizes_of sys) (length pars) p ≡ true → is_static sys sig ≡ false → behind_new_cut o p b told ≡ Some rest
    → (g : List Told) × IsAsserted sys o now (told_new p n b from sig pars free ∷ g) × (told ≡ g ++ rest)
new-asserted sys o now p n b from sig free pars [] rest above goes pooled k = absurd (cc)
new-asserted sys o now p n b from sig free pars (t ∷ ts) rest above goes pooled k = by t.body t.known refl refl k
  where
    by : (body : Body) (known : Known) → t.body ≡ body → t.known ≡ known → new_cut_first o p b body known ts ≡ Some rest
        → (g : List Told) × IsAsserted sys o now (told_new p n b from sig pars free ∷ g) × (t ∷ ts ≡ g ++ rest)
    by (item.Inc q c r) Nothing is_body is_known k =
        let test = passed _ _ rest k in
        let tests = and_parts (q == p) (c == b) test.0 in
        let e1 : q ≡ p = eqb-true q p tests.0 in
        let e2 : c ≡ b = eqb-true c b tests.1 in
        let whole : t ≡ plain (item.Inc q c r) = told-is t _ _ is_body is_known in
        let asserted = cut-asserted sys o now p n b from sig free r pars ts rest above goes pooled test.1 in
        let behind : ts ≡ asserted.0 ++ rest = asserted.2 in
        (plain (item.Inc p b r) ∷ asserted.0, asserted.1, cc)
    by body known is_body is_known k = absurd (none-some _ k)

-- a recalled entry that finds no place
recall-asserted : (sys : System) (o : ℕ) (now : Option Entry) (k : Entry) (told rest : List Told) → behind_recall_cut o k told ≡ Some rest
    → (g : List Told) × IsAsserted sys o now (plain (item.Recall k) ∷ g) × (told ≡ g ++ rest)
unfolding behind_recall_cut FitsAny Fits Recalls PostsFront
recall-asserted sys o now k told rest h = by (k.pool == 0) refl h
  where
    asserted : (head : List Told) (e : Entry) (f l m : ℕ) → MakesAgain k head e → IsAsserted sys o now (plain (item.Recall k) ∷ (head ++ (plain (item.NoLifo o f l m) ∷ [])))
    asserted head e f l m again = Asserts call.Recall AtFront refl (k, e, head, head ++ (plain (item.NoLifo o f l m) ∷ []), again, (f, l, m, refl), refl) refl

    pooled : (p : ℕ) → (p == 0) ≡ false → nat_lt 0 p ≡ true
    pooled p h = grind (arith, nat_tests)

    reference : (k.pool == 0) ≡ false → (told : List Told) → behind_recall_reference o k told ≡ Some rest → (g : List Told) × IsAsserted sys o now (plain (item.Recall k) ∷ g) × (told ≡ g ++ rest)
    reference some [] h = absurd (cc)
    reference some (t ∷ ts) h = from t.body t.known refl refl h
      where
        from : (body : Body) (known : Known) → t.body ≡ body → t.known ≡ known → recall_cut_first o k body known ts ≡ Some rest
            → (g : List Told) × IsAsserted sys o now (plain (item.Recall k) ∷ g) × (t ∷ ts ≡ g ++ rest)
        from (item.Inc p b r) Nothing is_body is_known h =
            let test = passed _ _ rest h in
            let tests = and_parts (p == k.pool) (b == k.block) test.0 in
            let e1 : p ≡ k.pool = eqb-true p k.pool tests.0 in
            let e2 : b ≡ k.block = eqb-true b k.block tests.1 in
            let whole : t ≡ plain (item.Inc p b r) = told-is t _ _ is_body is_known in
            let lifo = no_lifo-sound o ts rest test.1 in
            let again : MakesAgain k (plain (item.Inc p b r) ∷ []) (entry p b r) =
            subst (λ x. MakesAgain k (plain (item.Inc x b r) ∷ []) (entry x b r)) (sym e1)
            (subst (λ x. MakesAgain k (plain (item.Inc k.pool x r) ∷ []) (entry k.pool x r)) (sym e2) (again-pooled k r (pooled k.pool some))) in
            let behind : ts ≡ plain (item.NoLifo o lifo.0 lifo.1 lifo.2) ∷ rest = lifo.3 in
            (plain (item.Inc p b r) ∷ plain (item.NoLifo o lifo.0 lifo.1 lifo.2) ∷ [], asserted (plain (item.Inc p b r) ∷ []) (entry p b r) lifo.0 lifo.1 lifo.2 again, cc)
        from body known is_body is_known h = absurd (none-some _ h)

    by : (static : Bool) → (k.pool == 0) ≡ static → cond static (behind_no_lifo o told) (behind_recall_reference o k told) ≡ Some rest
        → (g : List Told) × IsAsserted sys o now (plain (item.Recall k) ∷ g) × (told ≡ g ++ rest)
    by true is h = let lifo = no_lifo-sound o told rest h in (plain (item.NoLifo o lifo.0 lifo.1 lifo.2) ∷ [], asserted [] k lifo.0 lifo.1 lifo.2 (again-static k (eqb-true k.pool 0 is)), lifo.3)
    by false is h = reference is told h

one-record : (sys : System) (o : ℕ) (now : Option Entry) (t : Told) (ts rest : List Told) (x : Told) → t ≡ x → IsAsserted sys o now (x ∷ []) → ts ≡ rest
    → (g : List Told) × IsAsserted sys o now g × (t ∷ ts ≡ g ++ rest)
one-record sys o now t ts rest x is asserted behind = (x ∷ [], asserted, cc)

more-records : (sys : System) (o : ℕ) (now : Option Entry) (t : Told) (ts rest : List Told) (x : Told) → t ≡ x → (g : List Told) × IsAsserted sys o now (x ∷ g) × (ts ≡ g ++ rest)
    → (g : List Told) × IsAsserted sys o now g × (t ∷ ts ≡ g ++ rest)
more-records sys o now t ts rest x is asserted = let behind : ts ≡ asserted.0 ++ rest = asserted.2 in (x ∷ asserted.0, asserted.1, cc)

plain-sound : (sys : System) (o : ℕ) (now : Option Entry) (t : Told) (ts rest : List Told) (body : Body) → t ≡ plain body → plain_cut sys o now body ts ≡ Some rest
    → (g : List Told) × IsAsserted sys o now g × (t ∷ ts ≡ g ++ rest)
unfolding plain_cut
plain-sound sys o now t ts rest (item.NoEntry a f l m) is h = let test = when-passed _ ts rest h in one-record sys o now t ts rest _ is (no_entry-asserted sys o now a f l m (or_cases (some_static sys) _ test.0)) test.1
plain-sound sys o now t ts rest (item.NoLifo a f l m) is h =
    let test = when-passed _ ts rest h in
    let tests = and_parts (some_static sys) (a == o) test.0 in
    let own : a ≡ o = eqb-true a o tests.1 in
    one-record sys o now t ts rest (plain (item.NoLifo o f l m)) (cc) (no_lifo-asserted sys o now f l m tests.0) test.1
plain-sound sys o now t ts rest (item.NoBlock p n free) is h = let test = when-passed _ ts rest h in one-record sys o now t ts rest _ is (no_block-asserted sys o now p n free test.0) test.1
plain-sound sys o now t ts rest (item.Armed u n counter) is h = one-record sys o now t ts rest _ is (armed-asserted sys o now u n counter) (cc)
plain-sound sys o now t ts rest (item.BadTicks u ticks interval) is h = one-record sys o now t ts rest _ is (bad_ticks-asserted sys o now u ticks interval) (cc)
plain-sound sys o now t ts rest (item.Inc p b r) is h =
    let test = passed _ _ rest h in
    let post = no_entry-sound ts rest test.1 in
    more-records sys o now t ts rest _ is (plain (item.NoEntry post.0 post.1 post.2 post.3) ∷ [], again-asserted sys o now p b r post.0 post.1 post.2 post.3 test.0, post.4)
plain-sound sys o now t ts rest (item.Recall k) is h = more-records sys o now t ts rest _ is (recall-asserted sys o now k ts rest h)
plain-sound sys o now t ts rest body is h = absurd (none-some _ h)

given-sound : (sys : System) (o : ℕ) (now : Option Entry) (t : Told) (ts rest : List Told) (free : ℕ) (body : Body) → t ≡ record { body = body; known = Free free } → given_cut sys o free body ts ≡ Some rest
    → (g : List Told) × IsAsserted sys o now g × (t ∷ ts ≡ g ++ rest)
unfolding given_cut
given-sound sys o now t ts rest free (item.New p n b from sig pars) is h =
    let test = passed (nat_lt 0 free && goes_to (sizes_of sys) (length pars) p && not (is_static sys sig)) (behind_new_cut o p b ts) rest h in
    let tests = and_parts (nat_lt 0 free && goes_to (sizes_of sys) (length pars) p) (not (is_static sys sig)) test.0 in
    let more = and_parts (nat_lt 0 free) (goes_to (sizes_of sys) (length pars) p) tests.0 in
    more-records sys o now t ts rest _ is (new-asserted sys o now p n b from sig free pars ts rest more.0 more.1 (not-true (is_static sys sig) tests.1) test.1)
given-sound sys o now t ts rest free body is h = absurd (none-some _ h)

assertion-sound : (sys : System) (o : ℕ) (now : Option Entry) (told rest : List Told) → behind_assertion sys o now told ≡ Some rest → (g : List Told) × IsAsserted sys o now g × (told ≡ g ++ rest)
assertion-sound sys o now [] rest h = absurd (cc)
assertion-sound sys o now (t ∷ ts) rest h = by t.known refl h
  where
    by : (known : Known) → t.known ≡ known → assertion_first sys o now t.body known ts ≡ Some rest → (g : List Told) × IsAsserted sys o now g × (t ∷ ts ≡ g ++ rest)
    by Nothing is h = plain-sound sys o now t ts rest t.body (told-is t _ _ refl is) h
    by (Free free) is h = given-sound sys o now t ts rest free t.body (told-is t _ _ refl is) h
    by known is h = absurd (none-some _ h)

-- a call that ends in its assertion is read off
pub assertion-leaves : (sys : System) (o : ℕ) (now : Option Entry) (told : List Told) → IsUnambiguous (IsAsserted sys o now) told (behind_assertion sys o now told)
assertion-leaves sys o now told = leaves (IsAsserted sys o now) (behind_assertion sys o now) (assertion-sound sys o now) (assertion-whole sys o now) told
