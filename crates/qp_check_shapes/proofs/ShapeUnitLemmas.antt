-- Units are read off the front of a list, each way.
use Rattle.std.proofs.Common.{◌≡◌, ℕ, ◌==◌, nat_lt, Bool, true, false, not, cond, ◌&&◌, List, [], ◌∷◌, ◌++◌, length, Some, refl, sym, ap, subst, arith, append-nil}
use Rattle.std.proofs.lemmas.Bool.{and_parts, or_cases, eqb-true, not-true}
use Rattle.std.proofs.lemmas.Bool.Decides.{nat_tests}
use Rattle.std.specs.declared.option.Option.{Option}
use Rattle.std.proofs.lemmas.Option.{none-some}
use Rattle.qp_model.specs.declared.systems.System.{System}
use Rattle.qp_model.specs.declared.bodies.Entry.{Entry}
use Rattle.qp_model.specs.declared.bodies.Body.{Body}
use Rattle.qp_model.specs.declared.bodies.Body.TheVariants as item
use Rattle.qp_model.specs.Record.{entry}
use Rattle.qp_model.specs.Told.{Told, Known, Nothing, Free, Member, plain}
use Rattle.qp_model.specs.Calls as call
use Rattle.qp_model.specs.Calls.{Granted, Refused}
use Rattle.qp_model.specs.Parts.{is_static, sizes_of}
use Rattle.qp_model.specs.Shapes.{Fits, FitsAny, Drops, MakesAgain, PostsFront, Defers, Recalls, Flushes, Subscribes, Unsubscribes}
use Rattle.qp_check_shapes.specs.ShapeUnit.{IsUnit, SaysValue, MakesCall, FlushesOne, had_room, goes_to, is_static_entry, some_static, behind_new, behind_lifo, recalled_first, behind_reference, behind_recall, plain_first, given_first, member_first, unit_first, behind_unit}
use Rattle.qp_check_shapes.proofs.ShapeReleaseLemmas.{when-passed, release-sound}
use Rattle.qp_check_shapes.proofs.ShapePostLemmas.{again-static, again-pooled, IsPosted}
use Rattle.qp_check_shapes.specs.ShapeRelease.{IsUnambiguous}
use Rattle.qp_check_shapes.proofs.ShapeReleaseLemmas.{leaves}
use Rattle.qp_check_shapes.proofs.ShapeSoundLemmas.{passed, static-unit, full-unit, lifo-unit, defer-unit, short-unit, arm-unit, rearm-unit, disarm-unit, idle-unit, again-unit, block-unit, lifo-sound}
use Rattle.qp_check_shapes.proofs.ShapeWholeLemmas.{unit-whole}
use Rattle.qp_model.proofs.RecordLemmas.{told-is}

-- a recalled entry
recall-sound : (sys : System) (o : ℕ) (now : Option Entry) (k : Entry) (told rest : List Told) → behind_recall k told ≡ Some rest
    → (g : List Told) × IsUnit sys o now (plain (item.Recall k) ∷ g) × (told ≡ g ++ rest)
unfolding behind_recall FitsAny Fits Recalls PostsFront
recall-sound sys o now k told rest h = by (k.pool == 0) refl h
  where
    unit : (head : List Told) (e : Entry) (f l m : ℕ) (rel : List Told) → MakesAgain k head e → Drops k rel
        → IsUnit sys o now (plain (item.Recall k) ∷ ((head ++ (plain (item.Lifo f l m e) ∷ [])) ++ rel))
    unit head e f l m rel again drops = MakesCall call.Recall Granted refl (k, e, head, head ++ (plain (item.Lifo f l m e) ∷ []), rel, again, (f, l, m, refl), drops, refl) refl

    pooled : (p : ℕ) → (p == 0) ≡ false → nat_lt 0 p ≡ true
    pooled p h = grind (arith, nat_tests)

    reference : (k.pool == 0) ≡ false → (told : List Told) → behind_reference k told ≡ Some rest → (g : List Told) × IsUnit sys o now (plain (item.Recall k) ∷ g) × (told ≡ g ++ rest)
    reference some [] h = absurd (cc)
    reference some (t ∷ ts) h = from t.body t.known refl refl h
      where
        from : (body : Body) (known : Known) → t.body ≡ body → t.known ≡ known → recalled_first k body known ts ≡ Some rest
            → (g : List Told) × IsUnit sys o now (plain (item.Recall k) ∷ g) × (t ∷ ts ≡ g ++ rest)
        from (item.Inc p b r) Nothing is_body is_known h =
            let test = passed _ _ rest h in
            let tests = and_parts (p == k.pool) (b == k.block) test.0 in
            let e1 : p ≡ k.pool = eqb-true p k.pool tests.0 in
            let e2 : b ≡ k.block = eqb-true b k.block tests.1 in
            let whole : t ≡ plain (item.Inc p b r) = told-is t _ _ is_body is_known in
            let lifo = lifo-sound k (entry p b r) ts rest test.1 in
            let again : MakesAgain k (plain (item.Inc p b r) ∷ []) (entry p b r) =
            subst (λ x. MakesAgain k (plain (item.Inc x b r) ∷ []) (entry x b r)) (sym e1)
            (subst (λ x. MakesAgain k (plain (item.Inc k.pool x r) ∷ []) (entry k.pool x r)) (sym e2) (again-pooled k r (pooled k.pool some))) in
            let behind : ts ≡ plain (item.Lifo lifo.0 lifo.1 lifo.2 (entry p b r)) ∷ (lifo.3 ++ rest) = lifo.5 in
            (plain (item.Inc p b r) ∷ plain (item.Lifo lifo.0 lifo.1 lifo.2 (entry p b r)) ∷ lifo.3, unit (plain (item.Inc p b r) ∷ []) (entry p b r) lifo.0 lifo.1 lifo.2 lifo.3 again lifo.4, cc)
        from body known is_body is_known h = absurd (none-some _ h)

    by : (static : Bool) → (k.pool == 0) ≡ static → cond static (behind_lifo k k told) (behind_reference k told) ≡ Some rest
        → (g : List Told) × IsUnit sys o now (plain (item.Recall k) ∷ g) × (told ≡ g ++ rest)
    by true is h =
        let lifo = lifo-sound k k told rest h in
        (plain (item.Lifo lifo.0 lifo.1 lifo.2 k) ∷ lifo.3, unit [] k lifo.0 lifo.1 lifo.2 lifo.3 (again-static k (eqb-true k.pool 0 is)) lifo.4, lifo.5)
    by false is h = reference is told h

-- one flushed entry
flush-unit : (sys : System) (o : ℕ) (now : Option Entry) (k : Entry) (rel : List Told) → Drops k rel → IsUnit sys o now (plain (item.Flush k) ∷ rel)
unfolding Flushes
flush-unit sys o now k rel drops = FlushesOne (k, rel, [], drops, refl, ap (λ us. plain (item.Flush k) ∷ us) (sym (append-nil rel)))

-- a unit of one record, in front
one-record : (sys : System) (o : ℕ) (now : Option Entry) (t : Told) (ts rest : List Told) (x : Told) → t ≡ x → IsUnit sys o now (x ∷ []) → ts ≡ rest
    → (g : List Told) × IsUnit sys o now g × (t ∷ ts ≡ g ++ rest)
one-record sys o now t ts rest x is unit behind = (x ∷ [], unit, cc)

-- a unit of more records, in front
more-records : (sys : System) (o : ℕ) (now : Option Entry) (t : Told) (ts rest : List Told) (x : Told) → t ≡ x → (g : List Told) × IsUnit sys o now (x ∷ g) × (ts ≡ g ++ rest)
    → (g : List Told) × IsUnit sys o now g × (t ∷ ts ≡ g ++ rest)
more-records sys o now t ts rest x is unit = let behind : ts ≡ unit.0 ++ rest = unit.2 in (x ∷ unit.0, unit.1, cc)

-- the units whose first record states all
plain-sound : (sys : System) (o : ℕ) (now : Option Entry) (t : Told) (ts rest : List Told) (body : Body) → t ≡ plain body → plain_first sys o now body ts ≡ Some rest
    → (g : List Told) × IsUnit sys o now g × (t ∷ ts ≡ g ++ rest)
unfolding plain_first FitsAny Fits Subscribes Unsubscribes Defers Recalls
plain-sound sys o now t ts rest (item.Say value) is h = one-record sys o now t ts rest _ is (SaysValue value refl) (cc)
plain-sound sys o now t ts rest (item.Sub sig n) is h = one-record sys o now t ts rest _ is (MakesCall (call.Subscribe sig) Granted refl (n, refl) refl) (cc)
plain-sound sys o now t ts rest (item.Unsub sig n) is h = one-record sys o now t ts rest _ is (MakesCall (call.Unsubscribe sig) Granted refl (n, refl) refl) (cc)
plain-sound sys o now t ts rest item.NoDefer is h = one-record sys o now t ts rest _ is (MakesCall call.Defer Refused refl refl refl) (cc)
plain-sound sys o now t ts rest item.NoRecall is h = one-record sys o now t ts rest _ is (MakesCall call.Recall Refused refl refl refl) (cc)
plain-sound sys o now t ts rest (item.Short p n free r) is h = let test = when-passed _ ts rest h in one-record sys o now t ts rest _ is (short-unit sys o now p n free r test.0) test.1
plain-sound sys o now t ts rest (item.Arm u n ticks interval) is h = one-record sys o now t ts rest _ is (arm-unit sys o now u n ticks interval) (cc)
plain-sound sys o now t ts rest (item.Rearm u n former ticks) is h = one-record sys o now t ts rest _ is (rearm-unit sys o now u n former ticks) (cc)
plain-sound sys o now t ts rest (item.Disarm u n former) is h = one-record sys o now t ts rest _ is (disarm-unit sys o now u n former) (cc)
plain-sound sys o now t ts rest (item.Idle u n) is h = one-record sys o now t ts rest _ is (idle-unit sys o now u n) (cc)
plain-sound sys o now t ts rest (item.Post to f l m e) is h =
    let test = when-passed _ ts rest h in
    let tests = and_parts (had_room sys to f l m) _ test.0 in
    one-record sys o now t ts rest _ is (static-unit sys o now e _ (IsPosted to f l m tests.0 refl) (or_cases (is_static_entry sys e) _ tests.1)) test.1
plain-sound sys o now t ts rest (item.Full to f l m margin) is h =
    let test = when-passed _ ts rest h in one-record sys o now t ts rest _ is (full-unit sys o now to f l m margin (or_cases (some_static sys) _ test.0)) test.1
plain-sound sys o now t ts rest (item.Lifo f l m e) is h = let test = when-passed _ ts rest h in one-record sys o now t ts rest _ is (lifo-unit sys o now f l m e test.0) test.1
plain-sound sys o now t ts rest (item.Defer e) is h = let test = when-passed _ ts rest h in one-record sys o now t ts rest _ is (defer-unit sys o now e test.0) test.1
plain-sound sys o now t ts rest (item.Inc p b r) is h = let test = passed _ _ rest h in more-records sys o now t ts rest _ is (again-unit sys o now p b r ts rest test.0 test.1)
plain-sound sys o now t ts rest (item.Recall k) is h = more-records sys o now t ts rest _ is (recall-sound sys o now k ts rest h)
plain-sound sys o now t ts rest (item.Flush k) is h = let rel = release-sound k ts rest h in more-records sys o now t ts rest _ is (rel.0, flush-unit sys o now k rel.0 rel.1, rel.2)
plain-sound sys o now t ts rest body is h = absurd (none-some _ h)

-- a block given out
given-sound : (sys : System) (o : ℕ) (now : Option Entry) (t : Told) (ts rest : List Told) (free : ℕ) (body : Body) → t ≡ record { body = body; known = Free free } → given_first sys free body ts ≡ Some rest
    → (g : List Told) × IsUnit sys o now g × (t ∷ ts ≡ g ++ rest)
unfolding given_first
given-sound sys o now t ts rest free (item.New p n b from sig pars) is h =
    let test = passed (nat_lt 0 free && goes_to (sizes_of sys) (length pars) p && not (is_static sys sig)) (behind_new sys p b ts) rest h in
    let tests = and_parts (nat_lt 0 free && goes_to (sizes_of sys) (length pars) p) (not (is_static sys sig)) test.0 in
    let more = and_parts (nat_lt 0 free) (goes_to (sizes_of sys) (length pars) p) tests.0 in
    more-records sys o now t ts rest _ is (block-unit sys o now p n b from sig free pars ts rest more.0 more.1 (not-true (is_static sys sig) tests.1) test.1)
given-sound sys o now t ts rest free body is h = absurd (none-some _ h)

member-sound : (sys : System) (o : ℕ) (now : Option Entry) (t : Told) (ts rest : List Told) (member : Bool) (body : Body) → t ≡ record { body = body; known = Member member } → member_first body ts ≡ Some rest
    → (g : List Told) × IsUnit sys o now g × (t ∷ ts ≡ g ++ rest)
unfolding FitsAny Fits Subscribes Unsubscribes
member-sound sys o now t ts rest true (item.Same sig n) is h = one-record sys o now t ts rest _ is (MakesCall (call.Subscribe sig) Refused refl (n, refl) refl) (cc)
member-sound sys o now t ts rest false (item.Same sig n) is h = one-record sys o now t ts rest _ is (MakesCall (call.Unsubscribe sig) Refused refl (n, refl) refl) (cc)
member-sound sys o now t ts rest member body is h = absurd (none-some _ h)

unit-sound : (sys : System) (o : ℕ) (now : Option Entry) (told rest : List Told) → behind_unit sys o now told ≡ Some rest → (g : List Told) × IsUnit sys o now g × (told ≡ g ++ rest)
unit-sound sys o now [] rest h = absurd (cc)
unit-sound sys o now (t ∷ ts) rest h = by t.known refl h
  where
    by : (known : Known) → t.known ≡ known → unit_first sys o now t.body known ts ≡ Some rest → (g : List Told) × IsUnit sys o now g × (t ∷ ts ≡ g ++ rest)
    by Nothing is h = plain-sound sys o now t ts rest t.body (told-is t _ _ refl is) h
    by (Free free) is h = given-sound sys o now t ts rest free t.body (told-is t _ _ refl is) h
    by (Member member) is h = member-sound sys o now t ts rest member t.body (told-is t _ _ refl is) h
    by known is h = absurd (none-some _ h)

-- a unit is read off
pub unit-leaves : (sys : System) (o : ℕ) (now : Option Entry) (told : List Told) → IsUnambiguous (IsUnit sys o now) told (behind_unit sys o now told)
unit-leaves sys o now told = leaves (IsUnit sys o now) (behind_unit sys o now) (unit-sound sys o now) (unit-whole sys o now) told
