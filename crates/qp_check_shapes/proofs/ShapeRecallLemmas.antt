-- Fronts of recalled entries, each way.
use Rattle.std.proofs.Common.{◌≡◌, ℕ, ◌==◌, Bool, true, false, cond, ◌&&◌, List, [], ◌∷◌, ◌++◌, Some, None, refl, inl, inr, ◌⊎◌}
use Rattle.std.specs.declared.option.Option.{Option}
use Rattle.std.proofs.lemmas.Bool.{and_parts, and_from, false≢true}
use Rattle.std.proofs.lemmas.Option.{none-some}
use Rattle.qp_model.specs.declared.systems.System.{System}
use Rattle.qp_model.specs.declared.bodies.Entry.{Entry}
use Rattle.qp_model.specs.declared.bodies.Body.{Body}
use Rattle.qp_model.specs.declared.bodies.Body.TheVariants as item
use Rattle.qp_model.specs.Record.{entry}
use Rattle.qp_model.specs.Line.{same_entry}
use Rattle.qp_model.specs.Told.{Told, Known, Nothing, plain}
use Rattle.qp_model.proofs.LineLemmas.{same_number}
use Rattle.qp_check_shapes.specs.ShapeRelease.{behind_release}
use Rattle.qp_check_shapes.specs.ShapeUnit.{lifo_first, behind_lifo, recalled_first, behind_reference, behind_recall}
use Rattle.qp_check_shapes.specs.ShapeAssertion.{no_lifo_first, behind_no_lifo, recall_cut_first, behind_recall_reference, behind_recall_cut}
use Rattle.qp_check_shapes.specs.ShapeFront.{release_front, lifo_front_first, lifo_front, reference_front_first, reference_front, recall_front}
use Rattle.qp_check_shapes.proofs.ShapeSoundLemmas.{passed}
use Rattle.qp_check_shapes.proofs.ShapeFrontLemmas.{Front, leaf-whole, done-all, lift, release-front-sound, release-front-whole}

through : (test : Bool) (r : Option (List Told)) → test ≡ true → r ≡ Some [] → cond test r None ≡ Some []
through true r h k = k
through false r h k = absurd (cc)

-- the last-in post of a recalled entry
lifo-first-sound : (sys : System) (o : ℕ) (k e : Entry) (body : Body) (known : Known) (ts : List Told) → lifo_front_first sys o k e body known ts ≡ true → Front (lifo_first k e body known) (no_lifo_first o body known) ts
unfolding lifo_front_first
lifo-first-sound sys o k e (item.Lifo f l m x) Nothing ts h =
    let tests = and_parts (same_entry x e) (release_front sys o k ts) h in
    let rel = release-front-sound sys o k ts tests.1 in
    (rel.0, inl (through (same_entry x e) (behind_release k (ts ++ rel.0)) tests.0 rel.1))
lifo-first-sound sys o k e body known ts h = ([], inr (done-all (no_lifo_first o body known) ts h))

lifo-sound : (sys : System) (o : ℕ) (k e : Entry) (told : List Told) → lifo_front sys o k e told ≡ true → Front (behind_lifo k e) (behind_no_lifo o) told
unfolding lifo_front
lifo-sound sys o k e [] h = (plain (item.NoLifo o 0 0 0) ∷ [], inr (rw (same_number o) refl))
lifo-sound sys o k e (t ∷ ts) h = lifo-first-sound sys o k e t.body t.known ts h

lifo-post : (sys : System) (o : ℕ) (k e : Entry) (body : Body) (known : Known) (ts back : List Told) → lifo_first k e body known (ts ++ back) ≡ Some [] → lifo_front_first sys o k e body known ts ≡ true
unfolding lifo_front_first
lifo-post sys o k e (item.Lifo f l m x) Nothing ts back h =
    let tests = passed (same_entry x e) (behind_release k (ts ++ back)) [] h in
    and_from (same_entry x e) (release_front sys o k ts) tests.0 (release-front-whole sys o k ts back tests.1)
lifo-post sys o k e body known ts back h = absurd (none-some _ h)

lifo-cut : (sys : System) (o : ℕ) (k e : Entry) (body : Body) (known : Known) (ts back : List Told) → no_lifo_first o body known (ts ++ back) ≡ Some [] → lifo_front_first sys o k e body known ts ≡ true
unfolding lifo_front_first
lifo-cut sys o k e (item.NoLifo a f l m) Nothing ts back h = leaf-whole (no_lifo_first o (item.NoLifo a f l m) Nothing) ts back (a == o, λ rest. refl) h
lifo-cut sys o k e body known ts back h = absurd (none-some _ h)

lifo-whole : (sys : System) (o : ℕ) (k e : Entry) (told back : List Told) → (behind_lifo k e (told ++ back) ≡ Some []) ⊎ (behind_no_lifo o (told ++ back) ≡ Some []) → lifo_front sys o k e told ≡ true
unfolding lifo_front
lifo-whole sys o k e [] back h = refl
lifo-whole sys o k e (t ∷ ts) back (inl h) = lifo-post sys o k e t.body t.known ts back h
lifo-whole sys o k e (t ∷ ts) back (inr h) = lifo-cut sys o k e t.body t.known ts back h

-- behind its new reference
reference-first-sound : (sys : System) (o : ℕ) (k : Entry) (body : Body) (known : Known) (ts : List Told) → reference_front_first sys o k body known ts ≡ true
    → Front (recalled_first k body known) (recall_cut_first o k body known) ts
unfolding reference_front_first
reference-first-sound sys o k (item.Inc p b r) Nothing ts h =
    let tests = and_parts ((p == k.pool) && (b == k.block)) (lifo_front sys o k (entry p b r) ts) h in
    lift ((p == k.pool) && (b == k.block)) (behind_lifo k (entry p b r)) (behind_no_lifo o) ts tests.0 (lifo-sound sys o k (entry p b r) ts tests.1)
reference-first-sound sys o k body known ts h = absurd (false≢true h)

reference-sound : (sys : System) (o : ℕ) (k : Entry) (told : List Told) → reference_front sys o k told ≡ true → Front (behind_reference k) (behind_recall_reference o k) told
unfolding reference_front
reference-sound sys o k [] h = (plain (item.Inc k.pool k.block 0) ∷ plain (item.NoLifo o 0 0 0) ∷ [], inr (rw (same_number k.pool, same_number k.block, same_number o) refl))
reference-sound sys o k (t ∷ ts) h = reference-first-sound sys o k t.body t.known ts h

reference-post : (sys : System) (o : ℕ) (k : Entry) (body : Body) (known : Known) (ts back : List Told) → recalled_first k body known (ts ++ back) ≡ Some [] → reference_front_first sys o k body known ts ≡ true
unfolding reference_front_first
reference-post sys o k (item.Inc p b r) Nothing ts back h =
    let tests = passed ((p == k.pool) && (b == k.block)) (behind_lifo k (entry p b r) (ts ++ back)) [] h in
    and_from ((p == k.pool) && (b == k.block)) (lifo_front sys o k (entry p b r) ts) tests.0 (lifo-whole sys o k (entry p b r) ts back (inl tests.1))
reference-post sys o k body known ts back h = absurd (none-some _ h)

reference-cut : (sys : System) (o : ℕ) (k : Entry) (body : Body) (known : Known) (ts back : List Told) → recall_cut_first o k body known (ts ++ back) ≡ Some [] → reference_front_first sys o k body known ts ≡ true
unfolding reference_front_first
reference-cut sys o k (item.Inc p b r) Nothing ts back h =
    let tests = passed ((p == k.pool) && (b == k.block)) (behind_no_lifo o (ts ++ back)) [] h in
    and_from ((p == k.pool) && (b == k.block)) (lifo_front sys o k (entry p b r) ts) tests.0 (lifo-whole sys o k (entry p b r) ts back (inr tests.1))
reference-cut sys o k body known ts back h = absurd (none-some _ h)

reference-whole : (sys : System) (o : ℕ) (k : Entry) (told back : List Told) → (behind_reference k (told ++ back) ≡ Some []) ⊎ (behind_recall_reference o k (told ++ back) ≡ Some []) → reference_front sys o k told ≡ true
unfolding reference_front
reference-whole sys o k [] back h = refl
reference-whole sys o k (t ∷ ts) back (inl h) = reference-post sys o k t.body t.known ts back h
reference-whole sys o k (t ∷ ts) back (inr h) = reference-cut sys o k t.body t.known ts back h

-- a recalled entry of either kind
pub recall-sound : (sys : System) (o : ℕ) (k : Entry) (told : List Told) → recall_front sys o k told ≡ true → Front (behind_recall k) (behind_recall_cut o k) told
unfolding recall_front behind_recall behind_recall_cut
recall-sound sys o k told h = by (k.pool == 0) h
  where
    by : (fixed : Bool) → cond fixed (lifo_front sys o k k told) (reference_front sys o k told) ≡ true
        → Front (λ us. cond fixed (behind_lifo k k us) (behind_reference k us)) (λ us. cond fixed (behind_no_lifo o us) (behind_recall_reference o k us)) told
    by true h = lifo-sound sys o k k told h
    by false h = reference-sound sys o k told h

pub recall-whole : (sys : System) (o : ℕ) (k : Entry) (told back : List Told) → (behind_recall k (told ++ back) ≡ Some []) ⊎ (behind_recall_cut o k (told ++ back) ≡ Some []) → recall_front sys o k told ≡ true
unfolding recall_front behind_recall behind_recall_cut
recall-whole sys o k told back h = by (k.pool == 0) h
  where
    by : (fixed : Bool) → (cond fixed (behind_lifo k k (told ++ back)) (behind_reference k (told ++ back)) ≡ Some []) ⊎ (cond fixed (behind_no_lifo o (told ++ back)) (behind_recall_reference o k (told ++ back)) ≡ Some [])
        → cond fixed (lifo_front sys o k k told) (reference_front sys o k told) ≡ true
    by true h = lifo-whole sys o k k told back h
    by false h = reference-whole sys o k told back h
