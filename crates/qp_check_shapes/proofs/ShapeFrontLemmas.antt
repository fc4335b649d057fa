-- Fronts of posts, deferrals and recalls, each way.
use Rattle.std.proofs.Common.{◌≡◌, ℕ, ◌==◌, Bool, true, false, cond, ◌&&◌, ◌||◌, List, [], ◌∷◌, ◌++◌, Some, None, refl, sym, ◌∙◌, ap, subst, inl, inr, ◌⊎◌, append-nil}
use Rattle.std.specs.declared.option.Option.{Option}
use Rattle.std.specs.Option.{is_some}
use Rattle.std.proofs.lemmas.Bool.{and_parts, or_left, and_from, or_cases, or_right, false≢true}
use Rattle.std.proofs.lemmas.Option.{none-some}
use Rattle.qp_model.specs.declared.systems.System.{System}
use Rattle.qp_model.specs.declared.bodies.Entry.{Entry}
use Rattle.qp_model.specs.declared.bodies.Body.{Body}
use Rattle.qp_model.specs.declared.bodies.Body.TheVariants as item
use Rattle.qp_model.specs.Record.{entry}
use Rattle.qp_model.specs.Line.{same_entry}
use Rattle.qp_model.specs.Told.{Told, Known, Nothing, plain}
use Rattle.qp_model.specs.Shapes.{Drops}
use Rattle.qp_model.proofs.LineLemmas.{same_number}
use Rattle.qp_check_shapes.specs.ShapeRelease.{when, behind_release}
use Rattle.qp_check_shapes.specs.ShapeUnit.{had_room, again_first, behind_again, new_first, behind_entry, reference_first, behind_new}
use Rattle.qp_check_shapes.specs.ShapeAssertion.{no_entry_first, behind_no_entry, cut_first, behind_cut, new_cut_first, behind_new_cut}
use Rattle.qp_check_shapes.specs.declared.shape_stage.PublishStage.{PublishStage}
use Rattle.qp_check_shapes.specs.declared.shape_stage.PublishStage.TheVariants as stage
use Rattle.qp_check_shapes.specs.ShapePublication.{publication_released, stage_after, is_nothing_behind}
use Rattle.qp_check_shapes.specs.ShapeFront.{release_front, entry_front_first, entry_front, again_front_first, again_front, new_front_first, new_front}
use Rattle.qp_check_shapes.proofs.ShapeReleaseLemmas.{when-passed, release-sound, release-whole}
use Rattle.qp_check_shapes.proofs.ShapeSoundLemmas.{passed}
use Rattle.qp_check_shapes.proofs.ShapeRunLemmas.{end_of, drops-sound}
use Rattle.qp_check_shapes.proofs.ShapeReadLemmas.{drops-whole}
use Rattle.qp_check_shapes.proofs.ShapeCompleteLemmas.{released-ends, run-ends, run-on, run-front}
use Rattle.qp_check_shapes.proofs.ShapeDecideLemmas.{done-is}

-- with some records behind them, one of two readers reads all
abbrev pub Front : (List Told → Option (List Told)) → (List Told → Option (List Told)) → List Told → Type 0
Front F G ts = (back : List Told) × ((F (ts ++ back) ≡ Some []) ⊎ (G (ts ++ back) ≡ Some []))

-- a reader that only tests one record
abbrev pub Leaf : (List Told → Option (List Told)) → Type 0
Leaf F = (test : Bool) × ((rest : List Told) → F rest ≡ when test rest)

done-when : (test : Bool) (ts back : List Told) → test ≡ true → ts ++ back ≡ [] → is_nothing_behind (when test ts) ≡ true
done-when true [] back h e = refl
done-when true (t ∷ ts) back h e = absurd (cc)
done-when false ts back h e = absurd (cc)

pub leaf-whole : (F : List Told → Option (List Told)) (ts back : List Told) → Leaf F → F (ts ++ back) ≡ Some [] → is_nothing_behind (F ts) ≡ true
leaf-whole F ts back leaf h =
    let all = when-passed leaf.0 (ts ++ back) [] (sym (leaf.1 (ts ++ back)) ∙ h) in
    ap is_nothing_behind (leaf.1 ts) ∙ done-when leaf.0 ts back all.0 all.1

pub done-all : (F : List Told → Option (List Told)) (ts : List Told) → is_nothing_behind (F ts) ≡ true → F (ts ++ []) ≡ Some []
done-all F ts h = subst (λ us. F us ≡ Some []) (sym (append-nil ts)) (done-is (F ts) h)

pub done-either : (F G : List Told → Option (List Told)) (ts : List Told) → (is_nothing_behind (F ts) || is_nothing_behind (G ts)) ≡ true → Front F G ts
done-either F G ts h = by (or_cases (is_nothing_behind (F ts)) (is_nothing_behind (G ts)) h)
  where
    by : (is_nothing_behind (F ts) ≡ true) ⊎ (is_nothing_behind (G ts) ≡ true) → Front F G ts
    by (inl k) = ([], inl (done-all F ts k))
    by (inr k) = ([], inr (done-all G ts k))

-- behind a test that is passed
pub lift : (test : Bool) (F G : List Told → Option (List Told)) (ts : List Told) → test ≡ true → Front F G ts → Front (λ us. cond test (F us) None) (λ us. cond test (G us) None) ts
lift true F G ts h front = front
lift false F G ts h front = absurd (cc)

-- releases
pub release-front-sound : (sys : System) (o : ℕ) (e : Entry) (ts : List Told) → release_front sys o e ts ≡ true → (back : List Told) × (behind_release e (ts ++ back) ≡ Some [])
unfolding release_front
release-front-sound sys o e ts h = by (stage_after sys o ts (publication_released e)) refl h
  where
    all : (back : List Told) (b : Bool) → stage_after sys o (ts ++ back) (publication_released e) ≡ Some (end_of b) → (back : List Told) × (behind_release e (ts ++ back) ≡ Some [])
    all back b is =
        let drops = drops-sound sys o e (ts ++ back) b is in
        (back, subst (λ us. behind_release e us ≡ Some []) (append-nil (ts ++ back)) (release-whole e (ts ++ back) [] drops.1))

    by : (r : Option PublishStage) → stage_after sys o ts (publication_released e) ≡ r → is_some r ≡ true → (back : List Told) × (behind_release e (ts ++ back) ≡ Some [])
    by None is h = absurd (cc)
    by (Some s) is h = let end = ends ts s is in all end.0 end.1 end.2
      where
        ends : (us : List Told) (s : PublishStage) → stage_after sys o us (publication_released e) ≡ Some s → (back : List Told) × (b : Bool) × (stage_after sys o (us ++ back) (publication_released e) ≡ Some (end_of b))
        ends [] s is = released-ends sys o e
        ends (u ∷ us) s is =
            let end = run-ends sys o u us (publication_released e) s is in
            (end.0, end.1, run-on sys o (u ∷ us) end.0 (publication_released e) s (Some (end_of end.1)) is end.2)

pub release-front-whole : (sys : System) (o : ℕ) (e : Entry) (ts back : List Told) → behind_release e (ts ++ back) ≡ Some [] → release_front sys o e ts ≡ true
unfolding release_front
release-front-whole sys o e ts back h =
    let rel = release-sound e (ts ++ back) [] h in
    let drops : Drops e (ts ++ back) = subst (λ us. Drops e us) (sym (rel.2 ∙ append-nil rel.0)) rel.1 in
    let front = run-front sys o ts back (publication_released e) stage.Whole (drops-whole sys o e (ts ++ back) drops) in
    ap is_some front.1

-- a post of a new event's entry
entry-first-sound : (sys : System) (o : ℕ) (e : Entry) (body : Body) (known : Known) (ts : List Told) → entry_front_first sys o e body known ts ≡ true → Front (new_first sys e body known) (cut_first o body known) ts
unfolding entry_front_first
entry-first-sound sys o e (item.Full a f l m k) Nothing ts h = let rel = release-front-sound sys o e ts h in (rel.0, inl rel.1)
entry-first-sound sys o e body known ts h = done-either (new_first sys e body known) (cut_first o body known) ts h

entry-sound : (sys : System) (o : ℕ) (e : Entry) (told : List Told) → entry_front sys o e told ≡ true → Front (behind_entry sys e) (behind_cut o) told
unfolding entry_front
entry-sound sys o e [] h = (plain (item.NoEntry 0 0 0 0) ∷ [], inr refl)
entry-sound sys o e (t ∷ ts) h = entry-first-sound sys o e t.body t.known ts h

entry-new : (sys : System) (o : ℕ) (e : Entry) (body : Body) (known : Known) (ts back : List Told) → new_first sys e body known (ts ++ back) ≡ Some [] → entry_front_first sys o e body known ts ≡ true
unfolding entry_front_first
entry-new sys o e (item.Full a f l m k) Nothing ts back h = release-front-whole sys o e ts back h
entry-new sys o e (item.Post a f l m x) Nothing ts back h =
    or_left (is_nothing_behind (new_first sys e (item.Post a f l m x) Nothing ts)) (is_nothing_behind (cut_first o (item.Post a f l m x) Nothing ts)) (leaf-whole (new_first sys e (item.Post a f l m x) Nothing) ts back (same_entry x e && had_room sys a f l m, λ rest. refl) h)
entry-new sys o e (item.Lifo f l m x) Nothing ts back h = or_left (is_nothing_behind (new_first sys e (item.Lifo f l m x) Nothing ts)) (is_nothing_behind (cut_first o (item.Lifo f l m x) Nothing ts)) (leaf-whole (new_first sys e (item.Lifo f l m x) Nothing) ts back (same_entry x e, λ rest. refl) h)
entry-new sys o e body known ts back h = absurd (none-some _ h)

entry-cut : (sys : System) (o : ℕ) (e : Entry) (body : Body) (known : Known) (ts back : List Told) → cut_first o body known (ts ++ back) ≡ Some [] → entry_front_first sys o e body known ts ≡ true
unfolding entry_front_first
entry-cut sys o e (item.NoEntry a f l m) Nothing ts back h = or_right (is_nothing_behind (new_first sys e (item.NoEntry a f l m) Nothing ts)) (is_nothing_behind (cut_first o (item.NoEntry a f l m) Nothing ts)) (leaf-whole (cut_first o (item.NoEntry a f l m) Nothing) ts back (true, λ rest. refl) h)
entry-cut sys o e (item.NoLifo a f l m) Nothing ts back h = or_right (is_nothing_behind (new_first sys e (item.NoLifo a f l m) Nothing ts)) (is_nothing_behind (cut_first o (item.NoLifo a f l m) Nothing ts)) (leaf-whole (cut_first o (item.NoLifo a f l m) Nothing) ts back (a == o, λ rest. refl) h)
entry-cut sys o e body known ts back h = absurd (none-some _ h)

entry-whole : (sys : System) (o : ℕ) (e : Entry) (told back : List Told) → (behind_entry sys e (told ++ back) ≡ Some []) ⊎ (behind_cut o (told ++ back) ≡ Some []) → entry_front sys o e told ≡ true
unfolding entry_front
entry-whole sys o e [] back h = refl
entry-whole sys o e (t ∷ ts) back (inl h) = entry-new sys o e t.body t.known ts back h
entry-whole sys o e (t ∷ ts) back (inr h) = entry-cut sys o e t.body t.known ts back h

-- a post or a deferral of an entry with a new reference
again-first-sound : (sys : System) (o : ℕ) (e : Entry) (body : Body) (known : Known) (ts : List Told) → again_front_first sys o e body known ts ≡ true → Front (again_first sys e body known) (no_entry_first body known) ts
unfolding again_front_first
again-first-sound sys o e (item.Full a f l m k) Nothing ts h = let rel = release-front-sound sys o e ts h in (rel.0, inl rel.1)
again-first-sound sys o e body known ts h = done-either (again_first sys e body known) (no_entry_first body known) ts h

pub again-sound : (sys : System) (o : ℕ) (e : Entry) (told : List Told) → again_front sys o e told ≡ true → Front (behind_again sys e) behind_no_entry told
unfolding again_front
again-sound sys o e [] h = (plain (item.NoEntry 0 0 0 0) ∷ [], inr refl)
again-sound sys o e (t ∷ ts) h = again-first-sound sys o e t.body t.known ts h

again-post : (sys : System) (o : ℕ) (e : Entry) (body : Body) (known : Known) (ts back : List Told) → again_first sys e body known (ts ++ back) ≡ Some [] → again_front_first sys o e body known ts ≡ true
unfolding again_front_first
again-post sys o e (item.Full a f l m k) Nothing ts back h = release-front-whole sys o e ts back h
again-post sys o e (item.Post a f l m x) Nothing ts back h =
    or_left (is_nothing_behind (again_first sys e (item.Post a f l m x) Nothing ts)) (is_nothing_behind (no_entry_first (item.Post a f l m x) Nothing ts)) (leaf-whole (again_first sys e (item.Post a f l m x) Nothing) ts back (same_entry x e && had_room sys a f l m, λ rest. refl) h)
again-post sys o e (item.Defer x) Nothing ts back h = or_left (is_nothing_behind (again_first sys e (item.Defer x) Nothing ts)) (is_nothing_behind (no_entry_first (item.Defer x) Nothing ts)) (leaf-whole (again_first sys e (item.Defer x) Nothing) ts back (same_entry x e, λ rest. refl) h)
again-post sys o e body known ts back h = absurd (none-some _ h)

again-cut : (sys : System) (o : ℕ) (e : Entry) (body : Body) (known : Known) (ts back : List Told) → no_entry_first body known (ts ++ back) ≡ Some [] → again_front_first sys o e body known ts ≡ true
unfolding again_front_first
again-cut sys o e (item.NoEntry a f l m) Nothing ts back h = or_right (is_nothing_behind (again_first sys e (item.NoEntry a f l m) Nothing ts)) (is_nothing_behind (no_entry_first (item.NoEntry a f l m) Nothing ts)) (leaf-whole (no_entry_first (item.NoEntry a f l m) Nothing) ts back (true, λ rest. refl) h)
again-cut sys o e body known ts back h = absurd (none-some _ h)

pub again-whole : (sys : System) (o : ℕ) (e : Entry) (told back : List Told) → (behind_again sys e (told ++ back) ≡ Some []) ⊎ (behind_no_entry (told ++ back) ≡ Some []) → again_front sys o e told ≡ true
unfolding again_front
again-whole sys o e [] back h = refl
again-whole sys o e (t ∷ ts) back (inl h) = again-post sys o e t.body t.known ts back h
again-whole sys o e (t ∷ ts) back (inr h) = again-cut sys o e t.body t.known ts back h

-- a new block's first reference
new-first-sound : (sys : System) (o p b : ℕ) (body : Body) (known : Known) (ts : List Told) → new_front_first sys o p b body known ts ≡ true → Front (reference_first sys p b body known) (new_cut_first o p b body known) ts
unfolding new_front_first
new-first-sound sys o p b (item.Inc q c r) Nothing ts h =
    let tests = and_parts ((q == p) && (c == b)) (entry_front sys o (entry p b r) ts) h in
    lift ((q == p) && (c == b)) (behind_entry sys (entry p b r)) (behind_cut o) ts tests.0 (entry-sound sys o (entry p b r) ts tests.1)
new-first-sound sys o p b body known ts h = absurd (false≢true h)

pub new-sound : (sys : System) (o p b : ℕ) (told : List Told) → new_front sys o p b told ≡ true → Front (behind_new sys p b) (behind_new_cut o p b) told
unfolding new_front
new-sound sys o p b [] h = (plain (item.Inc p b 0) ∷ plain (item.NoEntry 0 0 0 0) ∷ [], inr (rw (same_number p, same_number b) refl))
new-sound sys o p b (t ∷ ts) h = new-first-sound sys o p b t.body t.known ts h

new-post : (sys : System) (o p b : ℕ) (body : Body) (known : Known) (ts back : List Told) → reference_first sys p b body known (ts ++ back) ≡ Some [] → new_front_first sys o p b body known ts ≡ true
unfolding new_front_first
new-post sys o p b (item.Inc q c r) Nothing ts back h =
    let tests = passed ((q == p) && (c == b)) (behind_entry sys (entry p b r) (ts ++ back)) [] h in
    and_from ((q == p) && (c == b)) (entry_front sys o (entry p b r) ts) tests.0 (entry-whole sys o (entry p b r) ts back (inl tests.1))
new-post sys o p b body known ts back h = absurd (none-some _ h)

new-cut : (sys : System) (o p b : ℕ) (body : Body) (known : Known) (ts back : List Told) → new_cut_first o p b body known (ts ++ back) ≡ Some [] → new_front_first sys o p b body known ts ≡ true
unfolding new_front_first
new-cut sys o p b (item.Inc q c r) Nothing ts back h =
    let tests = passed ((q == p) && (c == b)) (behind_cut o (ts ++ back)) [] h in
    and_from ((q == p) && (c == b)) (entry_front sys o (entry p b r) ts) tests.0 (entry-whole sys o (entry p b r) ts back (inr tests.1))
new-cut sys o p b body known ts back h = absurd (none-some _ h)

pub new-whole : (sys : System) (o p b : ℕ) (told back : List Told) → (behind_new sys p b (told ++ back) ≡ Some []) ⊎ (behind_new_cut o p b (told ++ back) ≡ Some []) → new_front sys o p b told ≡ true
unfolding new_front
new-whole sys o p b [] back h = refl
new-whole sys o p b (t ∷ ts) back (inl h) = new-post sys o p b t.body t.known ts back h
new-whole sys o p b (t ∷ ts) back (inr h) = new-cut sys o p b t.body t.known ts back h
