-- Calls that assert, and publications that stop at a post, are decided.
use Rattle.std.proofs.Common.{◌≡◌, ℕ, Bool, true, false, ◌&&◌, ◌||◌, List, [], ◌∷◌, ◌++◌, length, Some, None, refl, sym, ◌∙◌, ap, subst, inl, inr, ◌⊎◌, append-nil}
use Rattle.std.specs.declared.option.Option.{Option}
use Rattle.std.specs.Option.{is_some}
use Rattle.std.proofs.lemmas.Bool.{and_parts, or_left, or_cases, or_right}
use Rattle.qp_check_calls.specs.Decides.{Decides}
use Rattle.qp_model.specs.declared.systems.System.{System}
use Rattle.qp_model.specs.declared.bodies.Entry.{Entry}
use Rattle.qp_model.specs.declared.bodies.Body.TheVariants as item
use Rattle.qp_model.specs.Told.{Told, plain}
use Rattle.qp_model.specs.Calls as call
use Rattle.qp_model.specs.Calls.{Call, Answer, Granted, Refused, Flushed, AtQueue, AtPool, is_assertion}
use Rattle.qp_model.specs.Parts.{sizes_of}
use Rattle.qp_model.specs.Shapes.{Fits, FitsAny, NoBlockFor, Publishes}
use Rattle.qp_model.specs.Groups.{is_post, ends_in_post}
use Rattle.qp_check_shapes.specs.ShapeRelease.{IsUnambiguous}
use Rattle.qp_check_shapes.specs.ShapeUnit.{is_unit_call}
use Rattle.qp_check_shapes.specs.ShapeAssertion.{IsAsserted, Asserts, behind_assertion}
use Rattle.qp_check_shapes.specs.ShapeAction.{IsCut, StopsInside}
use Rattle.qp_check_shapes.specs.declared.shape_stage.PublishStage.{PublishStage}
use Rattle.qp_check_shapes.specs.declared.shape_stage.PublishStage.TheVariants as stage
use Rattle.qp_check_shapes.specs.ShapePublication.{stage_after, is_nothing_behind, is_cut_publication}
use Rattle.qp_check_shapes.proofs.ShapePartLemmas.{first-used}
use Rattle.qp_check_shapes.proofs.ShapeAssertionLemmas.{assertion-whole, no_block-asserted}
use Rattle.qp_check_shapes.proofs.ShapeAssertedLemmas.{assertion-leaves}
use Rattle.qp_check_shapes.proofs.ShapeRunLemmas.{end_of}
use Rattle.qp_check_shapes.proofs.ShapePublishLemmas.{answer_of, start-sound}
use Rattle.qp_check_shapes.proofs.ShapeActionLemmas.{fits-publication, publication-run}
use Rattle.qp_check_shapes.proofs.ShapeCompleteLemmas.{run-ends, run-on, run-front}

-- a test that is passed exactly where something holds
pub decides : (b : Bool) (P : Type 0) → (b ≡ true → P) → (P → b ≡ true) → Decides b P
unfolding Decides
decides true P sound whole = sound refl
decides false P sound whole = λ p. absurd (none (whole p))
  where
    none : false ≡ true → ⊥
    none h = cc

pub done-is : (r : Option (List Told)) → is_nothing_behind r ≡ true → r ≡ Some []
done-is None h = absurd (cc)
done-is (Some []) h = refl
done-is (Some (t ∷ ts)) h = absurd (cc)

cut-is : (r : Option PublishStage) → is_cut_publication r ≡ true → r ≡ Some stage.Cut
cut-is None h = absurd (cc)
cut-is (Some stage.Cut) h = refl
cut-is (Some s) h = absurd (cc)

pub asserted-cut : (sys : System) (o : ℕ) (now : Option Entry) (g : List Told) → IsAsserted sys o now g → IsCut sys o now g
asserted-cut sys o now g (Asserts x answer single fits cut) = (x, answer, fits, cut)

-- all of a list is a call that asserts, and no publication
pub done-asserted : (sys : System) (o : ℕ) (now : Option Entry) (told : List Told) → behind_assertion sys o now told ≡ Some [] → IsAsserted sys o now told
unfolding IsUnambiguous
done-asserted sys o now told h =
    let found = subst (λ r. IsUnambiguous (IsAsserted sys o now) told r) h (assertion-leaves sys o now told) in
    subst (λ us. IsAsserted sys o now us) (sym (found.0.2 ∙ append-nil found.0.0)) found.0.1

asserted-done : (sys : System) (o : ℕ) (now : Option Entry) (g : List Told) → IsAsserted sys o now g → is_nothing_behind (behind_assertion sys o now g) ≡ true
asserted-done sys o now g h =
    let whole : behind_assertion sys o now g ≡ Some [] = subst (λ us. behind_assertion sys o now us ≡ Some []) (append-nil g) (assertion-whole sys o now g [] h) in
    ap is_nothing_behind whole

asserts-sound : (sys : System) (o : ℕ) (now : Option Entry) (told : List Told) → (is_nothing_behind (behind_assertion sys o now told) || is_cut_publication (stage_after sys o told stage.Start)) ≡ true → IsCut sys o now told
asserts-sound sys o now told h = by (or_cases (is_nothing_behind (behind_assertion sys o now told)) (is_cut_publication (stage_after sys o told stage.Start)) h)
  where
    by : (is_nothing_behind (behind_assertion sys o now told) ≡ true) ⊎ (is_cut_publication (stage_after sys o told stage.Start) ≡ true) → IsCut sys o now told
    by (inl h) = asserted-cut sys o now told (done-asserted sys o now told (done-is (behind_assertion sys o now told) h))
    by (inr h) =
        let publication = start-sound sys o false told (cut-is (stage_after sys o told stage.Start) h) in
        (call.Publish publication.0 publication.1 None, AtQueue, fits-publication sys o now publication.0 publication.1 false told publication.2, refl)

-- a publication that ends in its assertion: in the place of a post, or for want of a block
publish-cut : (sys : System) (o : ℕ) (now : Option Entry) (sig : ℕ) (pars : List ℕ) (reserve : Option ℕ) (answer : Answer) (g : List Told)
    → FitsAny sys o now (call.Publish sig pars reserve) answer g → is_assertion answer ≡ true → (stage_after sys o g stage.Start ≡ Some stage.Cut) ⊎ IsAsserted sys o now g
unfolding FitsAny Fits Publishes NoBlockFor
publish-cut sys o now sig pars reserve AtQueue g h cut = inl (publication-run sys o now sig pars reserve false g h)
publish-cut sys o now sig pars None AtPool g h cut =
    inr (subst (λ us. IsAsserted sys o now us) (sym h.5) (no_block-asserted sys o now h.0 h.1 h.2 (first-used (sizes_of sys) (length pars) h.0 h.4)))
publish-cut sys o now sig pars (Some r) AtPool g h cut = absurd h
publish-cut sys o now sig pars reserve Granted g h cut = absurd (cc)
publish-cut sys o now sig pars reserve Refused g h cut = absurd (cc)
publish-cut sys o now sig pars reserve (Flushed n) g h cut = absurd (cc)
publish-cut sys o now sig pars None _ g h cut = absurd h
publish-cut sys o now sig pars (Some r) _ g h cut = absurd h

flush-uncut : (sys : System) (o : ℕ) (now : Option Entry) (answer : Answer) (g : List Told) → FitsAny sys o now call.Flush answer g → is_assertion answer ≡ true → ⊥
unfolding FitsAny Fits
flush-uncut sys o now (Flushed n) g h cut = cc
flush-uncut sys o now _ g h cut = h

-- a call that asserts is read as one of the two
pub cut-read : (sys : System) (o : ℕ) (now : Option Entry) (g : List Told) → IsCut sys o now g → (stage_after sys o g stage.Start ≡ Some stage.Cut) ⊎ IsAsserted sys o now g
cut-read sys o now g h = by h.0 h.2
  where
    single : (x : Call) → is_unit_call x ≡ true → FitsAny sys o now x h.1 g → (stage_after sys o g stage.Start ≡ Some stage.Cut) ⊎ IsAsserted sys o now g
    single x is fits = inr (Asserts x h.1 is fits h.3)

    by : (x : Call) → FitsAny sys o now x h.1 g → (stage_after sys o g stage.Start ≡ Some stage.Cut) ⊎ IsAsserted sys o now g
    by (call.Publish sig pars reserve) fits = publish-cut sys o now sig pars reserve h.1 g fits h.3
    by call.Flush fits = absurd (flush-uncut sys o now h.1 g fits h.3)
    by x fits = single x refl fits

asserts-whole : (sys : System) (o : ℕ) (now : Option Entry) (told : List Told) → IsCut sys o now told → (is_nothing_behind (behind_assertion sys o now told) || is_cut_publication (stage_after sys o told stage.Start)) ≡ true
asserts-whole sys o now told h = by (cut-read sys o now told h)
  where
    by : (stage_after sys o told stage.Start ≡ Some stage.Cut) ⊎ IsAsserted sys o now told → (is_nothing_behind (behind_assertion sys o now told) || is_cut_publication (stage_after sys o told stage.Start)) ≡ true
    by (inl is) = or_right (is_nothing_behind (behind_assertion sys o now told)) (is_cut_publication (stage_after sys o told stage.Start)) (ap is_cut_publication is)
    by (inr asserted) = or_left (is_nothing_behind (behind_assertion sys o now told)) (is_cut_publication (stage_after sys o told stage.Start)) (asserted-done sys o now told asserted)

pub asserts-decides : (sys : System) (o : ℕ) (now : Option Entry) (told : List Told) → Decides (is_nothing_behind (behind_assertion sys o now told) || is_cut_publication (stage_after sys o told stage.Start)) (IsCut sys o now told)
asserts-decides sys o now told =
    decides (is_nothing_behind (behind_assertion sys o now told) || is_cut_publication (stage_after sys o told stage.Start)) (IsCut sys o now told) (asserts-sound sys o now told) (asserts-whole sys o now told)

-- what is read is a front of a publication
pub read-front : (sys : System) (o : ℕ) (now : Option Entry) (t : Told) (ts : List Told) → is_some (stage_after sys o (t ∷ ts) stage.Start) ≡ true
    → (sig : ℕ) × (pars : List ℕ) × (b : Bool) × (back : List Told) × FitsAny sys o now (call.Publish sig pars None) (answer_of b) ((t ∷ ts) ++ back)
read-front sys o now t ts h = by (stage_after sys o (t ∷ ts) stage.Start) refl h
  where
    by : (r : Option PublishStage) → stage_after sys o (t ∷ ts) stage.Start ≡ r → is_some r ≡ true
        → (sig : ℕ) × (pars : List ℕ) × (b : Bool) × (back : List Told) × FitsAny sys o now (call.Publish sig pars None) (answer_of b) ((t ∷ ts) ++ back)
    by None is h = absurd (cc)
    by (Some s) is h =
        let end = run-ends sys o t ts stage.Start s is in
        let publication = start-sound sys o end.1 ((t ∷ ts) ++ end.0) (run-on sys o (t ∷ ts) end.0 stage.Start s (Some (end_of end.1)) is end.2) in
        (publication.0, publication.1, end.1, end.0, fits-publication sys o now publication.0 publication.1 end.1 ((t ∷ ts) ++ end.0) publication.2)

-- a front of what comes to an end is read
pub front-read : (sys : System) (o : ℕ) (told back : List Told) (s : PublishStage) → stage_after sys o (told ++ back) stage.Start ≡ Some s → is_some (stage_after sys o told stage.Start) ≡ true
front-read sys o told back s h = let front = run-front sys o told back stage.Start s h in ap is_some front.1

stops-sound : (sys : System) (o : ℕ) (now : Option Entry) (told : List Told) → (ends_in_post told && is_some (stage_after sys o told stage.Start)) ≡ true → StopsInside sys o now told
unfolding ends_in_post
stops-sound sys o now [] h = absurd (cc)
stops-sound sys o now (t ∷ ts) h =
    let tests = and_parts (ends_in_post (t ∷ ts)) (is_some (stage_after sys o (t ∷ ts) stage.Start)) h in
    let front = read-front sys o now t ts tests.1 in
    (front.0, front.1, None, answer_of front.2, front.3, front.4, tests.0)

-- a lone record of another answer is no post
lone-front : (told back : List Told) (u : Told) → told ++ back ≡ u ∷ [] → is_post u.body ≡ false → ends_in_post told ≡ true → ⊥
unfolding ends_in_post
lone-front [] back u e other h = cc
lone-front (t ∷ []) back u e other h = let same : t ≡ u = cc in cc
lone-front (t ∷ v ∷ ts) back u e other h = cc

stops-run : (sys : System) (o : ℕ) (now : Option Entry) (told back : List Told) (sig : ℕ) (pars : List ℕ) (reserve : Option ℕ) (answer : Answer)
    → FitsAny sys o now (call.Publish sig pars reserve) answer (told ++ back) → ends_in_post told ≡ true → (s : PublishStage) × (stage_after sys o (told ++ back) stage.Start ≡ Some s)
unfolding FitsAny Fits Publishes NoBlockFor
stops-run sys o now told back sig pars reserve Granted fits ends = (stage.Whole, publication-run sys o now sig pars reserve true (told ++ back) fits)
stops-run sys o now told back sig pars reserve AtQueue fits ends = (stage.Cut, publication-run sys o now sig pars reserve false (told ++ back) fits)
stops-run sys o now told back sig pars None AtPool fits ends = absurd (lone-front told back (plain (item.NoBlock fits.0 fits.1 fits.2)) fits.5 refl ends)
stops-run sys o now told back sig pars (Some r) AtPool fits ends = absurd fits
stops-run sys o now told back sig pars None Refused fits ends = absurd fits
stops-run sys o now told back sig pars (Some r) Refused fits ends = absurd (lone-front told back (plain (item.Short fits.0 fits.1 fits.2 r)) fits.5 refl ends)
stops-run sys o now told back sig pars None _ fits ends = absurd fits
stops-run sys o now told back sig pars (Some r) _ fits ends = absurd fits

stops-whole : (sys : System) (o : ℕ) (now : Option Entry) (told : List Told) → StopsInside sys o now told → (ends_in_post told && is_some (stage_after sys o told stage.Start)) ≡ true
stops-whole sys o now told h =
    let found = stops-run sys o now told h.4 h.0 h.1 h.2 h.3 h.5 h.6 in
    let read = front-read sys o told h.4 found.0 found.1 in
    rw (h.6, read) refl

pub stops-decides : (sys : System) (o : ℕ) (now : Option Entry) (told : List Told) → Decides (ends_in_post told && is_some (stage_after sys o told stage.Start)) (StopsInside sys o now told)
stops-decides sys o now told =
    decides (ends_in_post told && is_some (stage_after sys o told stage.Start)) (StopsInside sys o now told) (stops-sound sys o now told) (stops-whole sys o now told)
