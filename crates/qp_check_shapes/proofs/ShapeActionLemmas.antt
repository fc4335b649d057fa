-- Whole actions are read off the front of a list, each way; calls that assert and publications that stop are decided.
use Rattle.std.proofs.Common.{◌≡◌, ℕ, nat_lt, Bool, true, false, cond, List, [], ◌∷◌, ◌++◌, length, Some, None, refl, ◌∙◌, ap, subst}
use Rattle.std.specs.declared.option.Option.{Option}
use Rattle.std.specs.Option.{option_and_then}
use Rattle.std.proofs.lemmas.Option.{none-some}
use Rattle.std.proofs.lemmas.Bool.{false≢true}
use Rattle.qp_model.specs.declared.systems.System.{System}
use Rattle.qp_model.specs.declared.bodies.Entry.{Entry}
use Rattle.qp_model.specs.Record.{entry}
use Rattle.qp_model.specs.Told.{Told, told_new}
use Rattle.qp_model.specs.Calls as call
use Rattle.qp_model.specs.Parts.{is_static, sizes_of}
use Rattle.qp_model.specs.Sites.{ring_of}
use Rattle.qp_model.specs.Shapes.{Fits, FitsAny, Publishes}
use Rattle.qp_model.proofs.LineLemmas.{same_number}
use Rattle.qp_check_shapes.specs.ShapeRelease.{IsUnambiguous}
use Rattle.qp_check_shapes.specs.ShapeUnit.{IsUnit, goes_to, behind_entry, plain_first, given_first, behind_unit}
use Rattle.qp_check_shapes.specs.ShapeAction.{IsWhole, OfUnit, OfPublication}
use Rattle.qp_check_shapes.specs.declared.shape_stage.PublishStage.{PublishStage}
use Rattle.qp_check_shapes.specs.declared.shape_stage.PublishStage.TheVariants as stage
use Rattle.qp_check_shapes.specs.ShapePublication.{publish_next, stage_after, behind_stage, is_whole_publication, else_behind}
use Rattle.qp_check_shapes.proofs.ShapeReleaseLemmas.{leaves}
use Rattle.qp_check_shapes.proofs.ShapeWholeLemmas.{unit-whole}
use Rattle.qp_check_shapes.proofs.ShapeUnitLemmas.{unit-leaves}
use Rattle.qp_check_shapes.proofs.ShapeStageLemmas.{run-step, given-is, made-is, StartRecord, OfBlock, OfSet, start-is}
use Rattle.qp_check_shapes.proofs.ShapeRunLemmas.{end_of}
use Rattle.qp_check_shapes.proofs.ShapePublishLemmas.{answer_of, IsPublication, start-sound}
use Rattle.qp_check_shapes.proofs.ShapeReadLemmas.{start-whole}

whole-is : (s : PublishStage) → is_whole_publication s ≡ true → s ≡ stage.Whole
whole-is stage.Whole h = refl
whole-is s h = absurd (false≢true h)

-- what is read from a stage on is made whole
pub stage-sound : (sys : System) (o : ℕ) (told : List Told) (s : PublishStage) (rest : List Told) → behind_stage sys o told s ≡ Some rest → (g : List Told) × (stage_after sys o g s ≡ Some stage.Whole) × (told ≡ g ++ rest)
unfolding behind_stage stage_after
stage-sound sys o [] s rest h = by (is_whole_publication s) refl h
  where
    by : (b : Bool) → is_whole_publication s ≡ b → cond b (Some []) None ≡ Some rest → (g : List Told) × (stage_after sys o g s ≡ Some stage.Whole) × ([] ≡ g ++ rest)
    by true is h = ([], ap Some (whole-is s is), cc)
    by false is h = absurd (cc)
stage-sound sys o (t ∷ ts) s rest h = by (is_whole_publication s) refl h (λ x. stage-sound sys o ts x rest)
  where
    on : (r : Option PublishStage) → publish_next sys o s t.body t.known ≡ r → option_and_then (λ x. behind_stage sys o ts x) r ≡ Some rest
        → ((x : PublishStage) → behind_stage sys o ts x ≡ Some rest → (g : List Told) × (stage_after sys o g x ≡ Some stage.Whole) × (ts ≡ g ++ rest))
        → (g : List Told) × (stage_after sys o g s ≡ Some stage.Whole) × (t ∷ ts ≡ g ++ rest)
    on None is h behind = absurd (cc)
    on (Some x) is h behind = let found = behind x h in (t ∷ found.0, rw is found.1, ap (λ us. t ∷ us) found.2)

    by : (b : Bool) → is_whole_publication s ≡ b → cond b (Some (t ∷ ts)) (option_and_then (λ x. behind_stage sys o ts x) (publish_next sys o s t.body t.known)) ≡ Some rest
        → ((x : PublishStage) → behind_stage sys o ts x ≡ Some rest → (g : List Told) × (stage_after sys o g x ≡ Some stage.Whole) × (ts ≡ g ++ rest))
        → (g : List Told) × (stage_after sys o g s ≡ Some stage.Whole) × (t ∷ ts ≡ g ++ rest)
    by true is h behind = ([], ap Some (whole-is s is), cc)
    by false is h behind = on (publish_next sys o s t.body t.known) refl h behind

goes-on : (sys : System) (o : ℕ) (t : Told) (s x : PublishStage) → publish_next sys o s t.body t.known ≡ Some x → is_whole_publication s ≡ false
unfolding publish_next
goes-on sys o t stage.Whole x h = absurd (none-some _ h)
goes-on sys o t s x h = refl

pub stage-whole : (sys : System) (o : ℕ) (g rest : List Told) (s : PublishStage) → stage_after sys o g s ≡ Some stage.Whole → behind_stage sys o (g ++ rest) s ≡ Some rest
unfolding behind_stage stage_after
stage-whole sys o [] [] s h = let is : s ≡ stage.Whole = cc in rw is refl
stage-whole sys o [] (t ∷ ts) s h = let is : s ≡ stage.Whole = cc in rw is refl
stage-whole sys o (t ∷ ts) rest s h =
    let step = run-step sys o t ts s stage.Whole h in
    let on = goes-on sys o t s step.0 step.1 in
    rw (on, step.1) (stage-whole sys o ts rest step.0 step.2)

-- behind the first reference of a publication's block stands its set, where a unit has a post
made-none : (sys : System) (o p k sig r : ℕ) (ts rest : List Told) → stage_after sys o ts (stage.Made (entry p k r) sig) ≡ Some stage.Whole → behind_entry sys (entry p k r) (ts ++ rest) ≡ None
unfolding stage_after publish_next
made-none sys o p k sig r [] rest h = absurd (cc)
made-none sys o p k sig r (t ∷ ts) rest h =
    let step = run-step sys o t ts (stage.Made (entry p k r) sig) stage.Whole h in
    let is = made-is o (entry p k r) sig t step.0 step.1 in
    rw is.2 refl

given-none : (sys : System) (o : ℕ) (now : Option Entry) (p n k from sig free : ℕ) (pars : List ℕ) (ts rest : List Told)
    → nat_lt 0 free ≡ true → goes_to (sizes_of sys) (length pars) p ≡ true → is_static sys sig ≡ false → stage_after sys o ts (stage.Given p k sig) ≡ Some stage.Whole
    → behind_unit sys o now (told_new p n k from sig pars free ∷ (ts ++ rest)) ≡ None
unfolding stage_after publish_next given_first
given-none sys o now p n k from sig free pars [] rest above goes pooled h = absurd (cc)
given-none sys o now p n k from sig free pars (t ∷ ts) rest above goes pooled h =
    let step = run-step sys o t ts (stage.Given p k sig) stage.Whole h in
    let is = given-is p k sig t step.0 step.1 in
    let behind = made-none sys o p k sig is.0 ts rest (subst (λ y. stage_after sys o ts y ≡ Some stage.Whole) is.2 step.2) in
    rw (above, goes, pooled, is.1, same_number p, same_number k) behind

-- no unit stands in front of a publication
unit-none : (sys : System) (o : ℕ) (now : Option Entry) (g rest : List Told) → stage_after sys o g stage.Start ≡ Some stage.Whole → behind_unit sys o now (g ++ rest) ≡ None
unfolding stage_after publish_next plain_first
unit-none sys o now [] rest h = absurd (cc)
unit-none sys o now (t ∷ ts) rest h = let step = run-step sys o t ts stage.Start stage.Whole h in by step.0 (start-is sys o t step.0 step.1) step.2
  where
    by : (x : PublishStage) → StartRecord sys o t x → stage_after sys o ts x ≡ Some stage.Whole → behind_unit sys o now (t ∷ (ts ++ rest)) ≡ None
    by x (OfSet sig n set t_is fixed x_is) h = rw t_is refl
    by x (OfBlock p n k from sig free pars t_is above goes pooled x_is) h =
        rw t_is (given-none sys o now p n k from sig free pars ts rest above goes pooled (subst (λ y. stage_after sys o ts y ≡ Some stage.Whole) x_is h))

-- publications, as the shapes of calls have them
pub fits-publication : (sys : System) (o : ℕ) (now : Option Entry) (sig : ℕ) (pars : List ℕ) (b : Bool) (g : List Told)
    → Publishes (is_static sys sig) (sizes_of sys) (ring_of sys) o sig pars None (answer_of b) g → FitsAny sys o now (call.Publish sig pars None) (answer_of b) g
unfolding FitsAny Fits
fits-publication sys o now sig pars b g h = h

pub publication-run : (sys : System) (o : ℕ) (now : Option Entry) (sig : ℕ) (pars : List ℕ) (reserve : Option ℕ) (b : Bool) (g : List Told)
    → FitsAny sys o now (call.Publish sig pars reserve) (answer_of b) g → stage_after sys o g stage.Start ≡ Some (end_of b)
unfolding FitsAny Fits
publication-run sys o now sig pars reserve b g h = start-whole sys o sig pars reserve b g h

of-publication : (sys : System) (o : ℕ) (now : Option Entry) (g : List Told) → IsPublication sys o true g → IsWhole sys o now g
of-publication sys o now g h = OfPublication h.0 h.1 None (fits-publication sys o now h.0 h.1 true g h.2)

pub unit-sound : (sys : System) (o : ℕ) (now : Option Entry) (told rest : List Told) → behind_unit sys o now told ≡ Some rest → (g : List Told) × IsUnit sys o now g × (told ≡ g ++ rest)
unfolding IsUnambiguous
unit-sound sys o now told rest h = let found = subst (λ r. IsUnambiguous (IsUnit sys o now) told r) h (unit-leaves sys o now told) in found.0

-- an action is read off
pub action-leaves : (sys : System) (o : ℕ) (now : Option Entry) (told : List Told) → IsUnambiguous (IsWhole sys o now) told (else_behind (behind_unit sys o now told) (behind_stage sys o told stage.Start))
action-leaves sys o now told = leaves (IsWhole sys o now) (λ us. else_behind (behind_unit sys o now us) (behind_stage sys o us stage.Start)) sound whole told
  where
    sound : (told rest : List Told) → else_behind (behind_unit sys o now told) (behind_stage sys o told stage.Start) ≡ Some rest → (g : List Told) × IsWhole sys o now g × (told ≡ g ++ rest)
    sound told rest h = by (behind_unit sys o now told) refl h
      where
        by : (r : Option (List Told)) → behind_unit sys o now told ≡ r → else_behind r (behind_stage sys o told stage.Start) ≡ Some rest → (g : List Told) × IsWhole sys o now g × (told ≡ g ++ rest)
        by (Some us) is h = let unit = unit-sound sys o now told rest (is ∙ h) in (unit.0, OfUnit unit.1, unit.2)
        by None is h =
            let found = stage-sound sys o told stage.Start rest h in
            let publication = start-sound sys o true found.0 found.1 in
            (found.0, of-publication sys o now found.0 publication, found.2)

    whole : (g rest : List Told) → IsWhole sys o now g → else_behind (behind_unit sys o now (g ++ rest)) (behind_stage sys o (g ++ rest) stage.Start) ≡ Some rest
    whole g rest (OfUnit unit) = rw (unit-whole sys o now g rest unit) refl
    whole g rest (OfPublication sig pars reserve fits) =
        let read = publication-run sys o now sig pars reserve true g fits in
        rw (unit-none sys o now g rest read) (stage-whole sys o g rest stage.Start read)
