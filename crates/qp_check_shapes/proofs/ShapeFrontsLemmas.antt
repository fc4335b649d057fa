-- Fronts of actions and of calls that end in their assertions are decided.
use Rattle.std.proofs.Common.{◌≡◌, ℕ, Bool, true, false, ◌||◌, List, [], ◌∷◌, ◌++◌, Some, None, refl, sym, ◌∙◌, subst, inl, inr, ◌⊎◌, append-nil}
use Rattle.std.specs.declared.option.Option.{Option}
use Rattle.std.specs.Option.{is_some}
use Rattle.std.proofs.lemmas.Bool.{or_left, or_cases, or_right}
use Rattle.qp_check_calls.specs.Decides.{Decides}
use Rattle.qp_model.specs.declared.systems.System.{System}
use Rattle.qp_model.specs.declared.bodies.Entry.{Entry}
use Rattle.qp_model.specs.declared.bodies.Body.TheVariants as item
use Rattle.qp_model.specs.Told.{Told, plain}
use Rattle.qp_model.specs.Calls as call
use Rattle.qp_model.specs.Calls.{AtQueue}
use Rattle.qp_model.specs.Shapes.{FitsAny}
use Rattle.qp_check_shapes.specs.ShapeUnit.{IsUnit, SaysValue, behind_unit}
use Rattle.qp_check_shapes.specs.ShapeAssertion.{IsAsserted, behind_assertion}
use Rattle.qp_check_shapes.specs.ShapeAction.{IsWhole, OfUnit, OfPublication, IsCut, IsFront}
use Rattle.qp_check_shapes.specs.declared.shape_stage.PublishStage.{PublishStage}
use Rattle.qp_check_shapes.specs.declared.shape_stage.PublishStage.TheVariants as stage
use Rattle.qp_check_shapes.specs.ShapePublication.{stage_after}
use Rattle.qp_check_shapes.specs.ShapeFront.{unit_front}
use Rattle.qp_check_shapes.proofs.ShapeWholeLemmas.{unit-whole}
use Rattle.qp_check_shapes.proofs.ShapeAssertionLemmas.{assertion-whole}
use Rattle.qp_check_shapes.proofs.ShapePublishLemmas.{answer_of}
use Rattle.qp_check_shapes.proofs.ShapeActionLemmas.{unit-sound, publication-run}
use Rattle.qp_check_shapes.proofs.ShapeDecideLemmas.{decides, done-asserted, asserted-cut, cut-read, read-front, front-read}
use Rattle.qp_check_shapes.proofs.ShapeFrontLemmas.{Front}
use Rattle.qp_check_shapes.proofs.ShapeBeginLemmas.{unit-front-sound, unit-front-whole}

-- a front of a publication
publication-front : (sys : System) (o : ℕ) (now : Option Entry) (told back : List Told) (sig : ℕ) (pars : List ℕ) (b : Bool) → FitsAny sys o now (call.Publish sig pars None) (answer_of b) (told ++ back) → IsFront sys o now told
publication-front sys o now told back sig pars true fits = (back, inl (OfPublication sig pars None fits))
publication-front sys o now told back sig pars false fits = (back, inr (call.Publish sig pars None, AtQueue, fits, refl))

run-front-sound : (sys : System) (o : ℕ) (now : Option Entry) (told : List Told) → is_some (stage_after sys o told stage.Start) ≡ true → IsFront sys o now told
run-front-sound sys o now [] h = (plain (item.Say 0) ∷ [], inl (OfUnit (SaysValue 0 refl)))
run-front-sound sys o now (t ∷ ts) h = let front = read-front sys o now t ts h in publication-front sys o now (t ∷ ts) front.3 front.0 front.1 front.2 front.4

of-unit : (sys : System) (o : ℕ) (now : Option Entry) (told : List Told) → behind_unit sys o now told ≡ Some [] → IsUnit sys o now told
of-unit sys o now told h = let found = unit-sound sys o now told [] h in subst (λ us. IsUnit sys o now us) (sym (found.2 ∙ append-nil found.0)) found.1

front-sound : (sys : System) (o : ℕ) (now : Option Entry) (told : List Told) → (is_some (stage_after sys o told stage.Start) || unit_front sys o now told) ≡ true → IsFront sys o now told
front-sound sys o now told h = by (or_cases (is_some (stage_after sys o told stage.Start)) (unit_front sys o now told) h)
  where
    unit : Front (behind_unit sys o now) (behind_assertion sys o now) told → IsFront sys o now told
    unit front = of front.1
      where
        of : (behind_unit sys o now (told ++ front.0) ≡ Some []) ⊎ (behind_assertion sys o now (told ++ front.0) ≡ Some []) → IsFront sys o now told
        of (inl k) = (front.0, inl (OfUnit (of-unit sys o now (told ++ front.0) k)))
        of (inr k) = (front.0, inr (asserted-cut sys o now (told ++ front.0) (done-asserted sys o now (told ++ front.0) k)))

    by : (is_some (stage_after sys o told stage.Start) ≡ true) ⊎ (unit_front sys o now told ≡ true) → IsFront sys o now told
    by (inl k) = run-front-sound sys o now told k
    by (inr k) = unit (unit-front-sound sys o now told k)

front-whole : (sys : System) (o : ℕ) (now : Option Entry) (told : List Told) → IsFront sys o now told → (is_some (stage_after sys o told stage.Start) || unit_front sys o now told) ≡ true
front-whole sys o now told h = by h.0 h.1
  where
    read : (back : List Told) (s : PublishStage) → stage_after sys o (told ++ back) stage.Start ≡ Some s → (is_some (stage_after sys o told stage.Start) || unit_front sys o now told) ≡ true
    read back s is = or_left (is_some (stage_after sys o told stage.Start)) (unit_front sys o now told) (front-read sys o told back s is)

    unit : (back : List Told) → (behind_unit sys o now (told ++ back) ≡ Some []) ⊎ (behind_assertion sys o now (told ++ back) ≡ Some []) → (is_some (stage_after sys o told stage.Start) || unit_front sys o now told) ≡ true
    unit back is = or_right (is_some (stage_after sys o told stage.Start)) (unit_front sys o now told) (unit-front-whole sys o now told back is)

    cut : (back : List Told) → (stage_after sys o (told ++ back) stage.Start ≡ Some stage.Cut) ⊎ IsAsserted sys o now (told ++ back) → (is_some (stage_after sys o told stage.Start) || unit_front sys o now told) ≡ true
    cut back (inl is) = read back stage.Cut is
    cut back (inr asserted) =
        unit back (inr (subst (λ us. behind_assertion sys o now us ≡ Some []) (append-nil (told ++ back)) (assertion-whole sys o now (told ++ back) [] asserted)))

    by : (back : List Told) → IsWhole sys o now (told ++ back) ⊎ IsCut sys o now (told ++ back) → (is_some (stage_after sys o told stage.Start) || unit_front sys o now told) ≡ true
    by back (inl (OfUnit is)) = unit back (inl (subst (λ us. behind_unit sys o now us ≡ Some []) (append-nil (told ++ back)) (unit-whole sys o now (told ++ back) [] is)))
    by back (inl (OfPublication sig pars reserve fits)) = read back stage.Whole (publication-run sys o now sig pars reserve true (told ++ back) fits)
    by back (inr is) = cut back (cut-read sys o now (told ++ back) is)

pub front-decides : (sys : System) (o : ℕ) (now : Option Entry) (told : List Told) → Decides (is_some (stage_after sys o told stage.Start) || unit_front sys o now told) (IsFront sys o now told)
front-decides sys o now told =
    decides (is_some (stage_after sys o told stage.Start) || unit_front sys o now told) (IsFront sys o now told) (front-sound sys o now told) (front-whole sys o now told)
