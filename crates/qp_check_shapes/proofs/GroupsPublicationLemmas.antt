-- A publication is read to its end in one way, and begins neither a unit nor a single call that asserts.
use Rattle.std.proofs.Common.{◌≡◌, ℕ, Bool, true, false, List, [], ◌∷◌, ◌++◌, Some, None, refl, sym, ◌∙◌, ap, subst}
use Rattle.std.specs.declared.option.Option.{Option}
use Rattle.std.proofs.lemmas.Bool.{false≢true}
use Rattle.qp_model.specs.declared.systems.System.{System}
use Rattle.qp_model.specs.declared.bodies.Entry.{Entry}
use Rattle.qp_model.specs.declared.bodies.Body.{Body}
use Rattle.qp_model.specs.declared.bodies.Body.TheVariants as item
use Rattle.qp_model.specs.Record.{entry}
use Rattle.qp_model.specs.Told.{Told, Known, plain, told_new}
use Rattle.qp_check_shapes.specs.declared.shape_stage.PublishStage.{PublishStage}
use Rattle.qp_check_shapes.specs.declared.shape_stage.PublishStage.TheVariants as stage
use Rattle.qp_check_shapes.specs.ShapeUnit.{behind_unit}
use Rattle.qp_check_shapes.specs.ShapeAssertion.{behind_assertion}
use Rattle.qp_check_shapes.specs.ShapePublication.{start_first, publish_next, stage_after}
use Rattle.qp_check_shapes.specs.GroupsRead.{is_outer}
use Rattle.qp_check_shapes.proofs.ShapeRunLemmas.{end_of}
use Rattle.qp_check_shapes.proofs.ShapeStageLemmas.{run-step, given-is, made-is, StartRecord, OfBlock, OfSet, start-is}
use Rattle.qp_check_shapes.proofs.GroupsApartLemmas.{shown-apart, given-apart}

-- behind the end nothing is read
end-run : (sys : System) (o : ℕ) (b c : Bool) (g : List Told) → stage_after sys o g (end_of b) ≡ Some (end_of c) → (g ≡ []) × (b ≡ c)
unfolding stage_after publish_next
end-run sys o true true [] h = (refl, refl)
end-run sys o false false [] h = (refl, refl)
end-run sys o true false [] h = absurd (cc)
end-run sys o false true [] h = absurd (cc)
end-run sys o true c (t ∷ ts) h = absurd (cc)
end-run sys o false c (t ∷ ts) h = absurd (cc)

-- two publications in front of one list are one, and end in one way
pub run-same : (sys : System) (o : ℕ) (s : PublishStage) (b c : Bool) (g gs h hs : List Told) → stage_after sys o g s ≡ Some (end_of b) → stage_after sys o h s ≡ Some (end_of c) → g ++ gs ≡ h ++ hs
    → (gs ≡ hs) × (b ≡ c)
unfolding stage_after
run-same sys o s b c [] gs h hs x y is =
    let at_end : s ≡ end_of b = cc in
    let end = end-run sys o b c h (subst (λ u. stage_after sys o h u ≡ Some (end_of c)) at_end y) in
    (is ∙ ap (λ us. us ++ hs) end.0, end.1)
run-same sys o s b c (t ∷ ts) gs [] hs x y is =
    let at_end : s ≡ end_of c = cc in
    let end = end-run sys o c b (t ∷ ts) (subst (λ u. stage_after sys o (t ∷ ts) u ≡ Some (end_of b)) at_end x) in
    let none : t ∷ ts ≡ [] = end.0 in absurd (cc)
run-same sys o s b c (t ∷ ts) gs (u ∷ us) hs x y is =
    let first : u ≡ t = cc in
    let rest : ts ++ gs ≡ us ++ hs = cc in
    let one = run-step sys o t ts s (end_of b) x in
    let two = run-step sys o t us s (end_of c) (subst (λ v. stage_after sys o (v ∷ us) s ≡ Some (end_of c)) first y) in
    let stages : two.0 ≡ one.0 = let e1 : publish_next sys o s t.body t.known ≡ Some one.0 = one.1 in let e2 : publish_next sys o s t.body t.known ≡ Some two.0 = two.1 in cc in
    run-same sys o one.0 b c ts gs us hs one.2 (subst (λ v. stage_after sys o us v ≡ Some (end_of c)) stages two.2) rest

-- no record is read before the first
pub run-filled : (sys : System) (o : ℕ) (b : Bool) → stage_after sys o [] stage.Start ≡ Some (end_of b) → ⊥
unfolding stage_after
run-filled sys o true h = cc
run-filled sys o false h = cc

outer-start : (sys : System) (o : ℕ) (body : Body) (known : Known) → is_outer body ≡ true → start_first sys o body known ≡ None
unfolding start_first
outer-start sys o (item.Unlock ceiling) known h = refl
outer-start sys o item.Done known h = refl
outer-start sys o (item.Lock ceiling) known h = refl
outer-start sys o (item.Exit s) known h = refl
outer-start sys o (item.Enter s) known h = refl
outer-start sys o (item.Init s) known h = refl
outer-start sys o body known h = absurd (false≢true h)

pub run-inner : (sys : System) (o : ℕ) (b : Bool) (t : Told) (ts : List Told) → stage_after sys o (t ∷ ts) stage.Start ≡ Some (end_of b) → is_outer t.body ≡ true → ⊥
unfolding publish_next
run-inner sys o b t ts h out =
    let step = run-step sys o t ts stage.Start (end_of b) h in
    let some : start_first sys o t.body t.known ≡ Some step.0 = step.1 in
    let none : start_first sys o t.body t.known ≡ None = outer-start sys o t.body t.known out in cc

-- what neither begins
IsApart : System → ℕ → Option Entry → List Told → Type 0
IsApart sys o now told = (behind_unit sys o now told ≡ None) × (behind_assertion sys o now told ≡ None)

made-apart : (sys : System) (o : ℕ) (now : Option Entry) (b : Bool) (p n k from sig free r : ℕ) (pars : List ℕ) (g gs : List Told)
    → stage_after sys o g (stage.Made (entry p k r) sig) ≡ Some (end_of b) → IsApart sys o now (told_new p n k from sig pars free ∷ plain (item.Inc p k r) ∷ (g ++ gs))
unfolding stage_after publish_next IsApart
made-apart sys o now true p n k from sig free r pars [] gs h = absurd (cc)
made-apart sys o now false p n k from sig free r pars [] gs h = absurd (cc)
made-apart sys o now b p n k from sig free r pars (t ∷ ts) gs h =
    let step = run-step sys o t ts (stage.Made (entry p k r) sig) (end_of b) h in
    let is = made-is o (entry p k r) sig t step.0 step.1 in
    subst (λ u. IsApart sys o now (told_new p n k from sig pars free ∷ plain (item.Inc p k r) ∷ u ∷ (ts ++ gs))) (sym is.2)
    (given-apart sys o now p n k from sig free p k r sig is.0 is.1 pars (ts ++ gs))

block-apart : (sys : System) (o : ℕ) (now : Option Entry) (b : Bool) (p n k from sig free : ℕ) (pars : List ℕ) (g gs : List Told)
    → stage_after sys o g (stage.Given p k sig) ≡ Some (end_of b) → IsApart sys o now (told_new p n k from sig pars free ∷ (g ++ gs))
unfolding stage_after publish_next
block-apart sys o now true p n k from sig free pars [] gs h = absurd (cc)
block-apart sys o now false p n k from sig free pars [] gs h = absurd (cc)
block-apart sys o now b p n k from sig free pars (t ∷ ts) gs h =
    let step = run-step sys o t ts (stage.Given p k sig) (end_of b) h in
    let is = given-is p k sig t step.0 step.1 in
    subst (λ u. IsApart sys o now (told_new p n k from sig pars free ∷ u ∷ (ts ++ gs))) (sym is.1)
    (made-apart sys o now b p n k from sig free is.0 pars ts gs (subst (λ x. stage_after sys o ts x ≡ Some (end_of b)) is.2 step.2))

-- a publication, whole or cut, begins with neither a unit nor a single call that asserts
pub run-apart : (sys : System) (o : ℕ) (now : Option Entry) (b : Bool) (g gs : List Told) → stage_after sys o g stage.Start ≡ Some (end_of b)
    → (behind_unit sys o now (g ++ gs) ≡ None) × (behind_assertion sys o now (g ++ gs) ≡ None)
unfolding stage_after publish_next IsApart
run-apart sys o now true [] gs h = absurd (cc)
run-apart sys o now false [] gs h = absurd (cc)
run-apart sys o now b (t ∷ ts) gs h = let step = run-step sys o t ts stage.Start (end_of b) h in by step.0 (start-is sys o t step.0 step.1) step.2
  where
    by : (x : PublishStage) → StartRecord sys o t x → stage_after sys o ts x ≡ Some (end_of b) → (behind_unit sys o now (t ∷ (ts ++ gs)) ≡ None) × (behind_assertion sys o now (t ∷ (ts ++ gs)) ≡ None)
    by x (OfBlock p n k from sig free pars t_is above goes pooled x_is) h =
        subst (λ u. IsApart sys o now (u ∷ (ts ++ gs))) (sym t_is) (block-apart sys o now b p n k from sig free pars ts gs (subst (λ y. stage_after sys o ts y ≡ Some (end_of b)) x_is h))
    by x (OfSet sig n set t_is fixed x_is) h = subst (λ u. IsApart sys o now (u ∷ (ts ++ gs))) (sym t_is) (shown-apart sys o now sig n set (ts ++ gs))
