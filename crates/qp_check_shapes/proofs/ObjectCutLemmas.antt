-- An object's list as it is defined with its cut, and as it is read.
use Rattle.std.proofs.Common.{◌≡◌, ℕ, zero, suc, Bool, true, false, ◌⊎◌, inl, inr, List, [], ◌∷◌, ◌++◌, None, refl, sym, ◌∙◌, ap, subst, append_assoc, append-nil}
use Rattle.std.specs.declared.option.Option.{Option}
use Rattle.qp_model.specs.declared.systems.System.{System}
use Rattle.qp_model.specs.declared.bodies.Entry.{Entry}
use Rattle.qp_model.specs.Told.{Told, dropped}
use Rattle.qp_model.specs.Calls as call
use Rattle.qp_model.specs.Shapes.{FitsAny, Drops, releases_by}
use Rattle.qp_model.specs.Groups.{IsLast, Asserts, Stops, StopsInPublication}
use Rattle.qp_model.specs.Course.{Cut, Whole, Stopped, Anywhere}
use Rattle.qp_model.specs.ObjectShape.{CutGroups}
use Rattle.qp_model.proofs.ListLemmas.{nil-front}
use Rattle.qp_check_shapes.specs.ShapeAction.{IsWhole, IsCut}
use Rattle.qp_check_shapes.specs.ObjectRead.{IsObjectList}
use Rattle.qp_check_shapes.specs.GroupsLast.{LastOf, group_kinds}
use Rattle.qp_check_shapes.proofs.GroupsActionLemmas.{publish-either}
use Rattle.qp_check_shapes.proofs.GroupsFrontLemmas.{AnyFront}
use Rattle.qp_check_shapes.proofs.ObjectFrontLemmas.{CutLaws, object-front, object-back}
use Rattle.qp_check_shapes.proofs.ObjectDefinedLemmas.{object-of, of-object}
use Rattle.qp_check_shapes.proofs.GroupsEndLemmas.{cut-last}

-- a last has fronts
last-front : (sys : System) (o : ℕ) (now : Option Entry) (stops : Bool) (g m back : List Told) → IsLast sys o now stops g → g ≡ m ++ back → AnyFront (IsWhole sys o now) (IsCut sys o now) m
last-front sys o now stops g m back (Asserts x answer h asserts) is = inr (back, inr (x, answer, subst (FitsAny sys o now x answer) is h, asserts))
last-front sys o now stops g m back (Stops may none) is = inl (nil-front m back (sym (sym none ∙ is)))
last-front sys o now stops g m back (StopsInPublication sig pars reserve answer more may h ends) is =
    inr (
      back ++ more,
      publish-either sys o now sig pars reserve answer (m ++ (back ++ more))
          (subst (FitsAny sys o now (call.Publish sig pars reserve) answer) (ap (λ us. us ++ more) is ∙ append_assoc m back more) h),
    )

-- each entry can be released
pub released : (e : Entry) → (rel : List Told) × Drops e rel
unfolding Drops releases_by
released e = by e.pool
  where
    by : (p : ℕ) → (rel : List Told) × releases_by p e rel
    by zero = ([], refl)
    by (suc p) = (dropped e.pool e.block 0 e.name 1 ∷ [], inl (0, 0, refl))

cut-laws : (sys : System) (o : ℕ) → CutLaws (IsWhole sys o) (IsCut sys o) (λ now. IsLast sys o now true) (IsLast sys o None false) Drops
cut-laws sys o = record {
  last = λ now. last-front sys o now true;
  first = last-front sys o None false;
  cuts = λ now. cut-last sys o now true;
  begins = cut-last sys o None false;
  released = released;
}

-- a list is one by its cut where it is empty, or is read so
pub cut-object : (sys : System) (o : ℕ) (nils : Bool) (cut : Cut) (bs : List Told) → CutGroups sys o nils cut bs → (bs ≡ []) ⊎ IsObjectList (group_kinds sys o cut) nils bs
unfolding CutGroups LastOf
cut-object sys o nils Whole bs h = inr (object-of sys o nils false bs h)
cut-object sys o nils Stopped bs (inl none) = inl none
cut-object sys o nils Stopped bs (inr h) = inr (object-of sys o nils true bs h)
cut-object sys o nils Anywhere bs (back, inl none) = inl (front bs none)
  where
    front : (bs : List Told) → bs ++ back ≡ [] → bs ≡ []
    front [] is = refl
    front (t ∷ ts) is = absurd (cc)
cut-object sys o nils Anywhere bs (back, inr h) =
    object-front (IsWhole sys o) (IsCut sys o) (λ now. IsLast sys o now true) (IsLast sys o None false) Drops (cut-laws sys o) nils bs back (object-of sys o nils true (bs ++ back) h)

pub whole-object : (sys : System) (o : ℕ) (nils : Bool) (bs : List Told) → CutGroups sys o nils Whole bs → IsObjectList (group_kinds sys o Whole) nils bs
unfolding CutGroups LastOf
whole-object sys o nils bs h = object-of sys o nils false bs h

pub object-cut : (sys : System) (o : ℕ) (nils : Bool) (cut : Cut) (bs : List Told) → IsObjectList (group_kinds sys o cut) nils bs → CutGroups sys o nils cut bs
unfolding CutGroups LastOf
object-cut sys o nils Whole bs h = of-object sys o nils false bs h
object-cut sys o nils Stopped bs h = inr (of-object sys o nils true bs h)
object-cut sys o nils Anywhere bs h =
    let whole = object-back (IsWhole sys o) (IsCut sys o) (λ now. IsLast sys o now true) (IsLast sys o None false) Drops (cut-laws sys o) nils bs h in
    (whole.0, inr (of-object sys o nils true (bs ++ whole.0) whole.1))

-- no records are such a list where it may stop
pub empty-cut : (sys : System) (o : ℕ) (nils : Bool) (cut : Cut) (bs : List Told) → bs ≡ [] → (cut ≡ Whole → ⊥) → CutGroups sys o nils cut bs
unfolding CutGroups
empty-cut sys o nils Whole bs none open_cut = absurd (open_cut refl)
empty-cut sys o nils Stopped bs none open_cut = inl none
empty-cut sys o nils Anywhere bs none open_cut = ([], inl (append-nil bs ∙ none))
