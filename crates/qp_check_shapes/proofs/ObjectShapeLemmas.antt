-- An object's shape is tested part by part.
use Rattle.std.proofs.Common.{◌≡◌, ℕ, suc, ◌<◌, Bool, true, false, ◌⊎◌, inl, inr, List, [], ◌∷◌, ◌++◌, length, IsTrue, Some, None, refl, sym, ◌∙◌, ap, subst, arith}
use Rattle.std.proofs.lemmas.Bool.{eqb-true}
use Rattle.qp_check_calls.specs.Decides.{Decides}
use Rattle.qp_model.specs.declared.systems.System.{System}
use Rattle.qp_model.specs.declared.bodies.Entry.{Entry}
use Rattle.qp_model.specs.Told.{Told}
use Rattle.qp_model.specs.Shapes.{Drops}
use Rattle.qp_model.specs.Course.{Cut, Whole, Stopped, Anywhere}
use Rattle.qp_model.specs.ObjectShape.{CutGroups, HasShape, nothing_after, asserts_last}
use Rattle.qp_model.specs.Ends.{is_assert}
use Rattle.qp_check_shapes.specs.ShapeAction.{IsWhole}
use Rattle.qp_check_shapes.specs.GroupsRead.{Breaks}
use Rattle.qp_check_shapes.specs.GroupsLast.{LastOf, start_cut, is_anywhere, is_cut, is_unbegun, group_kinds}
use Rattle.qp_check_shapes.specs.ObjectRead.{IsObjectList, IsStartEnd}
use Rattle.qp_check_shapes.specs.ObjectFirst.{behind_begin}
use Rattle.qp_check_shapes.proofs.ShapeReleaseLemmas.{release-whole}
use Rattle.qp_check_shapes.specs.ShapeRelease.{behind_release}
use Rattle.qp_check_shapes.proofs.GroupsDecideLemmas.{decides-as}
use Rattle.qp_check_shapes.proofs.GroupsEndLemmas.{empty-is}
use Rattle.qp_check_shapes.proofs.GroupsLawLemmas.{whole-parts, last-lasts}
use Rattle.qp_check_shapes.proofs.ObjectReadLemmas.{KindLaws}
use Rattle.qp_check_shapes.proofs.ObjectTestLemmas.{decides-by, object-decided, object-not}
use Rattle.qp_check_shapes.proofs.ObjectCutLemmas.{cut-object, whole-object, object-cut, empty-cut}

release-unique : (e : Entry) (g gs h hs : List Told) → Drops e g → Drops e h → g ++ gs ≡ h ++ hs → gs ≡ hs
release-unique e g gs h hs x y is =
    let one : behind_release e (g ++ gs) ≡ Some gs = release-whole e g gs x in
    let two : behind_release e (h ++ hs) ≡ Some hs = release-whole e h hs y in
    let both : behind_release e (g ++ gs) ≡ behind_release e (h ++ hs) = ap (behind_release e) is in cc

pub kind-laws : (sys : System) (o : ℕ) (cut : Cut) → KindLaws (group_kinds sys o cut)
kind-laws sys o cut = record { acts = whole-parts sys o; lasts = last-lasts sys o cut; firsts = last-lasts sys o (start_cut cut) None; releases = release-unique }

-- a list that isn't cut is not cut anywhere
pub uncut-nowhere : (cut : Cut) → is_cut cut ≡ false → is_anywhere cut ≡ false
uncut-nowhere Whole h = refl
uncut-nowhere Stopped h = absurd (cc)
uncut-nowhere Anywhere h = absurd (cc)

-- a start's break, where it may break off
pub break-decided : (P : Type 0) (cuts b : Bool) → cuts ≡ true → Decides b P → Decides b (IsTrue cuts × P)
break-decided P cuts b on d = decides-as P (IsTrue cuts × P) b (λ p. (on, p)) (λ h. h.1) d

pub break-not : (P : Type 0) (cuts : Bool) → cuts ≡ false → Decides false (IsTrue cuts × P)
unfolding Decides
break-not P cuts uncut = λ h. let on : cuts ≡ true = h.0 in cc

-- a start's break by its own cut
pub first-decided : (sys : System) (o : ℕ) (cut first : Cut) (told : List Told) (b : Bool) → first ≡ start_cut cut → Decides b (Breaks (IsWhole sys o None) (LastOf sys o first None) told)
    → Decides b (Breaks (IsWhole sys o None) (LastOf sys o (start_cut cut) None) told)
first-decided sys o cut first told b is d = subst (λ x. Decides b (Breaks (IsWhole sys o None) (LastOf sys o x None) told)) is d

pub groups-decided : (sys : System) (o : ℕ) (nils : Bool) (cut : Cut) (told rest : List Told) (b : Bool) → Some rest ≡ behind_begin told → Decides b (IsStartEnd (group_kinds sys o cut) nils rest)
    → Decides b (CutGroups sys o nils cut told)
groups-decided sys o nils cut told rest b begins d =
    decides-as (IsObjectList (group_kinds sys o cut) nils told) (CutGroups sys o nils cut told) b (object-cut sys o nils cut told) (λ h. by (cut-object sys o nils cut told h))
    (object-decided (group_kinds sys o cut) nils told rest b begins d)
  where
    by : (told ≡ []) ⊎ IsObjectList (group_kinds sys o cut) nils told → IsObjectList (group_kinds sys o cut) nils told
    by (inl none) = let no_begin : behind_begin told ≡ None = ap behind_begin none in absurd (cc)
    by (inr h) = h

pub unbegun-decided : (sys : System) (o : ℕ) (nils : Bool) (cut : Cut) (told : List Told) (b : Bool) → None ≡ behind_begin told → b ≡ is_unbegun cut told → Decides b (CutGroups sys o nils cut told)
unfolding CutGroups
unbegun-decided sys o nils cut told b none is = decides-by (CutGroups sys o nils cut told) b (λ h. sound cut (sym is ∙ h)) (λ h. is ∙ whole cut (by (cut-object sys o nils cut told h)) h)
  where
    by : (told ≡ []) ⊎ IsObjectList (group_kinds sys o cut) nils told → told ≡ []
    by (inl e) = e
    by (inr h) = absurd (object-not (group_kinds sys o cut) nils told none h)

    sound : (cut : Cut) → is_unbegun cut told ≡ true → CutGroups sys o nils cut told
    sound Whole h = absurd (cc)
    sound Stopped h = empty-cut sys o nils Stopped told (empty-is told (eqb-true (length told) 0 h)) (λ k. cc)
    sound Anywhere h = empty-cut sys o nils Anywhere told (empty-is told (eqb-true (length told) 0 h)) (λ k. cc)

    whole : (cut : Cut) → told ≡ [] → CutGroups sys o nils cut told → is_unbegun cut told ≡ true
    whole Whole e h = absurd (object-not (group_kinds sys o Whole) nils told none (whole-object sys o nils told h))
    whole Stopped e h = ap (is_unbegun Stopped) e
    whole Anywhere e h = ap (is_unbegun Anywhere) e

-- the groups and what stands last
pub shape-decided : (sys : System) (o : ℕ) (nils : Bool) (cut : Cut) (told : List Told) (b : Bool) → asserts_last told ≡ true → Decides b (CutGroups sys o nils cut told) → Decides b (HasShape sys o nils cut told)
shape-decided sys o nils cut told b last d =
    decides-as (CutGroups sys o nils cut told) (HasShape sys o nils cut told) b (λ g. record { groups = g; last = last }) (λ h. h.groups) d

pub shape-not : (sys : System) (o : ℕ) (nils : Bool) (cut : Cut) (told : List Told) → asserts_last told ≡ false → Decides false (HasShape sys o nils cut told)
unfolding Decides
shape-not sys o nils cut told not_last = λ h. let last : asserts_last told ≡ true = h.last in cc

-- one record and those behind it
pub last-more : (left : List Told) (t : Told) (ts : List Told) (asserted : Bool) → left ≡ t ∷ ts → asserted ≡ is_assert t.body → true ≡ nothing_after asserted ts → asserts_last left ≡ asserts_last ts
unfolding asserts_last
last-more left t ts asserted is tells test =
    let passes : nothing_after (is_assert t.body) ts ≡ true = ap (λ b. nothing_after b ts) (sym tells) ∙ sym test in ap asserts_last is ∙ rw passes refl

pub last-no : (left : List Told) (t : Told) (ts : List Told) (asserted : Bool) → left ≡ t ∷ ts → asserted ≡ is_assert t.body → false ≡ nothing_after asserted ts → asserts_last left ≡ false
unfolding asserts_last
last-no left t ts asserted is tells test =
    let fails : nothing_after (is_assert t.body) ts ≡ false = ap (λ b. nothing_after b ts) (sym tells) ∙ sym test in ap asserts_last is ∙ rw fails refl

pub last-none : (left : List Told) → length left ≡ 0 → asserts_last left ≡ true
unfolding asserts_last
last-none left none = ap asserts_last (empty-is left none)

pub last-shorter : (left : List Told) (t : Told) (ts : List Told) → left ≡ t ∷ ts → length ts < length left
last-shorter left t ts is = let long : length left ≡ suc (length ts) = ap length is in omega arith
