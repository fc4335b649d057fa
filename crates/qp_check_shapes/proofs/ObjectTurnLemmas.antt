-- What the first records of an object's turns tell, and what stands behind these.
use Rattle.std.proofs.Common.{◌≡◌, ℕ, Bool, true, ◌&&◌, List, [], ◌∷◌, ◌++◌, Some, None, refl, sym, ◌∙◌, ap, subst, append_assoc}
use Rattle.std.specs.declared.option.Option.{Option}
use Rattle.std.proofs.lemmas.Bool.{and_parts, false≢true}
use Rattle.std.proofs.lemmas.Option.{none-some}
use Rattle.qp_model.specs.declared.bodies.Entry.{Entry}
use Rattle.qp_model.specs.declared.bodies.Body.{Body}
use Rattle.qp_model.specs.declared.bodies.Body.TheVariants as item
use Rattle.qp_model.specs.Told.{Told, Known, Nothing, plain}
use Rattle.qp_model.specs.ObjectShape.{StepHead, is_head, takes}
use Rattle.qp_check_shapes.specs.ShapeRelease.{IsUnambiguous}
use Rattle.qp_check_shapes.specs.GroupsRead.{ReadsAll, IsElement, is_close, is_outer}
use Rattle.qp_check_shapes.specs.GroupsFirst.{behind_done}
use Rattle.qp_check_shapes.specs.ObjectRead.{GroupsThenDone, looks_at_queue, IsTurnOf, Steps, Finds}
use Rattle.qp_check_shapes.specs.ObjectFirst.{taken_first, entry_taken_first, tells_head, behind_head, look_first, behind_look, begin_first, behind_begin}
use Rattle.qp_check_shapes.proofs.ShapeReleaseLemmas.{when-passed}
use Rattle.qp_check_shapes.proofs.GroupsReadLemmas.{Parts, reads-close}
use Rattle.qp_check_shapes.proofs.GroupsElementLemmas.{element-parts}
use Rattle.qp_check_shapes.proofs.GroupsFirstLemmas.{leaves-at, leaves-sound, leaves-whole, done-is}
use Rattle.qp_check_shapes.proofs.NeverLemmas.{some-none}
use Rattle.qp_model.proofs.RecordLemmas.{told-is}

pub taken-is : (t : Told) (e : Entry) → taken_first t.body t.known ≡ Some e → (f l m : ℕ) × (known : Known) × (t ≡ takes f l m e known)
taken-is t e h = by t.body refl h
  where
    by : (body : Body) → t.body ≡ body → taken_first body t.known ≡ Some e → (f l m : ℕ) × (known : Known) × (t ≡ takes f l m e known)
    by (item.Took f l m d) is_body h =
        let same : d ≡ e = cc in
        let whole : t ≡ takes f l m d t.known = told-is t _ _ is_body refl in
        (f, l, m, t.known, whole ∙ ap (λ x. takes f l m x t.known) same)
    by body is_body h = absurd (none-some _ h)

head-tells : (t : Told) → tells_head t.body t.known ≡ true → (b : Body) × (is_head b ≡ true) × (t ≡ plain b)
head-tells t h = by t.known refl h
  where
    by : (known : Known) → t.known ≡ known → tells_head t.body known ≡ true → (b : Body) × (is_head b ≡ true) × (t ≡ plain b)
    by Nothing is h = (t.body, h, told-is t t.body Nothing refl is)
    by known is h = absurd (false≢true h)

-- the first two records of a step
pub step-is : (told body : List Told) (e : Entry) → entry_taken_first told ≡ Some e → behind_head told ≡ Some body → (head : List Told) × StepHead e head × (told ≡ head ++ body)
unfolding StepHead
step-is [] body e h k = absurd (cc)
step-is (t ∷ []) body e h k = absurd (cc)
step-is (t ∷ u ∷ rest) body e h k =
    let first = taken-is t e h in
    let test = when-passed (tells_head u.body u.known) rest body k in
    let second = head-tells u test.0 in
    let one : t ≡ takes first.0 first.1 first.2 e first.3 = first.4 in
    let two : u ≡ plain second.0 = second.2 in
    let behind : rest ≡ body = test.1 in (
      t ∷ u ∷ [],
      (first.0, first.1, first.2, first.3, second.0, second.1, ap (λ x. x ∷ u ∷ []) one ∙ ap (λ x. takes first.0 first.1 first.2 e first.3 ∷ x ∷ []) two),
      ap (λ us. t ∷ u ∷ us) behind,
    )

pub step-told : (e : Entry) (head body : List Told) → StepHead e head → (entry_taken_first (head ++ body) ≡ Some e) × (behind_head (head ++ body) ≡ Some body)
unfolding StepHead
step-told e head body h =
    subst (λ us. (entry_taken_first (us ++ body) ≡ Some e) × (behind_head (us ++ body) ≡ Some body)) (sym h.6) (refl, passes h.4 h.5)
  where
    passes : (b : Body) → is_head b ≡ true → behind_head ((takes h.0 h.1 h.2 e h.3 ∷ plain b ∷ []) ++ body) ≡ Some body
    passes b is = rw is refl

-- groups, `done`, and more
pub closes-leaves : (W D : List Told → Type 0) → Parts is_outer W → (told rest more : List Told) (r : Option (List Told)) → ReadsAll (IsElement W) told rest → Some more ≡ behind_done rest
    → IsUnambiguous D more r → IsUnambiguous (GroupsThenDone W D) told r
unfolding GroupsThenDone
closes-leaves W D laws told rest more r reads done l = leaves-at (GroupsThenDone W D) told r sound whole
  where
    first : rest ≡ plain item.Done ∷ more
    first = done-is rest more (sym done)

    sound : (left : List Told) → r ≡ Some left → (g : List Told) × GroupsThenDone W D g × (told ≡ g ++ left)
    sound left is =
        let d = leaves-sound D more r l left is in (
          reads.whole ++ (plain item.Done ∷ d.0),
          (reads.whole, d.0, reads.parts, d.1, refl),
          reads.is ∙ ap (λ us. reads.whole ++ us) (first ∙ ap (λ us. plain item.Done ∷ us) d.2) ∙ sym (append_assoc reads.whole (plain item.Done ∷ d.0) left),
        )

    whole : (g other : List Told) → told ≡ g ++ other → GroupsThenDone W D g → r ≡ Some other
    whole g other is c =
        let close : rest ≡ plain item.Done ∷ (c.1 ++ other) =
        reads-close is_close (IsElement W) (element-parts W laws) told rest reads c.0 (plain item.Done) (c.1 ++ other) c.2 refl
        (is ∙ ap (λ us. us ++ other) c.4 ∙ append_assoc c.0 (plain item.Done ∷ c.1) other) in
        let both : plain item.Done ∷ more ≡ plain item.Done ∷ (c.1 ++ other) = sym first ∙ close in
        let behind : more ≡ c.1 ++ other = cc in
        leaves-whole D more r l c.1 other behind c.3

pub closes-none : (W D : List Told → Type 0) → Parts is_outer W → (told rest : List Told) → ReadsAll (IsElement W) told rest → None ≡ behind_done rest → IsUnambiguous (GroupsThenDone W D) told None
unfolding GroupsThenDone
closes-none W D laws told rest reads none = leaves-at (GroupsThenDone W D) told None (λ left is. absurd (cc)) whole
  where
    whole : (g other : List Told) → told ≡ g ++ other → GroupsThenDone W D g → None ≡ Some other
    whole g other is c =
        let close : rest ≡ plain item.Done ∷ (c.1 ++ other) =
        reads-close is_close (IsElement W) (element-parts W laws) told rest reads c.0 (plain item.Done) (c.1 ++ other) c.2 refl
        (is ∙ ap (λ us. us ++ other) c.4 ∙ append_assoc c.0 (plain item.Done ∷ c.1) other) in
        let some : behind_done rest ≡ Some (c.1 ++ other) = ap behind_done close in absurd (cc)

look-entry : (b : Body) (told rest : List Told) → looks_at_queue b ≡ true → told ≡ plain b ∷ rest → entry_taken_first told ≡ None
look-entry b told rest look is = ap entry_taken_first is ∙ by b look
  where
    by : (b : Body) → looks_at_queue b ≡ true → entry_taken_first (plain b ∷ rest) ≡ None
    by (item.Nil f l m) look = refl
    by (item.Seen p f l m) look = refl
    by b look = absurd (false≢true look)

-- a step in front of a list
turn-steps : (act : Option Entry → List Told → Type 0) (release : Entry → List Told → Type 0) (nils : Bool) (told g other : List Told) (e : Entry) → entry_taken_first told ≡ Some e
    → IsTurnOf act release nils g → told ≡ g ++ other → (body : List Told) × GroupsThenDone (act (Some e)) (release e) body × (behind_head told ≡ Some (body ++ other))
turn-steps act release nils told g other e h (Finds b look n k) is =
    let none : entry_taken_first told ≡ None = look-entry b told other look (is ∙ ap (λ us. us ++ other) k) in absurd (cc)
turn-steps act release nils told g other e h (Steps d head body s c k) is =
    let all : told ≡ head ++ (body ++ other) = is ∙ ap (λ us. us ++ other) k ∙ append_assoc head body other in
    let tells = step-told d head (body ++ other) s in
    let entry : entry_taken_first told ≡ Some d = ap entry_taken_first all ∙ tells.0 in
    let same : d ≡ e = cc in
    (body, subst (λ x. GroupsThenDone (act (Some x)) (release x) body) same c, ap behind_head all ∙ tells.1)

pub turn-body : (act : Option Entry → List Told → Type 0) (release : Entry → List Told → Type 0) (nils : Bool) (told body : List Told) (e : Entry) (r : Option (List Told))
    → Some e ≡ entry_taken_first told → Some body ≡ behind_head told → IsUnambiguous (GroupsThenDone (act (Some e)) (release e)) body r → IsUnambiguous (IsTurnOf act release nils) told r
turn-body act release nils told body e r taken_is head_is l = leaves-at (IsTurnOf act release nils) told r sound whole
  where
    sound : (left : List Told) → r ≡ Some left → (g : List Told) × IsTurnOf act release nils g × (told ≡ g ++ left)
    sound left is =
        let step = step-is told body e (sym taken_is) (sym head_is) in
        let close = leaves-sound (GroupsThenDone (act (Some e)) (release e)) body r l left is in
        (step.0 ++ close.0, Steps e step.0 close.0 step.1 close.1 refl, step.2 ∙ ap (λ us. step.0 ++ us) close.2 ∙ sym (append_assoc step.0 close.0 left))

    whole : (g other : List Told) → told ≡ g ++ other → IsTurnOf act release nils g → r ≡ Some other
    whole g other is t =
        let step = turn-steps act release nils told g other e (sym taken_is) t is in
        let both : Some body ≡ Some (step.0 ++ other) = head_is ∙ step.2 in
        let behind : body ≡ step.0 ++ other = cc in
        leaves-whole (GroupsThenDone (act (Some e)) (release e)) body r l step.0 other behind step.1

pub turn-headless : (act : Option Entry → List Told → Type 0) (release : Entry → List Told → Type 0) (nils : Bool) (told : List Told) (e : Entry)
    → Some e ≡ entry_taken_first told → None ≡ behind_head told → IsUnambiguous (IsTurnOf act release nils) told None
turn-headless act release nils told e taken_is none = leaves-at (IsTurnOf act release nils) told None (λ left is. absurd (cc)) whole
  where
    whole : (g other : List Told) → told ≡ g ++ other → IsTurnOf act release nils g → None ≡ Some other
    whole g other is t =
        let step = turn-steps act release nils told g other e (sym taken_is) t is in
        let both : None ≡ Some (step.0 ++ other) = none ∙ step.2 in absurd (cc)

look-is : (nils : Bool) (told rest : List Told) → behind_look nils told ≡ Some rest → (b : Body) × (looks_at_queue b ≡ true) × (nils ≡ true) × (told ≡ plain b ∷ rest)
look-is nils [] rest h = absurd (cc)
look-is nils (t ∷ ts) rest h = by t.known refl h
  where
    by : (known : Known) → t.known ≡ known → look_first nils t.body known ts ≡ Some rest → (b : Body) × (looks_at_queue b ≡ true) × (nils ≡ true) × (t ∷ ts ≡ plain b ∷ rest)
    by Nothing is_known h =
        let test = when-passed (looks_at_queue t.body && nils) ts rest h in
        let tests = and_parts (looks_at_queue t.body) nils test.0 in
        let whole : t ≡ plain t.body = told-is t _ _ refl is_known in
        let behind : ts ≡ rest = test.1 in
        (t.body, tests.0, tests.1, ap (λ u. u ∷ ts) whole ∙ ap (λ us. plain t.body ∷ us) behind)
    by known is_known h = absurd (none-some _ h)

pub turn-look : (act : Option Entry → List Told → Type 0) (release : Entry → List Told → Type 0) (nils : Bool) (told : List Told) (r : Option (List Told))
    → None ≡ entry_taken_first told → r ≡ behind_look nils told → IsUnambiguous (IsTurnOf act release nils) told r
turn-look act release nils told r none r_is = leaves-at (IsTurnOf act release nils) told r sound whole
  where
    sound : (left : List Told) → r ≡ Some left → (g : List Told) × IsTurnOf act release nils g × (told ≡ g ++ left)
    sound left is = let found = look-is nils told left (sym r_is ∙ is) in (plain found.0 ∷ [], Finds found.0 found.1 found.2 refl, found.3)

    whole : (g other : List Told) → told ≡ g ++ other → IsTurnOf act release nils g → r ≡ Some other
    whole g other is (Finds b look n k) =
        let all : told ≡ plain b ∷ other = is ∙ ap (λ us. us ++ other) k in
        r_is ∙ ap (behind_look nils) all ∙ rw (look, n) refl
    whole g other is (Steps d head body s c k) =
        let all : told ≡ head ++ (body ++ other) = is ∙ ap (λ us. us ++ other) k ∙ append_assoc head body other in
        let tells = step-told d head (body ++ other) s in
        let entry : entry_taken_first told ≡ Some d = ap entry_taken_first all ∙ tells.0 in absurd (cc)

pub begin-is : (told rest : List Told) → Some rest ≡ behind_begin told → told ≡ plain item.Begin ∷ rest
begin-is [] rest h = absurd (cc)
begin-is (t ∷ ts) rest h = by t.body t.known refl refl h
  where
    by : (body : Body) (known : Known) → t.body ≡ body → t.known ≡ known → Some rest ≡ begin_first body known ts → t ∷ ts ≡ plain item.Begin ∷ rest
    by item.Begin Nothing is_body is_known h = let whole : t ≡ plain item.Begin = told-is t _ _ is_body is_known in let behind : ts ≡ rest = cc in cc
    by body known is_body is_known h = absurd (some-none h)
