-- What the first record of a list tells of the group in front, and what stands behind it.
use Rattle.std.proofs.Common.{◌≡◌, ℕ, nat_le, max, Bool, true, false, cond, List, [], ◌∷◌, ◌++◌, Some, None, refl, sym, ◌∙◌, ap, subst, append_assoc, arith}
use Rattle.std.proofs.lemmas.Bool.{eqb-true, false≢true}
use Rattle.std.proofs.lemmas.Bool.Decides.{nat_tests}
use Rattle.std.specs.declared.option.Option.{Option}
use Rattle.std.proofs.lemmas.Option.{none-some}
use Rattle.qp_model.specs.declared.bodies.Body.{Body}
use Rattle.qp_model.specs.declared.bodies.Body.TheVariants as item
use Rattle.qp_model.specs.Told.{Told, Known, Nothing, Former, plain, raised}
use Rattle.qp_model.specs.Groups.{is_move}
use Rattle.qp_check_shapes.specs.ShapeRelease.{IsUnambiguous}
use Rattle.qp_check_shapes.specs.GroupsRead.{ReadsAll, IsElement, Notes, Acts, Locks, is_outer}
use Rattle.qp_check_shapes.specs.GroupsFirst.{is_told_move, former_of, unlock_first, behind_unlock, done_first, behind_done}
use Rattle.qp_check_shapes.proofs.ShapeReleaseLemmas.{when-passed}
use Rattle.qp_check_shapes.proofs.GroupsReadLemmas.{Parts, reads-close}
use Rattle.qp_check_shapes.proofs.GroupsElementLemmas.{element-parts}
use Rattle.qp_model.proofs.RecordLemmas.{told-is}
use Rattle.qp_model.proofs.LineLemmas.{same_number}

-- what a reader answers at one list, where it answers that behind each such list in front, and only there
pub leaves-at : (P : List Told → Type 0) (told : List Told) (r : Option (List Told))
    → ((rest : List Told) → r ≡ Some rest → (g : List Told) × P g × (told ≡ g ++ rest))
    → ((g other : List Told) → told ≡ g ++ other → P g → r ≡ Some other)
    → IsUnambiguous P told r
unfolding IsUnambiguous
leaves-at P told None sound whole = λ g rest is h. let e : None ≡ Some rest = whole g rest is h in cc
leaves-at P told (Some rest) sound whole = (sound rest refl, λ g other is h. let e : Some rest ≡ Some other = whole g other is h in cc)

-- what is left where all parts are read, as an answer
pub leaves-sound : (P : List Told → Type 0) (told : List Told) (r : Option (List Told)) → IsUnambiguous P told r → (rest : List Told) → r ≡ Some rest → (g : List Told) × P g × (told ≡ g ++ rest)
unfolding IsUnambiguous
leaves-sound P told None l rest is = absurd (cc)
leaves-sound P told (Some left) l rest is = let same : left ≡ rest = cc in (l.0.0, l.0.1, l.0.2 ∙ ap (λ us. l.0.0 ++ us) same)

pub leaves-whole : (P : List Told → Type 0) (told : List Told) (r : Option (List Told)) → IsUnambiguous P told r → (g other : List Told) → told ≡ g ++ other → P g → r ≡ Some other
unfolding IsUnambiguous
leaves-whole P told None l g other is h = absurd (l g other is h)
leaves-whole P told (Some left) l g other is h = ap (λ us. Some us) (sym (l.1 g other is h))

-- no part stands in front of no records
pub none-empty : (P : List Told → Type 0) → (P [] → ⊥) → IsUnambiguous P [] None
unfolding IsUnambiguous
none-empty P filled = λ g rest is h. by g rest is h
  where
    by : (g rest : List Told) → [] ≡ g ++ rest → P g → ⊥
    by [] rest is h = filled h
    by (t ∷ ts) rest is h = cc

-- the first record of a note
note-is : (t : Told) → is_told_move t.body t.known ≡ true → (b : Body) × (is_move b ≡ true) × (t ≡ plain b)
note-is t h = by t.known refl h
  where
    by : (known : Known) → t.known ≡ known → is_told_move t.body known ≡ true → (b : Body) × (is_move b ≡ true) × (t ≡ plain b)
    by Nothing is h = (t.body, h, told-is t t.body Nothing refl is)
    by known is h = absurd (false≢true h)

pub note-leaves : (W : List Told → Type 0) → Parts is_outer W → (t : Told) (ts : List Told) → is_told_move t.body t.known ≡ true → IsUnambiguous (IsElement W) (t ∷ ts) (Some ts)
note-leaves W laws t ts h =
    let note = note-is t h in
    let one : IsElement W (t ∷ []) = Notes note.0 note.1 (ap (λ u. u ∷ []) note.2) in
    leaves-at (IsElement W) (t ∷ ts) (Some ts)
    (λ rest is. (t ∷ [], one, ap (λ us. t ∷ us) (let same : ts ≡ rest = cc in same)))
    (λ g other is q. ap (λ us. Some us) ((element-parts W laws).unique (t ∷ []) ts g other one q is))

pub former-raised : (t : Told) (f : ℕ) → former_of t.body t.known ≡ Some f → (c : ℕ) × (t ≡ raised (max f c) f)
former-raised t f h = by t.body t.known refl refl h
  where
    highest : (former ceiling : ℕ) → nat_le former ceiling ≡ true → max former ceiling ≡ ceiling
    highest former ceiling h = grind (arith, nat_tests)

    at : (former ceiling : ℕ) (test : Bool) → nat_le former ceiling ≡ test → t ≡ raised ceiling former → cond test (Some former) None ≡ Some f → (c : ℕ) × (t ≡ raised (max f c) f)
    at former ceiling true le is h =
        let same : former ≡ f = cc in
        (ceiling, is ∙ ap (λ x. raised x former) (sym (highest former ceiling le)) ∙ ap (λ x. raised (max x ceiling) x) same)
    at former ceiling false le is h = absurd (cc)

    by : (body : Body) (known : Known) → t.body ≡ body → t.known ≡ known → former_of body known ≡ Some f → (c : ℕ) × (t ≡ raised (max f c) f)
    by (item.Lock ceiling) (Former former) is_body is_known h = at former ceiling (nat_le former ceiling) refl (told-is t _ _ is_body is_known) h
    by body known is_body is_known h = absurd (none-some _ h)

pub raised-former : (f c : ℕ) → former_of (raised (max f c) f).body (raised (max f c) f).known ≡ Some f
raised-former f c = let le : nat_le f (max f c) ≡ true = grind (arith, nat_tests) in rw le refl

unlock-is : (f : ℕ) (told rest : List Told) → behind_unlock f told ≡ Some rest → told ≡ plain (item.Unlock f) ∷ rest
unlock-is f [] rest h = absurd (cc)
unlock-is f (t ∷ ts) rest h = by t.body t.known refl refl h
  where
    by : (body : Body) (known : Known) → t.body ≡ body → t.known ≡ known → unlock_first f body known ts ≡ Some rest → t ∷ ts ≡ plain (item.Unlock f) ∷ rest
    by (item.Unlock c) Nothing is_body is_known h =
        let test = when-passed _ ts rest h in
        let same : c ≡ f = eqb-true c f test.0 in
        let whole : t ≡ plain (item.Unlock c) = told-is t _ _ is_body is_known in
        let behind : ts ≡ rest = test.1 in cc
    by body known is_body is_known h = absurd (none-some _ h)

pub done-is : (told rest : List Told) → behind_done told ≡ Some rest → told ≡ plain item.Done ∷ rest
done-is [] rest h = absurd (cc)
done-is (t ∷ ts) rest h = by t.body t.known refl refl h
  where
    by : (body : Body) (known : Known) → t.body ≡ body → t.known ≡ known → done_first body known ts ≡ Some rest → t ∷ ts ≡ plain item.Done ∷ rest
    by item.Done Nothing is_body is_known h = let whole : t ≡ plain item.Done = told-is t _ _ is_body is_known in cc
    by body known is_body is_known h = absurd (none-some _ h)

-- actions under a raised ceiling, and then what restores it
pub locked-leaves : (W : List Told → Type 0) → Parts is_outer W → (t : Told) (ts rest : List Told) (f : ℕ) → former_of t.body t.known ≡ Some f → ReadsAll W ts rest
    → IsUnambiguous (IsElement W) (t ∷ ts) (behind_unlock f rest)
locked-leaves W laws t ts rest f h reads = leaves-at (IsElement W) (t ∷ ts) (behind_unlock f rest) sound whole
  where
    sound : (left : List Told) → behind_unlock f rest ≡ Some left → (g : List Told) × IsElement W g × (t ∷ ts ≡ g ++ left)
    sound left is =
        let lock = former-raised t f h in
        let unlock = unlock-is f rest left is in (
          t ∷ (reads.whole ++ (plain (item.Unlock f) ∷ [])),
          Locks f lock.0 reads.whole reads.parts (ap (λ u. u ∷ (reads.whole ++ (plain (item.Unlock f) ∷ []))) lock.1),
          ap (λ us. t ∷ us) (reads.is ∙ ap (λ us. reads.whole ++ us) unlock ∙ sym (append_assoc reads.whole (plain (item.Unlock f) ∷ []) left)),
        )

    whole : (g other : List Told) → t ∷ ts ≡ g ++ other → IsElement W g → behind_unlock f rest ≡ Some other
    whole g other is (Notes b k e) =
        let all : t ∷ ts ≡ plain b ∷ other = is ∙ ap (λ us. us ++ other) e in
        let first : t ≡ plain b = cc in
        let lock = former-raised t f h in
        let known : Former f ≡ Nothing = ap (λ (x : Told). x.known) (sym lock.1 ∙ first) in absurd (cc)
    whole g other is (Acts w) = acts g is w
      where
        acts : (g : List Told) → t ∷ ts ≡ g ++ other → W g → behind_unlock f rest ≡ Some other
        acts [] is w = absurd (laws.filled w)
        acts (u ∷ us) is w =
            let lock = former-raised t f h in
            let first : u ≡ t = cc in
            let lock_first : is_outer u.body ≡ true = subst (λ (x : Told). is_outer x.body ≡ true) (sym (first ∙ lock.1)) refl in absurd (laws.inner u us w lock_first)
    whole g other is (Locks k c inner s e) =
        let all : t ∷ ts ≡ raised (max k c) k ∷ ((inner ++ (plain (item.Unlock k) ∷ [])) ++ other) = is ∙ ap (λ us. us ++ other) e in
        let lock = former-raised t f h in
        let first : t ≡ raised (max k c) k = cc in
        let known : Former f ≡ Former k = ap (λ (x : Told). x.known) (sym lock.1 ∙ first) in
        let same : k ≡ f = cc in
        let tails : ts ≡ (inner ++ (plain (item.Unlock k) ∷ [])) ++ other = cc in
        let close : rest ≡ plain (item.Unlock k) ∷ other =
        reads-close is_outer W laws ts rest reads inner (plain (item.Unlock k)) other s refl (tails ∙ append_assoc inner (plain (item.Unlock k) ∷ []) other) in
        ap (behind_unlock f) close ∙ ap (λ x. behind_unlock f (plain (item.Unlock x) ∷ other)) same ∙ rw (same_number f) refl

-- an action, where the first record is no note and raises no ceiling
pub acts-leaves : (W : List Told → Type 0) → (t : Told) (ts : List Told) (r : Option (List Told)) → is_told_move t.body t.known ≡ false → former_of t.body t.known ≡ None
    → IsUnambiguous W (t ∷ ts) r → IsUnambiguous (IsElement W) (t ∷ ts) r
acts-leaves W t ts r not_note none l = leaves-at (IsElement W) (t ∷ ts) r sound whole
  where
    sound : (left : List Told) → r ≡ Some left → (g : List Told) × IsElement W g × (t ∷ ts ≡ g ++ left)
    sound left is = let act = leaves-sound W (t ∷ ts) r l left is in (act.0, Acts act.1, act.2)

    whole : (g other : List Told) → t ∷ ts ≡ g ++ other → IsElement W g → r ≡ Some other
    whole g other is (Acts w) = leaves-whole W (t ∷ ts) r l g other is w
    whole g other is (Notes b k e) =
        let all : t ∷ ts ≡ plain b ∷ other = is ∙ ap (λ us. us ++ other) e in
        let first : plain b ≡ t = cc in
        let test : is_told_move t.body t.known ≡ true = subst (λ (x : Told). is_told_move x.body x.known ≡ true) first k in absurd (cc)
    whole g other is (Locks f c inner s e) =
        let all : t ∷ ts ≡ raised (max f c) f ∷ ((inner ++ (plain (item.Unlock f) ∷ [])) ++ other) = is ∙ ap (λ us. us ++ other) e in
        let first : raised (max f c) f ≡ t = cc in
        let test : former_of t.body t.known ≡ Some f = subst (λ (x : Told). former_of x.body x.known ≡ Some f) first (raised-former f c) in absurd (cc)

-- the same, as the front's reader tells it
pub none-group : (P : List Told → Type 0) → (P [] → ⊥) → (told : List Told) → told ≡ [] → IsUnambiguous P told None
none-group P filled told is = subst (λ us. IsUnambiguous P us None) (sym is) (none-empty P filled)

pub note-group : (W : List Told → Type 0) → Parts is_outer W → (told : List Told) (t : Told) (ts : List Told) → told ≡ t ∷ ts → is_told_move t.body t.known ≡ true → IsUnambiguous (IsElement W) told (Some ts)
note-group W laws told t ts is h = subst (λ us. IsUnambiguous (IsElement W) us (Some ts)) (sym is) (note-leaves W laws t ts h)

pub locked-group : (W : List Told → Type 0) → Parts is_outer W → (told : List Told) (t : Told) (ts rest : List Told) (f : ℕ) (r : Option (List Told)) → told ≡ t ∷ ts → former_of t.body t.known ≡ Some f
    → ReadsAll W ts rest → r ≡ behind_unlock f rest → IsUnambiguous (IsElement W) told r
locked-group W laws told t ts rest f r is h reads behind =
    subst (λ us. IsUnambiguous (IsElement W) us r) (sym is) (subst (λ x. IsUnambiguous (IsElement W) (t ∷ ts) x) (sym behind) (locked-leaves W laws t ts rest f h reads))

pub acts-group : (W : List Told → Type 0) (told : List Told) (t : Told) (ts : List Told) (r : Option (List Told)) → told ≡ t ∷ ts → is_told_move t.body t.known ≡ false → former_of t.body t.known ≡ None
    → IsUnambiguous W told r → IsUnambiguous (IsElement W) told r
acts-group W told t ts r is not_note none l =
    subst (λ us. IsUnambiguous (IsElement W) us r) (sym is) (acts-leaves W t ts r not_note none (subst (λ us. IsUnambiguous W us r) is l))
