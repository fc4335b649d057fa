-- The fronts of groups, where a list may be cut after any record.
use Rattle.std.proofs.Common.{◌≡◌, ℕ, max, ◌⊎◌, inl, inr, List, [], ◌∷◌, ◌++◌, refl, sym, ◌∙◌, ap, subst, append_assoc, append-nil}
use Rattle.qp_model.specs.declared.bodies.Body.TheVariants as item
use Rattle.qp_model.specs.Told.{Told, plain, raised}
use Rattle.qp_model.specs.Sequence.{Sequence, EachPart, joined}
use Rattle.qp_check_shapes.specs.GroupsRead.{IsElement, Notes, Acts, Locks, RaisesOnly, IsEnd, EndsPlainly, EndsUnder, Breaks}
use Rattle.qp_check_shapes.proofs.GroupsSequenceLemmas.{sequence-none, sequence-one, sequence-more, sequence-append}

-- nothing, or a front of an action or of a cut
abbrev pub AnyFront : (List Told → Type 0) → (List Told → Type 0) → List Told → Type 0
AnyFront W C g = (g ≡ []) ⊎ ((back : List Told) × (W (g ++ back) ⊎ C (g ++ back)))

-- of two lists that are joined the first ends in one or the other of two more
pub split : (bs back xs ys : List Told) → bs ++ back ≡ xs ++ ys → ((m : List Told) × (bs ≡ xs ++ m) × (ys ≡ m ++ back)) ⊎ ((m : List Told) × (xs ≡ bs ++ m) × (back ≡ m ++ ys))
split bs back [] ys is = inl (bs, refl, sym is)
split [] back (x ∷ xs) ys is = inr (x ∷ xs, refl, is)
split (b ∷ bs) back (x ∷ xs) ys is =
    let first : b ≡ x = cc in
    let rest : bs ++ back ≡ xs ++ ys = cc in
    by first (split bs back xs ys rest)
  where
    by : b ≡ x → ((m : List Told) × (bs ≡ xs ++ m) × (ys ≡ m ++ back)) ⊎ ((m : List Told) × (xs ≡ bs ++ m) × (back ≡ m ++ ys))
        → ((m : List Told) × (b ∷ bs ≡ (x ∷ xs) ++ m) × (ys ≡ m ++ back)) ⊎ ((m : List Told) × (x ∷ xs ≡ (b ∷ bs) ++ m) × (back ≡ m ++ ys))
    by first (inl c) = let e : bs ≡ xs ++ c.0 = c.1 in inl (c.0, cc, c.2)
    by first (inr c) = let e : xs ≡ bs ++ c.0 = c.1 in inr (c.0, cc, c.2)

-- the front of parts, and then more, goes beyond them, or ends in one
pub split-parts : (P : List Told → Type 0) (bs back whole tail : List Told) → Sequence P whole → bs ++ back ≡ whole ++ tail
    → ((m : List Told) × (bs ≡ whole ++ m) × (tail ≡ m ++ back)) ⊎ ((w f x : List Told) × Sequence P w × (bs ≡ w ++ f) × P (f ++ x))
unfolding Sequence
split-parts P bs back whole tail s is = by (go s.0 bs s.1 (is ∙ ap (λ us. us ++ tail) s.2))
  where
    go : (ps : List (List Told)) (bs : List Told) → EachPart P ps → bs ++ back ≡ joined ps ++ tail
        → ((m : List Told) × (bs ≡ joined ps ++ m) × (tail ≡ m ++ back)) ⊎ ((w f x : List Told) × Sequence P w × (bs ≡ w ++ f) × P (f ++ x))
    go [] bs e is = inl (bs, refl, sym is)
    go (p ∷ ps) bs e is = at (λ m k. go ps m e.1 k) (split bs back p (joined ps ++ tail) (is ∙ append_assoc p (joined ps) tail))
      where
        more : (m : List Told) → bs ≡ p ++ m → ((n : List Told) × (m ≡ joined ps ++ n) × (tail ≡ n ++ back)) ⊎ ((w f x : List Told) × Sequence P w × (m ≡ w ++ f) × P (f ++ x))
            → ((n : List Told) × (bs ≡ (p ++ joined ps) ++ n) × (tail ≡ n ++ back)) ⊎ ((w f x : List Told) × Sequence P w × (bs ≡ w ++ f) × P (f ++ x))
        more m is (inl c) = inl (c.0, is ∙ ap (λ us. p ++ us) c.1 ∙ sym (append_assoc p (joined ps) c.0), c.2)
        more m is (inr c) = inr (p ++ c.0, c.1, c.2, sequence-more P p c.0 e.0 c.3, is ∙ ap (λ us. p ++ us) c.4 ∙ sym (append_assoc p c.0 c.1), c.5)

        at : ((m : List Told) → m ++ back ≡ joined ps ++ tail → ((n : List Told) × (m ≡ joined ps ++ n) × (tail ≡ n ++ back)) ⊎ ((w f x : List Told) × Sequence P w × (m ≡ w ++ f) × P (f ++ x)))
            → ((m : List Told) × (bs ≡ p ++ m) × (joined ps ++ tail ≡ m ++ back)) ⊎ ((m : List Told) × (p ≡ bs ++ m) × (back ≡ m ++ (joined ps ++ tail)))
            → ((m : List Told) × (bs ≡ (p ++ joined ps) ++ m) × (tail ≡ m ++ back)) ⊎ ((w f x : List Told) × Sequence P w × (bs ≡ w ++ f) × P (f ++ x))
        at again (inl c) = more c.0 c.1 (again c.0 (sym c.2))
        at again (inr c) = inr ([], bs, c.0, sequence-none P, refl, subst P c.1 e.0)

    by : ((m : List Told) × (bs ≡ joined s.0 ++ m) × (tail ≡ m ++ back)) ⊎ ((w f x : List Told) × Sequence P w × (bs ≡ w ++ f) × P (f ++ x))
        → ((m : List Told) × (bs ≡ whole ++ m) × (tail ≡ m ++ back)) ⊎ ((w f x : List Told) × Sequence P w × (bs ≡ w ++ f) × P (f ++ x))
    by (inl c) = inl (c.0, c.1 ∙ ap (λ us. us ++ c.0) (sym s.2), c.2)
    by (inr c) = inr c

-- groups, and then a break
pub breaks-more : (W L : List Told → Type 0) (g h : List Told) → Sequence (IsElement W) g → Breaks W L h → Breaks W L (g ++ h)
unfolding Breaks
breaks-more W L g h s b = (g ++ b.0, b.1, sequence-append (IsElement W) g b.0 s b.2, b.3, ap (λ us. g ++ us) b.4 ∙ sym (append_assoc g b.0 b.1))

pub end-only : (W L : List Told → Type 0) (g : List Told) → IsEnd W L g → Breaks W L g
unfolding Breaks
end-only W L g e = ([], g, sequence-none (IsElement W), e, refl)

-- whole groups
pub whole-breaks : (W C : List Told → Type 0) (g : List Told) → Sequence (IsElement W) g → Breaks W (AnyFront W C) g
unfolding Breaks
whole-breaks W C g s = (g, [], s, EndsPlainly (inl refl), sym (append-nil g))

-- a list and one record more, of which the first part is a front
last-split : (xs : List Told) (t : Told) (bs back : List Told) → bs ++ back ≡ xs ++ (t ∷ []) → ((m : List Told) × (xs ≡ bs ++ m)) ⊎ (bs ≡ xs ++ (t ∷ []))
last-split xs t bs back is = by (split bs back xs (t ∷ []) is)
  where
    at : (m : List Told) → bs ≡ xs ++ m → t ∷ [] ≡ m ++ back → ((m : List Told) × (xs ≡ bs ++ m)) ⊎ (bs ≡ xs ++ (t ∷ []))
    at [] is none = inl ([], sym (append-nil xs) ∙ sym is ∙ sym (append-nil bs))
    at (u ∷ us) is one = let e1 : t ≡ u = cc in let e2 : [] ≡ us ++ back = cc in inr (is ∙ ap (λ x. xs ++ x) (only us e1 e2))
      where
        only : (us : List Told) → t ≡ u → [] ≡ us ++ back → u ∷ us ≡ t ∷ []
        only [] e1 e2 = cc
        only (v ∷ vs) e1 e2 = absurd (cc)

    by : ((m : List Told) × (bs ≡ xs ++ m) × (t ∷ [] ≡ m ++ back)) ⊎ ((m : List Told) × (xs ≡ bs ++ m) × (back ≡ m ++ (t ∷ []))) → ((m : List Told) × (xs ≡ bs ++ m)) ⊎ (bs ≡ xs ++ (t ∷ []))
    by (inl c) = at c.0 c.1 c.2
    by (inr c) = inl (c.0, c.1)

-- actions, cut after any record
actions-front : (W C : List Told → Type 0) (bs back inner : List Told) → Sequence W inner → inner ≡ bs ++ back → (w f : List Told) × Sequence W w × AnyFront W C f × (bs ≡ w ++ f)
actions-front W C bs back inner s is = by (split-parts W bs back inner [] s (sym is ∙ sym (append-nil inner)))
  where
    none : (m : List Told) → [] ≡ m ++ back → m ≡ []
    none [] e = refl
    none (t ∷ ts) e = absurd (cc)

    by : ((m : List Told) × (bs ≡ inner ++ m) × ([] ≡ m ++ back)) ⊎ ((w f x : List Told) × Sequence W w × (bs ≡ w ++ f) × W (f ++ x))
        → (w f : List Told) × Sequence W w × AnyFront W C f × (bs ≡ w ++ f)
    by (inl c) = (inner, c.0, s, inl (none c.0 c.2), c.1)
    by (inr c) = (c.0, c.1, c.3, inr (c.2, inl c.5), c.4)

-- an element, cut after any record
element-front : (W C : List Told → Type 0) (f x : List Told) → IsElement W (f ++ x) → Breaks W (AnyFront W C) f
element-front W C [] x q = whole-breaks W C [] (sequence-none (IsElement W))
element-front W C (t ∷ ts) x (Notes b h is) =
    whole-breaks W C (t ∷ ts) (sequence-one (IsElement W) (t ∷ ts) (Notes b h (let e1 : t ≡ plain b = cc in let e2 : ts ++ x ≡ [] = cc in only ts e1 e2)))
  where
    only : (ts : List Told) → t ≡ plain b → ts ++ x ≡ [] → t ∷ ts ≡ plain b ∷ []
    only [] e1 e2 = cc
    only (u ∷ us) e1 e2 = absurd (cc)
element-front W C (t ∷ ts) x (Acts w) = end-only W (AnyFront W C) (t ∷ ts) (EndsPlainly (inr (x, inl w)))
element-front W C (t ∷ ts) x (Locks former ceiling inner s is) =
    let first : t ≡ raised (max former ceiling) former = cc in
    let rest : ts ++ x ≡ inner ++ (plain (item.Unlock former) ∷ []) = cc in
    by first (last-split inner (plain (item.Unlock former)) ts x rest)
  where
    under : t ≡ raised (max former ceiling) former → (w f : List Told) × Sequence W w × AnyFront W C f × (ts ≡ w ++ f) → Breaks W (AnyFront W C) (t ∷ ts)
    under first c = end-only W (AnyFront W C) (t ∷ ts) (EndsUnder (RaisesOnly former ceiling c.0 c.1 c.2 c.3 (ap (λ u. u ∷ ts) first ∙ ap (λ us. raised (max former ceiling) former ∷ us) c.4)))

    by : t ≡ raised (max former ceiling) former → ((m : List Told) × (inner ≡ ts ++ m)) ⊎ (ts ≡ inner ++ (plain (item.Unlock former) ∷ [])) → Breaks W (AnyFront W C) (t ∷ ts)
    by first (inl c) = under first (actions-front W C ts c.0 inner s c.1)
    by first (inr whole) =
        whole-breaks W C (t ∷ ts)
        (sequence-one (IsElement W) (t ∷ ts) (Locks former ceiling inner s (ap (λ u. u ∷ ts) first ∙ ap (λ us. raised (max former ceiling) former ∷ us) whole)))

-- a front of groups, and then more, goes beyond them, or is a break
pub groups-front : (W C : List Told → Type 0) (bs back g tail : List Told) → Sequence (IsElement W) g → bs ++ back ≡ g ++ tail
    → ((m : List Told) × (bs ≡ g ++ m) × (tail ≡ m ++ back)) ⊎ Breaks W (AnyFront W C) bs
groups-front W C bs back g tail s is = by (split-parts (IsElement W) bs back g tail s is)
  where
    by : ((m : List Told) × (bs ≡ g ++ m) × (tail ≡ m ++ back)) ⊎ ((w f x : List Told) × Sequence (IsElement W) w × (bs ≡ w ++ f) × IsElement W (f ++ x))
        → ((m : List Told) × (bs ≡ g ++ m) × (tail ≡ m ++ back)) ⊎ Breaks W (AnyFront W C) bs
    by (inl c) = inl c
    by (inr c) = inr (subst (Breaks W (AnyFront W C)) (sym c.4) (breaks-more W (AnyFront W C) c.0 c.1 c.3 (element-front W C c.1 c.2 c.5)))

-- a front of a break is one; `front` is the same of a last
pub breaks-front : (W C L : List Told → Type 0) → ((last m back : List Told) → L last → last ≡ m ++ back → AnyFront W C m) → (bs back : List Told) → Breaks W L (bs ++ back) → Breaks W (AnyFront W C) bs
unfolding Breaks
breaks-front W C L front bs back b = by (groups-front W C bs back b.0 b.1 b.2 b.4)
  where
    at : (end m : List Told) → IsEnd W L end → end ≡ m ++ back → IsEnd W (AnyFront W C) m
    at end m (EndsPlainly l) is = EndsPlainly (front end m back l is)
    at end [] (EndsUnder u) is = EndsPlainly (inl refl)
    at end (t ∷ ts) (EndsUnder (RaisesOnly former ceiling inner last s l e)) is =
        let all : raised (max former ceiling) former ∷ (inner ++ last) ≡ t ∷ (ts ++ back) = sym e ∙ is in
        let first : t ≡ raised (max former ceiling) former = cc in
        let rest : ts ++ back ≡ inner ++ last = cc in
        under first (split-parts W ts back inner last s rest)
      where
        under : t ≡ raised (max former ceiling) former → ((m : List Told) × (ts ≡ inner ++ m) × (last ≡ m ++ back)) ⊎ ((w f x : List Told) × Sequence W w × (ts ≡ w ++ f) × W (f ++ x))
            → IsEnd W (AnyFront W C) (t ∷ ts)
        under first (inl c) = EndsUnder (RaisesOnly former ceiling inner c.0 s (front last c.0 back l c.2) (ap (λ u. u ∷ ts) first ∙ ap (λ us. raised (max former ceiling) former ∷ us) c.1))
        under first (inr c) = EndsUnder (RaisesOnly former ceiling c.0 c.1 c.3 (inr (c.2, inl c.5)) (ap (λ u. u ∷ ts) first ∙ ap (λ us. raised (max former ceiling) former ∷ us) c.4))

    by : ((m : List Told) × (bs ≡ b.0 ++ m) × (b.1 ≡ m ++ back)) ⊎ Breaks W (AnyFront W C) bs → Breaks W (AnyFront W C) bs
    by (inl c) = (b.0, c.0, b.2, at b.1 c.0 b.3 c.2, c.1)
    by (inr c) = c

-- and each can be made whole, or cut by an assertion
pub breaks-back : (W C L : List Told → Type 0) → ((g : List Told) → C g → L g) → (bs : List Told) → Breaks W (AnyFront W C) bs
    → (back : List Told) × (Sequence (IsElement W) (bs ++ back) ⊎ Breaks W L (bs ++ back))
unfolding Breaks
breaks-back W C L cuts bs b = by b.1 b.3 b.4
  where
    whole : (end : List Told) → bs ≡ b.0 ++ end → (back : List Told) → IsElement W (end ++ back) → Sequence (IsElement W) (bs ++ back)
    whole end is back q =
        subst (Sequence (IsElement W)) (sym (ap (λ us. us ++ back) is ∙ append_assoc b.0 end back))
        (sequence-append (IsElement W) b.0 (end ++ back) b.2 (sequence-one (IsElement W) (end ++ back) q))

    cut : (end : List Told) → bs ≡ b.0 ++ end → (back : List Told) → IsEnd W L (end ++ back) → Breaks W L (bs ++ back)
    cut end is back e = (b.0, end ++ back, b.2, e, ap (λ us. us ++ back) is ∙ append_assoc b.0 end back)

    restore : ℕ → List Told
    restore former = plain (item.Unlock former) ∷ []

    locked : (former ceiling : ℕ) (inner last end back : List Told) → Sequence W inner → Sequence W (last ++ back) → end ≡ raised (max former ceiling) former ∷ (inner ++ last) → IsElement W (end ++ (back ++ restore former))
    locked former ceiling inner last end back s u e =
        Locks former ceiling (inner ++ (last ++ back)) (sequence-append W inner (last ++ back) s u)
        (ap (λ us. us ++ (back ++ restore former)) e
        ∙ ap (λ us. raised (max former ceiling) former ∷ us) (append_assoc inner last (back ++ restore former) ∙ ap (λ us. inner ++ us) (sym (append_assoc last back (restore former))) ∙ sym (append_assoc inner (last ++ back) (restore former))))

    by : (end : List Told) → IsEnd W (AnyFront W C) end → bs ≡ b.0 ++ end → (back : List Told) × (Sequence (IsElement W) (bs ++ back) ⊎ Breaks W L (bs ++ back))
    by end (EndsPlainly (inl none)) is =
        ([], inl (subst (Sequence (IsElement W)) (sym (append-nil bs ∙ is ∙ ap (λ us. b.0 ++ us) none ∙ append-nil b.0)) b.2))
    by end (EndsPlainly (inr (back, inl w))) is = (back, inl (whole end is back (Acts w)))
    by end (EndsPlainly (inr (back, inr c))) is = (back, inr (cut end is back (EndsPlainly (cuts (end ++ back) c))))
    by end (EndsUnder (RaisesOnly former ceiling inner last s (inl none) e)) is =
        (restore former, inl (whole end is (restore former) (locked former ceiling inner last end [] s (subst (λ us. Sequence W (us ++ [])) (sym none) (sequence-none W)) e)))
    by end (EndsUnder (RaisesOnly former ceiling inner last s (inr (back, inl w)) e)) is =
        (back ++ restore former, inl (whole end is (back ++ restore former) (locked former ceiling inner last end back s (sequence-one W (last ++ back) w) e)))
    by end (EndsUnder (RaisesOnly former ceiling inner last s (inr (back, inr c)) e)) is = (
      back,
      inr (cut end is back (EndsUnder (RaisesOnly former ceiling inner (last ++ back) s (cuts (last ++ back) c)
          (ap (λ us. us ++ back) e ∙ ap (λ us. raised (max former ceiling) former ∷ us) (append_assoc inner last back))))),
    )
