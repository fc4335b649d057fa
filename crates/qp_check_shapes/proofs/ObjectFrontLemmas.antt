-- The fronts of an object's list, where it may be cut after any record.
use Rattle.std.proofs.Common.{◌≡◌, ℕ, Bool, true, false, ◌⊎◌, inl, inr, List, [], ◌∷◌, ◌++◌, Some, None, refl, sym, ◌∙◌, ap, subst, append_assoc, append-nil}
use Rattle.std.specs.declared.option.Option.{Option}
use Rattle.qp_model.specs.declared.bodies.Entry.{Entry}
use Rattle.qp_model.specs.declared.bodies.Body.{Body}
use Rattle.qp_model.specs.declared.bodies.Body.TheVariants as item
use Rattle.qp_model.specs.Told.{Told, Known, plain}
use Rattle.qp_model.specs.Sequence.{Sequence}
use Rattle.qp_model.specs.ObjectShape.{StepHead, is_head, takes}
use Rattle.qp_check_shapes.specs.GroupsRead.{IsElement, Breaks}
use Rattle.qp_check_shapes.specs.ObjectRead.{Kinds, GroupsThenDone, IsTurnOf, Steps, Finds, FrontOf, IsTailOf, EndsHere, IsSpent, BreaksOffIn, TakesOnly, ReleasesOnly, TurnsOf, IsObjectList, Starts, BreaksStart}
use Rattle.qp_check_shapes.proofs.GroupsSequenceLemmas.{sequence-none, sequence-one, sequence-append}
use Rattle.qp_check_shapes.proofs.GroupsFrontLemmas.{AnyFront, split-parts, whole-breaks, groups-front, breaks-front, breaks-back}

-- a whole list, and one that is cut
abbrev pub wholly : (Option Entry → List Told → Type 0) → (Option Entry → List Told → Type 0) → (List Told → Type 0) → (Entry → List Told → Type 0) → Kinds
wholly W L F D = record { act = W; last = L; first = F; release = D; cuts = true; anywhere = false }

abbrev pub cut-off : (Option Entry → List Told → Type 0) → (Option Entry → List Told → Type 0) → (Entry → List Told → Type 0) → Kinds
cut-off W C D = record { act = W; last = λ now. AnyFront (W now) (C now); first = AnyFront (W None) (C None); release = D; cuts = true; anywhere = true }

-- lasts have fronts, calls that end in their assertions are lasts, and each entry has a release
pub record CutLaws (W C L : Option Entry → List Told → Type 0) (F : List Told → Type 0) (D : Entry → List Told → Type 0) : Type 0 where
  pub last : (now : Option Entry) (g m back : List Told) → L now g → g ≡ m ++ back → AnyFront (W now) (C now) m
  pub first : (g m back : List Told) → F g → g ≡ m ++ back → AnyFront (W None) (C None) m
  pub cuts : (now : Option Entry) (g : List Told) → C now g → L now g
  pub begins : (g : List Told) → C None g → F g
  pub released : (e : Entry) → (rel : List Told) × D e rel

-- a front of two records, and more
data TwoFront (a b : Told) (more back bs : List Told) : Type 0 where
  NoneYet : bs ≡ [] → TwoFront a b more back bs
  First : bs ≡ a ∷ [] → TwoFront a b more back bs
  Both : (rest : List Told) → bs ≡ a ∷ b ∷ rest → rest ++ back ≡ more → TwoFront a b more back bs

two-front : (a b : Told) (more back bs : List Told) → bs ++ back ≡ a ∷ b ∷ more → TwoFront a b more back bs
two-front a b more back [] is = NoneYet refl
two-front a b more back (x ∷ []) is = let e : x ≡ a = cc in First (cc)
two-front a b more back (x ∷ y ∷ rest) is = let e1 : x ≡ a = cc in let e2 : y ≡ b = cc in let e3 : rest ++ back ≡ more = cc in Both rest (cc) e3

-- a front of one record
one-front : (a : Told) (back bs : List Told) → bs ++ back ≡ a ∷ [] → (bs ≡ []) ⊎ (bs ≡ a ∷ [])
one-front a back [] is = inl refl
one-front a back (x ∷ []) is = let e : x ≡ a = cc in inr (cc)
one-front a back (x ∷ y ∷ rest) is = absurd (cc)

-- a front of a `done` and more
done-front : (more back bs : List Told) → plain item.Done ∷ more ≡ bs ++ back → (bs ≡ []) ⊎ ((m : List Told) × (bs ≡ plain item.Done ∷ m) × (more ≡ m ++ back))
done-front more back [] is = inl refl
done-front more back (x ∷ m) is = let e1 : plain item.Done ≡ x = cc in let e2 : more ≡ m ++ back = cc in inr (m, cc, e2)

-- the first two records of a step
head-two : (e : Entry) (head : List Told) → StepHead e head → (f l m : ℕ) × (known : Known) × (b : Body) × (is_head b ≡ true) × (head ≡ takes f l m e known ∷ plain b ∷ [])
unfolding StepHead
head-two e head h = (h.0, h.1, h.2, h.3, h.4, h.5, h.6)

two-head : (e : Entry) (f l m : ℕ) (known : Known) (b : Body) → is_head b ≡ true → StepHead e (takes f l m e known ∷ plain b ∷ [])
unfolding StepHead
two-head e f l m known b h = (f, l, m, known, b, h, refl)

-- turns before more turns, and a tail alone
turns-more : (k : Kinds) (nils : Bool) (w f : List Told) → Sequence (IsTurnOf k.act k.release nils) w → TurnsOf k nils f → TurnsOf k nils (w ++ f)
unfolding TurnsOf
turns-more k nils w f s t = (w ++ t.0, t.1, sequence-append (IsTurnOf k.act k.release nils) w t.0 s t.2, t.3, ap (λ us. w ++ us) t.4 ∙ sym (append_assoc w t.0 t.1))

tail-alone : (k : Kinds) (nils : Bool) (f : List Told) → IsTailOf k f → TurnsOf k nils f
unfolding TurnsOf
tail-alone k nils f t = ([], f, sequence-none (IsTurnOf k.act k.release nils), t, refl)

turn-alone : (k : Kinds) (nils : Bool) (f : List Told) → IsTurnOf k.act k.release nils f → TurnsOf k nils f
unfolding TurnsOf
turn-alone k nils f t = (f, [], sequence-one (IsTurnOf k.act k.release nils) f t, EndsHere refl, sym (append-nil f))

-- a step, cut after any record: a tail, or all of it
step-front : (W C L : Option Entry → List Told → Type 0) (F : List Told → Type 0) (D : Entry → List Told → Type 0) (e : Entry) (head body f x : List Told)
    → StepHead e head → GroupsThenDone (W (Some e)) (D e) body → f ++ x ≡ head ++ body → IsTailOf (cut-off W C D) f
unfolding GroupsThenDone FrontOf
step-front W C L F D e head body f x h c is =
    let two = head-two e head h in
    by two.0 two.1 two.2 two.3 two.4 two.5 (two-front (takes two.0 two.1 two.2 e two.3) (plain two.4) body x f (is ∙ ap (λ us. us ++ body) two.6))
  where
    behind : (rest : List Told) → rest ++ x ≡ body → Breaks (W (Some e)) (AnyFront (W (Some e)) (C (Some e))) rest ⊎ GroupsThenDone (W (Some e)) (FrontOf (D e)) rest
    behind rest k = at (groups-front (W (Some e)) (C (Some e)) rest x c.0 (plain item.Done ∷ c.1) c.2 (k ∙ c.4))
      where
        done : (m : List Told) → rest ≡ c.0 ++ m → (m ≡ []) ⊎ ((n : List Told) × (m ≡ plain item.Done ∷ n) × (c.1 ≡ n ++ x))
            → Breaks (W (Some e)) (AnyFront (W (Some e)) (C (Some e))) rest ⊎ GroupsThenDone (W (Some e)) (FrontOf (D e)) rest
        done m k (inl none) =
            inl (subst (Breaks (W (Some e)) (AnyFront (W (Some e)) (C (Some e)))) (sym (k ∙ ap (λ us. c.0 ++ us) none ∙ append-nil c.0)) (whole-breaks (W (Some e)) (C (Some e)) c.0 c.2))
        done m k (inr d) = inr (c.0, d.0, c.2, (x, subst (D e) d.2 c.3), k ∙ ap (λ us. c.0 ++ us) d.1)

        at : ((m : List Told) × (rest ≡ c.0 ++ m) × (plain item.Done ∷ c.1 ≡ m ++ x)) ⊎ Breaks (W (Some e)) (AnyFront (W (Some e)) (C (Some e))) rest
            → Breaks (W (Some e)) (AnyFront (W (Some e)) (C (Some e))) rest ⊎ GroupsThenDone (W (Some e)) (FrontOf (D e)) rest
        at (inl m) = done m.0 m.1 (done-front c.1 x m.0 m.2)
        at (inr b) = inl b

    by : (f1 l m : ℕ) (known : Known) (b : Body) → is_head b ≡ true → TwoFront (takes f1 l m e known) (plain b) body x f → IsTailOf (cut-off W C D) f
    by f1 l m known b n (NoneYet k) = EndsHere k
    by f1 l m known b n (First k) = TakesOnly f1 l m e known refl k
    by f1 l m known b n (Both rest k more) = both (behind rest more)
      where
        both : Breaks (W (Some e)) (AnyFront (W (Some e)) (C (Some e))) rest ⊎ GroupsThenDone (W (Some e)) (FrontOf (D e)) rest → IsTailOf (cut-off W C D) f
        both (inl breaks) = BreaksOffIn e (takes f1 l m e known ∷ plain b ∷ []) rest refl (two-head e f1 l m known b n) breaks k
        both (inr closes) = ReleasesOnly e (takes f1 l m e known ∷ plain b ∷ []) rest refl (two-head e f1 l m known b n) closes k

turn-front : (W C L : Option Entry → List Told → Type 0) (F : List Told → Type 0) (D : Entry → List Told → Type 0) (nils : Bool) (f x : List Told)
    → IsTurnOf W D nils (f ++ x) → TurnsOf (cut-off W C D) nils f
turn-front W C L F D nils f x (Steps e head body h c is) = tail-alone (cut-off W C D) nils f (step-front W C L F D e head body f x h c is)
turn-front W C L F D nils f x (Finds b look h is) = by (one-front (plain b) x f is)
  where
    by : (f ≡ []) ⊎ (f ≡ plain b ∷ []) → TurnsOf (cut-off W C D) nils f
    by (inl none) = tail-alone (cut-off W C D) nils f (EndsHere none)
    by (inr all) = turn-alone (cut-off W C D) nils f (Finds b look h all)

tail-front : (W C L : Option Entry → List Told → Type 0) (F : List Told → Type 0) (D : Entry → List Told → Type 0) → CutLaws W C L F D → (g f x : List Told)
    → IsTailOf (wholly W L F D) g → g ≡ f ++ x → IsTailOf (cut-off W C D) f
tail-front W C L F D laws g f x (EndsHere e) is = by f (sym e ∙ is)
  where
    by : (f : List Told) → [] ≡ f ++ x → IsTailOf (cut-off W C D) f
    by [] k = EndsHere refl
    by (t ∷ ts) k = absurd (cc)
tail-front W C L F D laws g f x (IsSpent e) is = by (one-front (plain item.Spent) x f (sym is ∙ e))
  where
    by : (f ≡ []) ⊎ (f ≡ plain item.Spent ∷ []) → IsTailOf (cut-off W C D) f
    by (inl none) = EndsHere none
    by (inr all) = IsSpent all
tail-front W C L F D laws g f x (BreaksOffIn e head body on h b k) is =
    let two = head-two e head h in
    by two.0 two.1 two.2 two.3 two.4 two.5 (two-front (takes two.0 two.1 two.2 e two.3) (plain two.4) body x f (sym is ∙ k ∙ ap (λ us. us ++ body) two.6))
  where
    by : (f1 l m : ℕ) (known : Known) (c : Body) → is_head c ≡ true → TwoFront (takes f1 l m e known) (plain c) body x f → IsTailOf (cut-off W C D) f
    by f1 l m known c n (NoneYet k) = EndsHere k
    by f1 l m known c n (First k) = TakesOnly f1 l m e known refl k
    by f1 l m known c n (Both rest k more) =
        BreaksOffIn e (takes f1 l m e known ∷ plain c ∷ []) rest refl (two-head e f1 l m known c n)
        (breaks-front (W (Some e)) (C (Some e)) (L (Some e)) (λ last m back. laws.last (Some e) last m back) rest x (subst (Breaks (W (Some e)) (L (Some e))) (sym more) b)) k
tail-front W C L F D laws g f x (TakesOnly a l m e known any k) is = absurd (cc)
tail-front W C L F D laws g f x (ReleasesOnly e head body any h c k) is = absurd (cc)

turns-front : (W C L : Option Entry → List Told → Type 0) (F : List Told → Type 0) (D : Entry → List Told → Type 0) → CutLaws W C L F D → (nils : Bool) (g f x : List Told)
    → TurnsOf (wholly W L F D) nils g → g ≡ f ++ x → TurnsOf (cut-off W C D) nils f
unfolding TurnsOf
turns-front W C L F D laws nils g f x t is = by (split-parts (IsTurnOf W D nils) f x t.0 t.1 t.2 (sym is ∙ t.4))
  where
    by : ((m : List Told) × (f ≡ t.0 ++ m) × (t.1 ≡ m ++ x)) ⊎ ((w p y : List Told) × Sequence (IsTurnOf W D nils) w × (f ≡ w ++ p) × IsTurnOf W D nils (p ++ y))
        → TurnsOf (cut-off W C D) nils f
    by (inl c) = (t.0, c.0, t.2, tail-front W C L F D laws t.1 c.0 x t.3 c.2, c.1)
    by (inr c) = subst (TurnsOf (cut-off W C D) nils) (sym c.4) (turns-more (cut-off W C D) nils c.0 c.1 c.3 (turn-front W C L F D nils c.1 c.2 c.5))

-- a front of a list is empty, or a list that is cut
pub object-front : (W C L : Option Entry → List Told → Type 0) (F : List Told → Type 0) (D : Entry → List Told → Type 0) → CutLaws W C L F D → (nils : Bool) (bs back : List Told)
    → IsObjectList (wholly W L F D) nils (bs ++ back) → (bs ≡ []) ⊎ IsObjectList (cut-off W C D) nils bs
unfolding GroupsThenDone
object-front W C L F D laws nils [] back q = inl refl
object-front W C L F D laws nils (t ∷ ts) back (BreaksStart body on b is) =
    let first : t ≡ plain item.Begin = cc in
    let rest : ts ++ back ≡ body = cc in
    inr (BreaksStart ts refl (breaks-front (W None) (C None) F laws.first ts back (subst (Breaks (W None) F) (sym rest) b)) (ap (λ u. u ∷ ts) first))
object-front W C L F D laws nils (t ∷ ts) back (Starts body c is) =
    let first : t ≡ plain item.Begin = cc in
    let rest : ts ++ back ≡ body = cc in
    inr (by first (groups-front (W None) (C None) ts back c.0 (plain item.Done ∷ c.1) c.2 (rest ∙ c.4)))
  where
    done : t ≡ plain item.Begin → (m : List Told) → ts ≡ c.0 ++ m → (m ≡ []) ⊎ ((n : List Told) × (m ≡ plain item.Done ∷ n) × (c.1 ≡ n ++ back)) → IsObjectList (cut-off W C D) nils (t ∷ ts)
    done first m k (inl none) =
        BreaksStart ts refl (subst (Breaks (W None) (AnyFront (W None) (C None))) (sym (k ∙ ap (λ us. c.0 ++ us) none ∙ append-nil c.0)) (whole-breaks (W None) (C None) c.0 c.2))
        (ap (λ u. u ∷ ts) first)
    done first m k (inr d) =
        Starts ts (c.0, d.0, c.2, turns-front W C L F D laws nils c.1 d.0 back c.3 d.2, k ∙ ap (λ us. c.0 ++ us) d.1) (ap (λ u. u ∷ ts) first)

    by : t ≡ plain item.Begin → ((m : List Told) × (ts ≡ c.0 ++ m) × (plain item.Done ∷ c.1 ≡ m ++ back)) ⊎ Breaks (W None) (AnyFront (W None) (C None)) ts → IsObjectList (cut-off W C D) nils (t ∷ ts)
    by first (inl m) = done first m.0 m.1 (done-front c.1 back m.0 m.2)
    by first (inr b) = BreaksStart ts refl b (ap (λ u. u ∷ ts) first)

-- a tail that is cut can be made whole, as a tail or a turn
tail-back : (W C L : Option Entry → List Told → Type 0) (F : List Told → Type 0) (D : Entry → List Told → Type 0) → CutLaws W C L F D → (nils : Bool) (g : List Told)
    → IsTailOf (cut-off W C D) g → (back : List Told) × TurnsOf (wholly W L F D) nils (g ++ back)
unfolding GroupsThenDone FrontOf
tail-back W C L F D laws nils g (EndsHere is) = ([], tail-alone (wholly W L F D) nils (g ++ []) (EndsHere (append-nil g ∙ is)))
tail-back W C L F D laws nils g (IsSpent is) = ([], tail-alone (wholly W L F D) nils (g ++ []) (IsSpent (append-nil g ∙ is)))
tail-back W C L F D laws nils g (BreaksOffIn e head body on h b is) = by (breaks-back (W (Some e)) (C (Some e)) (L (Some e)) (laws.cuts (Some e)) body b)
  where
    by : (back : List Told) × (Sequence (IsElement (W (Some e))) (body ++ back) ⊎ Breaks (W (Some e)) (L (Some e)) (body ++ back)) → (back : List Told) × TurnsOf (wholly W L F D) nils (g ++ back)
    by (back, inl s) = (
      back ++ (plain item.Done ∷ (laws.released e).0),
      turn-alone (wholly W L F D) nils (g ++ (back ++ (plain item.Done ∷ (laws.released e).0)))
          (Steps e head ((body ++ back) ++ (plain item.Done ∷ (laws.released e).0)) h (body ++ back, (laws.released e).0, s, (laws.released e).1, refl)
          (ap (λ us. us ++ (back ++ (plain item.Done ∷ (laws.released e).0))) is ∙ append_assoc head body (back ++ (plain item.Done ∷ (laws.released e).0))
          ∙ ap (λ us. head ++ us) (sym (append_assoc body back (plain item.Done ∷ (laws.released e).0))))),
    )
    by (back, inr k) =
        (back, tail-alone (wholly W L F D) nils (g ++ back) (BreaksOffIn e head (body ++ back) refl h k (ap (λ us. us ++ back) is ∙ append_assoc head body back)))
tail-back W C L F D laws nils g (TakesOnly f l m e known any is) = (
  plain item.Unhandled ∷ plain item.Done ∷ (laws.released e).0,
  turn-alone (wholly W L F D) nils (g ++ (plain item.Unhandled ∷ plain item.Done ∷ (laws.released e).0))
      (Steps e (takes f l m e known ∷ plain item.Unhandled ∷ []) (plain item.Done ∷ (laws.released e).0) (two-head e f l m known item.Unhandled refl)
      ([], (laws.released e).0, sequence-none (IsElement (W (Some e))), (laws.released e).1, refl)
      (ap (λ us. us ++ (plain item.Unhandled ∷ plain item.Done ∷ (laws.released e).0)) is)),
)
tail-back W C L F D laws nils g (ReleasesOnly e head body any h c is) = (
  c.3.0,
  turn-alone (wholly W L F D) nils (g ++ c.3.0)
      (Steps e head (body ++ c.3.0) h (c.0, c.1 ++ c.3.0, c.2, c.3.1, ap (λ us. us ++ c.3.0) c.4 ∙ append_assoc c.0 (plain item.Done ∷ c.1) c.3.0)
      (ap (λ us. us ++ c.3.0) is ∙ append_assoc head body c.3.0)),
)

turns-back : (W C L : Option Entry → List Told → Type 0) (F : List Told → Type 0) (D : Entry → List Told → Type 0) → CutLaws W C L F D → (nils : Bool) (g : List Told)
    → TurnsOf (cut-off W C D) nils g → (back : List Told) × TurnsOf (wholly W L F D) nils (g ++ back)
unfolding TurnsOf
turns-back W C L F D laws nils g t =
    let more = tail-back W C L F D laws nils t.1 t.3 in (
      more.0,
      subst (TurnsOf (wholly W L F D) nils) (sym (ap (λ us. us ++ more.0) t.4 ∙ append_assoc t.0 t.1 more.0)) (turns-more (wholly W L F D) nils t.0 (t.1 ++ more.0) t.2 more.1),
    )

-- a list that is cut can be made whole
pub object-back : (W C L : Option Entry → List Told → Type 0) (F : List Told → Type 0) (D : Entry → List Told → Type 0) → CutLaws W C L F D → (nils : Bool) (bs : List Told)
    → IsObjectList (cut-off W C D) nils bs → (back : List Told) × IsObjectList (wholly W L F D) nils (bs ++ back)
unfolding GroupsThenDone
object-back W C L F D laws nils bs (Starts body c is) =
    let more = turns-back W C L F D laws nils c.1 c.3 in
    (more.0, Starts (body ++ more.0) (c.0, c.1 ++ more.0, c.2, more.1, ap (λ us. us ++ more.0) c.4 ∙ append_assoc c.0 (plain item.Done ∷ c.1) more.0) (ap (λ us. us ++ more.0) is))
object-back W C L F D laws nils bs (BreaksStart body on b is) = by (breaks-back (W None) (C None) F laws.begins body b)
  where
    by : (back : List Told) × (Sequence (IsElement (W None)) (body ++ back) ⊎ Breaks (W None) F (body ++ back)) → (back : List Told) × IsObjectList (wholly W L F D) nils (bs ++ back)
    by (back, inl s) = (
      back ++ (plain item.Done ∷ []),
      Starts ((body ++ back) ++ (plain item.Done ∷ [])) (body ++ back, [], s, tail-alone (wholly W L F D) nils [] (EndsHere refl), refl)
          (ap (λ us. us ++ (back ++ (plain item.Done ∷ []))) is ∙ ap (λ us. plain item.Begin ∷ us) (sym (append_assoc body back (plain item.Done ∷ [])))),
    )
    by (back, inr k) = (back, BreaksStart (body ++ back) refl k (ap (λ us. us ++ back) is))
