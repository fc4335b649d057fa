-- What is tested where groups break off.
use Rattle.std.proofs.Common.{◌≡◌, ℕ, ◌==◌, max, Bool, true, false, ◌⊎◌, inl, inr, List, [], ◌∷◌, ◌++◌, length, Some, None, refl, sym, ◌∙◌, ap, subst, arith}
use Rattle.std.specs.declared.option.Option.{Option}
use Rattle.qp_check_calls.specs.Decides.{Decides}
use Rattle.qp_model.specs.declared.systems.System.{System}
use Rattle.qp_model.specs.declared.bodies.Entry.{Entry}
use Rattle.qp_model.specs.Told.{Told, raised}
use Rattle.qp_model.specs.Groups.{IsLast, Asserts, Stops, StopsInPublication}
use Rattle.qp_model.specs.Course.{Cut, Whole, Stopped, Anywhere}
use Rattle.qp_check_shapes.specs.ShapeAction.{IsCut, StopsInside, IsFront}
use Rattle.qp_check_shapes.specs.GroupsRead.{ReadsAll, IsElement, IsUnderCeiling, RaisesOnly, IsEnd, EndsPlainly, EndsUnder, Breaks, is_outer}
use Rattle.qp_check_shapes.specs.GroupsFirst.{former_of}
use Rattle.qp_check_shapes.specs.GroupsLast.{LastOf}
use Rattle.qp_check_shapes.proofs.GroupsDecideLemmas.{decides-yes, decides-no, decides-as}
use Rattle.qp_check_shapes.proofs.GroupsReadLemmas.{Parts, Lasts, reads-last}
use Rattle.qp_check_shapes.proofs.GroupsElementLemmas.{breaks-end, end-breaks}
use Rattle.qp_check_shapes.proofs.GroupsFirstLemmas.{former-raised, raised-former}

pub empty-is : (told : List Told) → length told ≡ 0 → told ≡ []
empty-is [] h = refl
empty-is (t ∷ ts) h = absurd (omega arith)

pub inside-last : (sys : System) (o : ℕ) (now : Option Entry) (told : List Told) → StopsInside sys o now told → IsLast sys o now true told
inside-last sys o now told s = StopsInPublication s.0 s.1 s.2 s.3 s.4 refl s.5 s.6

pub cut-last : (sys : System) (o : ℕ) (now : Option Entry) (stops : Bool) (told : List Told) → IsCut sys o now told → IsLast sys o now stops told
cut-last sys o now stops told c = Asserts c.0 c.1 c.2 c.3

last-cut : (sys : System) (o : ℕ) (now : Option Entry) (told : List Told) → (told ≡ [] → ⊥) → (StopsInside sys o now told → ⊥) → IsLast sys o now true told → IsCut sys o now told
last-cut sys o now told some outside (Asserts x answer h asserts) = (x, answer, h, asserts)
last-cut sys o now told some outside (Stops may none) = absurd (some none)
last-cut sys o now told some outside (StopsInPublication sig pars reserve answer back may h ends) = absurd (outside (sig, pars, reserve, answer, back, h, ends))

pub stops-decided : (sys : System) (o : ℕ) (now : Option Entry) (told : List Told) (b : Bool) → (told ≡ [] → ⊥) → (StopsInside sys o now told → ⊥)
    → Decides b (IsCut sys o now told) → Decides b (IsLast sys o now true told)
stops-decided sys o now told b some outside d =
    decides-as (IsCut sys o now told) (IsLast sys o now true told) b (cut-last sys o now true told) (last-cut sys o now told some outside) d

whole-cut : (sys : System) (o : ℕ) (now : Option Entry) (told : List Told) → IsLast sys o now false told → IsCut sys o now told
whole-cut sys o now told (Asserts x answer h asserts) = (x, answer, h, asserts)
whole-cut sys o now told (Stops may none) = absurd (cc)
whole-cut sys o now told (StopsInPublication sig pars reserve answer back may h ends) = absurd (cc)

-- by the cut
pub whole-decided : (sys : System) (o : ℕ) (now : Option Entry) (told : List Told) (cut : Cut) (b : Bool) → cut ≡ Whole → Decides b (IsCut sys o now told) → Decides b (LastOf sys o cut now told)
unfolding LastOf
whole-decided sys o now told cut b is d =
    subst (λ k. Decides b (LastOf sys o k now told)) (sym is) (decides-as (IsCut sys o now told) (IsLast sys o now false told) b (cut-last sys o now false told) (whole-cut sys o now told) d)

pub stopped-decided : (sys : System) (o : ℕ) (now : Option Entry) (told : List Told) (cut : Cut) (b : Bool) → cut ≡ Stopped → Decides b (IsLast sys o now true told) → Decides b (LastOf sys o cut now told)
unfolding LastOf
stopped-decided sys o now told cut b is d = subst (λ k. Decides b (LastOf sys o k now told)) (sym is) d

pub none-decided : (sys : System) (o : ℕ) (now : Option Entry) (told : List Told) (cut : Cut) → cut ≡ Anywhere → told ≡ [] → Decides true (LastOf sys o cut now told)
unfolding LastOf
none-decided sys o now told cut is none =
    decides-yes (LastOf sys o cut now told) (let front : LastOf sys o Anywhere now told = inl none in subst (λ k. LastOf sys o k now told) (sym is) front)

pub front-decided : (sys : System) (o : ℕ) (now : Option Entry) (told : List Told) (cut : Cut) (b : Bool) → cut ≡ Anywhere → (told ≡ [] → ⊥) → Decides b (IsFront sys o now told)
    → Decides b (LastOf sys o cut now told)
unfolding LastOf
front-decided sys o now told cut b is some d =
    subst (λ k. Decides b (LastOf sys o k now told)) (sym is) (decides-as (IsFront sys o now told) ((told ≡ []) ⊎ IsFront sys o now told) b (λ f. inr f) back d)
  where
    back : (told ≡ []) ⊎ IsFront sys o now told → IsFront sys o now told
    back (inl none) = absurd (some none)
    back (inr f) = f

-- actions under a raised ceiling
pub under-empty : (W L : List Told → Type 0) (told : List Told) → told ≡ [] → Decides false (IsUnderCeiling W L told)
under-empty W L told none = decides-no (IsUnderCeiling W L told) no
  where
    no : IsUnderCeiling W L told → ⊥
    no (RaisesOnly f c inner last s l e) = let all : [] ≡ raised (max f c) f ∷ (inner ++ last) = sym none ∙ e in cc

pub under-none : (W L : List Told → Type 0) (told : List Told) (t : Told) (ts : List Told) → told ≡ t ∷ ts → former_of t.body t.known ≡ None → Decides false (IsUnderCeiling W L told)
under-none W L told t ts is none = decides-no (IsUnderCeiling W L told) no
  where
    no : IsUnderCeiling W L told → ⊥
    no (RaisesOnly f c inner last s l e) =
        let all : t ∷ ts ≡ raised (max f c) f ∷ (inner ++ last) = sym is ∙ e in
        let first : raised (max f c) f ≡ t = cc in
        let test : former_of t.body t.known ≡ Some f = subst (λ (x : Told). former_of x.body x.known ≡ Some f) first (raised-former f c) in
        let both : None ≡ Some f = sym none ∙ test in cc

pub under-decided : (W L : List Told → Type 0) → Parts is_outer W → Lasts is_outer W L → (told : List Told) (t : Told) (ts rest : List Told) (f : ℕ) (b : Bool)
    → told ≡ t ∷ ts → former_of t.body t.known ≡ Some f → ReadsAll W ts rest → Decides b (L rest) → Decides b (IsUnderCeiling W L told)
under-decided W L laws lasts told t ts rest f b is h reads d = decides-as (L rest) (IsUnderCeiling W L told) b to from d
  where
    to : L rest → IsUnderCeiling W L told
    to l = let lock = former-raised t f h in RaisesOnly f lock.0 reads.whole rest reads.parts l (is ∙ ap (λ u. u ∷ ts) lock.1 ∙ ap (λ us. raised (max f lock.0) f ∷ us) reads.is)

    from : IsUnderCeiling W L told → L rest
    from (RaisesOnly k c inner last s l e) =
        let all : t ∷ ts ≡ raised (max k c) k ∷ (inner ++ last) = sym is ∙ e in
        let tails : ts ≡ inner ++ last = cc in
        reads-last is_outer W L laws lasts.behind ts rest reads inner last s l tails

-- the end
pub end-plainly : (W L : List Told → Type 0) (told : List Told) → Decides true (L told) → Decides true (IsEnd W L told)
unfolding Decides
end-plainly W L told d = EndsPlainly d

pub end-decided : (W L : List Told → Type 0) (told : List Told) (b : Bool) → Decides false (L told) → Decides b (IsUnderCeiling W L told) → Decides b (IsEnd W L told)
unfolding Decides
end-decided W L told b not_last d = decides-as (IsUnderCeiling W L told) (IsEnd W L told) b (λ u. EndsUnder u) from d
  where
    from : IsEnd W L told → IsUnderCeiling W L told
    from (EndsPlainly l) = absurd (not_last l)
    from (EndsUnder u) = u

pub breaks-decided : (W L : List Told → Type 0) → Parts is_outer W → Lasts is_outer W L → (told rest : List Told) (b : Bool) → ReadsAll (IsElement W) told rest
    → Decides b (IsEnd W L rest) → Decides b (Breaks W L told)
breaks-decided W L laws lasts told rest b reads d = decides-as (IsEnd W L rest) (Breaks W L told) b (end-breaks W L told rest reads) (breaks-end W L laws lasts told rest reads) d

pub some-is : (told : List Told) → (length told == 0) ≡ false → told ≡ [] → ⊥
some-is told h none = let zero : (length told == 0) ≡ true = ap (λ us. length us == 0) none in cc
