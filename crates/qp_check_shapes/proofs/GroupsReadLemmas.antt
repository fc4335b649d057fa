-- A list is read from the front in one way, and what stands last there is what is left.
use Rattle.std.proofs.Common.{◌≡◌, Bool, true, ◌⊎◌, inl, inr, List, [], ◌∷◌, ◌++◌, None, refl, sym, ◌∙◌, ap, subst, append_assoc}
use Rattle.qp_model.specs.declared.bodies.Body.{Body}
use Rattle.qp_model.specs.Told.{Told}
use Rattle.qp_model.specs.Sequence.{Sequence, EachPart, joined}
use Rattle.qp_check_shapes.specs.ShapeRelease.{IsUnambiguous}
use Rattle.qp_check_shapes.specs.GroupsRead.{ReadsAll}

-- parts that aren't empty, stand in front of a list in at most one way, and begin with no record of `outer`
pub record Parts (outer : Body → Bool) (W : List Told → Type 0) : Type 0 where
  pub filled : W [] → ⊥
  pub unique : (g gs h hs : List Told) → W g → W h → g ++ gs ≡ h ++ hs → gs ≡ hs
  pub inner : (t : Told) (ts : List Told) → W (t ∷ ts) → outer t.body ≡ true → ⊥

-- what is behind a part at the front of a last is a last
abbrev pub Behind : (List Told → Type 0) → (List Told → Type 0) → Type 0
Behind W L = (last g rest : List Told) → L last → W g → last ≡ g ++ rest → L rest

pub record Lasts (outer : Body → Bool) (W L : List Told → Type 0) : Type 0 where
  pub behind : (last g rest : List Told) → L last → W g → last ≡ g ++ rest → L rest
  pub inner : (t : Told) (ts : List Told) → L (t ∷ ts) → outer t.body ≡ true → ⊥

-- of two sequences in front of one list, one goes on with what is behind the other
pub compare : (outer : Body → Bool) (W : List Told → Type 0) → Parts outer W → (g gs h hs : List Told) → Sequence W g → Sequence W h → g ++ gs ≡ h ++ hs
    → ((m : List Told) × Sequence W m × (gs ≡ m ++ hs)) ⊎ ((m : List Told) × Sequence W m × (hs ≡ m ++ gs))
unfolding Sequence
compare outer W laws g gs h hs s u is = go s.0 u.0 s.1 u.1 (sym (ap (λ us. us ++ gs) s.2) ∙ is ∙ ap (λ us. us ++ hs) u.2)
  where
    go : (ps qs : List (List Told)) → EachPart W ps → EachPart W qs → joined ps ++ gs ≡ joined qs ++ hs
        → ((m : List Told) × Sequence W m × (gs ≡ m ++ hs)) ⊎ ((m : List Told) × Sequence W m × (hs ≡ m ++ gs))
    go [] qs e f is = inl (joined qs, (qs, f, refl), is)
    go (p ∷ ps) [] e f is = inr (joined (p ∷ ps), (p ∷ ps, e, refl), sym is)
    go (p ∷ ps) (q ∷ qs) e f is =
        go ps qs e.1 f.1 (laws.unique p (joined ps ++ gs) q (joined qs ++ hs) e.0 f.0 (sym (append_assoc p (joined ps) gs) ∙ is ∙ append_assoc q (joined qs) hs))

-- behind a sequence at the front of a last is a last
pub last-behind : (W L : List Told → Type 0) → Behind W L → (last g rest : List Told) → L last → Sequence W g → last ≡ g ++ rest → L rest
unfolding Sequence
last-behind W L behind last g rest l s is = go s.0 s.1 last l (is ∙ ap (λ us. us ++ rest) s.2)
  where
    go : (ps : List (List Told)) → EachPart W ps → (last : List Told) → L last → last ≡ joined ps ++ rest → L rest
    go [] e last l is = subst L is l
    go (p ∷ ps) e last l is = go ps e.1 (joined ps ++ rest) (behind last p (joined ps ++ rest) l e.0 (is ∙ append_assoc p (joined ps) rest)) refl

-- a sequence in front of a list in front of which no part stands is empty
pub none-behind : (W : List Told → Type 0) (rest m last : List Told) → IsUnambiguous W rest None → Sequence W m → rest ≡ m ++ last → rest ≡ last
unfolding Sequence IsUnambiguous
none-behind W rest m last none s is = go s.0 s.1 (is ∙ ap (λ us. us ++ last) s.2)
  where
    go : (ps : List (List Told)) → EachPart W ps → rest ≡ joined ps ++ last → rest ≡ last
    go [] e is = is
    go (p ∷ ps) e is = absurd (none p (joined ps ++ last) (is ∙ append_assoc p (joined ps) last) e.0)

-- what is left, where all parts in front are read, is a last exactly where the list is parts and then a last
pub reads-last : (outer : Body → Bool) (W L : List Told → Type 0) → Parts outer W → Behind W L → (told rest : List Told) → ReadsAll W told rest
    → (g last : List Told) → Sequence W g → L last → told ≡ g ++ last → L rest
reads-last outer W L laws behind told rest reads g last s l is = by (compare outer W laws g last reads.whole rest s reads.parts (sym is ∙ reads.is))
  where
    by : ((m : List Told) × Sequence W m × (last ≡ m ++ rest)) ⊎ ((m : List Told) × Sequence W m × (rest ≡ m ++ last)) → L rest
    by (inl k) = last-behind W L behind last k.0 rest l k.1 k.2
    by (inr k) = subst L (sym (none-behind W rest k.0 last reads.none k.1 k.2)) l

-- no part, and no sequence of parts but an empty one, begins with an outer record
pub outer-behind : (outer : Body → Bool) (W : List Told → Type 0) → Parts outer W → (t : Told) (ts m rest : List Told) → outer t.body ≡ true → Sequence W m → t ∷ ts ≡ m ++ rest → t ∷ ts ≡ rest
unfolding Sequence
outer-behind outer W laws t ts m rest out s is = go s.0 s.1 (is ∙ ap (λ us. us ++ rest) s.2)
  where
    go : (ps : List (List Told)) → EachPart W ps → t ∷ ts ≡ joined ps ++ rest → t ∷ ts ≡ rest
    go [] e is = is
    go ([] ∷ ps) e is = absurd (laws.filled e.0)
    go ((u ∷ us) ∷ ps) e is = let same : t ≡ u = cc in absurd (laws.inner u us e.0 (subst (λ x. outer x.body ≡ true) same out))

-- where the parts are followed by an outer record, it stands in front of what is left
pub reads-close : (outer : Body → Bool) (W : List Told → Type 0) → Parts outer W → (told rest : List Told) → ReadsAll W told rest
    → (g : List Told) (t : Told) (ts : List Told) → Sequence W g → outer t.body ≡ true → told ≡ g ++ (t ∷ ts) → rest ≡ t ∷ ts
reads-close outer W laws told rest reads g t ts s out is = by (compare outer W laws g (t ∷ ts) reads.whole rest s reads.parts (sym is ∙ reads.is))
  where
    by : ((m : List Told) × Sequence W m × (t ∷ ts ≡ m ++ rest)) ⊎ ((m : List Told) × Sequence W m × (rest ≡ m ++ (t ∷ ts))) → rest ≡ t ∷ ts
    by (inl k) = sym (outer-behind outer W laws t ts k.0 rest out k.1 k.2)
    by (inr k) = none-behind W rest k.0 (t ∷ ts) reads.none k.1 k.2

-- parts that are followed by an outer record aren't parts and then a last
pub no-close : (outer : Body → Bool) (W L : List Told → Type 0) → Parts outer W → Lasts outer W L
    → (g last h : List Told) (t : Told) (ts : List Told) → Sequence W g → L last → Sequence W h → outer t.body ≡ true → g ++ last ≡ h ++ (t ∷ ts) → ⊥
no-close outer W L laws lasts g last h t ts s l u out is = by (compare outer W laws g last h (t ∷ ts) s u is)
  where
    by : ((m : List Told) × Sequence W m × (last ≡ m ++ (t ∷ ts))) ⊎ ((m : List Told) × Sequence W m × (t ∷ ts ≡ m ++ last)) → ⊥
    by (inl k) = lasts.inner t ts (last-behind W L lasts.behind last k.0 (t ∷ ts) l k.1 k.2) out
    by (inr k) = lasts.inner t ts (subst L (sym (outer-behind outer W laws t ts k.0 last out k.1 k.2)) l) out
