-- Groups that aren't empty are parts too, and what a break leaves behind them is a last.
use Rattle.std.proofs.Common.{◌≡◌, ℕ, max, true, ◌⊎◌, inl, inr, List, [], ◌∷◌, ◌++◌, refl, sym, ◌∙◌, ap, subst, append_assoc}
use Rattle.std.proofs.lemmas.Bool.{false≢true}
use Rattle.qp_model.specs.declared.bodies.Body.{Body}
use Rattle.qp_model.specs.declared.bodies.Body.TheVariants as item
use Rattle.qp_model.specs.Told.{Told, Nothing, Former, plain, raised}
use Rattle.qp_model.specs.Sequence.{Sequence}
use Rattle.qp_model.specs.Groups.{is_move}
use Rattle.qp_check_shapes.specs.GroupsRead.{ReadsAll, IsElement, Notes, Acts, Locks, RaisesOnly, IsEnd, EndsPlainly, EndsUnder, Breaks, is_close, is_outer}
use Rattle.qp_check_shapes.proofs.GroupsReadLemmas.{Parts, Lasts, compare, reads-last, outer-behind, no-close}

move-outer : (b : Body) → is_move b ≡ true → is_outer b ≡ true
move-outer (item.Exit s) h = refl
move-outer (item.Enter s) h = refl
move-outer (item.Init s) h = refl
move-outer b h = absurd (false≢true h)

close-outer : (b : Body) → is_close b ≡ true → is_outer b ≡ true
close-outer (item.Unlock ceiling) h = refl
close-outer item.Done h = refl
close-outer b h = absurd (false≢true h)

move-open : (b : Body) → is_move b ≡ true → is_close b ≡ true → ⊥
move-open (item.Exit s) h k = cc
move-open (item.Enter s) h k = cc
move-open (item.Init s) h k = cc
move-open b h k = cc

-- a list that begins with an outer record is no action
outer-acts : (W : List Told → Type 0) → Parts is_outer W → (t u : Told) (ts g : List Told) → is_outer u.body ≡ true → t ≡ u → g ≡ t ∷ ts → W g → ⊥
outer-acts W laws t u ts g out same is w = laws.inner t ts (subst W is w) (subst (λ x. is_outer x.body ≡ true) (sym same) out)

-- a record that states all isn't one with the ceiling before it
pub plain-raised : (b : Body) (m f : ℕ) → plain b ≡ raised m f → ⊥
plain-raised b m f e = let known : Nothing ≡ Former f = ap (λ (x : Told). x.known) e in cc

-- an element whose first record is raised
locked-behind : (W : List Told → Type 0) → Parts is_outer W → (f m k n : ℕ) (inner other gs hs : List Told) → Sequence W inner → Sequence W other
    → raised m f ∷ ((inner ++ (plain (item.Unlock f) ∷ [])) ++ gs) ≡ raised n k ∷ ((other ++ (plain (item.Unlock k) ∷ [])) ++ hs) → gs ≡ hs
locked-behind W laws f m k n inner other gs hs s u is =
    by (compare is_outer W laws inner (plain (item.Unlock f) ∷ gs) other (plain (item.Unlock k) ∷ hs) s u
    (sym (append_assoc inner (plain (item.Unlock f) ∷ []) gs) ∙ tails ∙ append_assoc other (plain (item.Unlock k) ∷ []) hs))
  where
    tails : (inner ++ (plain (item.Unlock f) ∷ [])) ++ gs ≡ (other ++ (plain (item.Unlock k) ∷ [])) ++ hs
    tails = cc

    by : ((m : List Told) × Sequence W m × (plain (item.Unlock f) ∷ gs ≡ m ++ (plain (item.Unlock k) ∷ hs)))
        ⊎ ((m : List Told) × Sequence W m × (plain (item.Unlock k) ∷ hs ≡ m ++ (plain (item.Unlock f) ∷ gs))) → gs ≡ hs
    by (inl c) = let e : plain (item.Unlock f) ∷ gs ≡ plain (item.Unlock k) ∷ hs = outer-behind is_outer W laws (plain (item.Unlock f)) gs c.0 (plain (item.Unlock k) ∷ hs) refl c.1 c.2 in cc
    by (inr c) = let e : plain (item.Unlock k) ∷ hs ≡ plain (item.Unlock f) ∷ gs = outer-behind is_outer W laws (plain (item.Unlock k)) hs c.0 (plain (item.Unlock f) ∷ gs) refl c.1 c.2 in cc

-- what is behind a list that begins with this record, where that list is an action
note-behind : (W : List Told → Type 0) → Parts is_outer W → (b : Body) (g gs hs : List Told) → is_move b ≡ true → IsElement W g → plain b ∷ hs ≡ g ++ gs → hs ≡ gs
note-behind W laws b g gs hs move (Notes c k e) is = let all : plain b ∷ hs ≡ plain c ∷ gs = is ∙ ap (λ us. us ++ gs) e in cc
note-behind W laws b g gs hs move (Acts w) is = by g w is
  where
    by : (g : List Told) → W g → plain b ∷ hs ≡ g ++ gs → hs ≡ gs
    by [] w is = absurd (laws.filled w)
    by (t ∷ ts) w is = absurd (outer-acts W laws t (plain b) ts (t ∷ ts) (move-outer b move) (cc) refl w)
note-behind W laws b g gs hs move (Locks f c inner s e) is =
    let all : plain b ∷ hs ≡ raised (max f c) f ∷ ((inner ++ (plain (item.Unlock f) ∷ [])) ++ gs) = is ∙ ap (λ us. us ++ gs) e in
    absurd (plain-raised b (max f c) f (cc))

locks-behind : (W : List Told → Type 0) → Parts is_outer W → (f c : ℕ) (inner g gs hs : List Told) → Sequence W inner → IsElement W g
    → raised (max f c) f ∷ ((inner ++ (plain (item.Unlock f) ∷ [])) ++ hs) ≡ g ++ gs → hs ≡ gs
locks-behind W laws f c inner g gs hs s (Notes b k e) is =
    let all : raised (max f c) f ∷ ((inner ++ (plain (item.Unlock f) ∷ [])) ++ hs) ≡ plain b ∷ gs = is ∙ ap (λ us. us ++ gs) e in
    absurd (plain-raised b (max f c) f (cc))
locks-behind W laws f c inner g gs hs s (Acts w) is = by g w is
  where
    by : (g : List Told) → W g → raised (max f c) f ∷ ((inner ++ (plain (item.Unlock f) ∷ [])) ++ hs) ≡ g ++ gs → hs ≡ gs
    by [] w is = absurd (laws.filled w)
    by (t ∷ ts) w is = absurd (outer-acts W laws t (raised (max f c) f) ts (t ∷ ts) refl (cc) refl w)
locks-behind W laws f c inner g gs hs s (Locks k d other u e) is =
    locked-behind W laws f (max f c) k (max k d) inner other hs gs s u (is ∙ ap (λ us. us ++ gs) e)

acts-behind : (W : List Told → Type 0) → Parts is_outer W → (g gs h hs : List Told) → W g → IsElement W h → g ++ gs ≡ h ++ hs → gs ≡ hs
acts-behind W laws g gs h hs w (Acts v) is = laws.unique g gs h hs w v is
acts-behind W laws g gs h hs w (Notes b k e) is = sym (note-behind W laws b g gs hs k (Acts w) (sym (is ∙ ap (λ us. us ++ hs) e)))
acts-behind W laws g gs h hs w (Locks f c inner s e) is = sym (locks-behind W laws f c inner g gs hs s (Acts w) (sym (is ∙ ap (λ us. us ++ hs) e)))

-- elements are parts
pub element-parts : (W : List Told → Type 0) → Parts is_outer W → Parts is_close (IsElement W)
element-parts W laws = record { filled = filled; unique = unique; inner = inner }
  where
    filled : IsElement W [] → ⊥
    filled (Notes b k e) = cc
    filled (Acts w) = laws.filled w
    filled (Locks f c inner s e) = cc

    unique : (g gs h hs : List Told) → IsElement W g → IsElement W h → g ++ gs ≡ h ++ hs → gs ≡ hs
    unique g gs h hs (Notes b k e) q is = note-behind W laws b h hs gs k q (sym (ap (λ us. us ++ gs) e) ∙ is)
    unique g gs h hs (Acts w) q is = acts-behind W laws g gs h hs w q is
    unique g gs h hs (Locks f c inner s e) q is = locks-behind W laws f c inner h hs gs s q (sym (ap (λ us. us ++ gs) e) ∙ is)

    inner : (t : Told) (ts : List Told) → IsElement W (t ∷ ts) → is_close t.body ≡ true → ⊥
    inner t ts (Notes b k e) out = let same : t ≡ plain b = cc in move-open b k (subst (λ x. is_close x.body ≡ true) same out)
    inner t ts (Acts w) out = laws.inner t ts w (close-outer t.body out)
    inner t ts (Locks f c held s e) out = let same : t ≡ raised (max f c) f = cc in let no : is_close (raised (max f c) f).body ≡ true = subst (λ x. is_close x.body ≡ true) same out in cc

-- an element at the front of a raised ceiling that isn't restored
under-no : (W L : List Told → Type 0) → Parts is_outer W → Lasts is_outer W L → (f c : ℕ) (inner last g rest : List Told) → Sequence W inner → L last
    → IsElement W g → raised (max f c) f ∷ (inner ++ last) ≡ g ++ rest → ⊥
under-no W L laws lasts f c inner last g rest s l (Notes b k e) is =
    let all : raised (max f c) f ∷ (inner ++ last) ≡ plain b ∷ rest = is ∙ ap (λ us. us ++ rest) e in
    plain-raised b (max f c) f (cc)
under-no W L laws lasts f c inner last g rest s l (Acts w) is = by g w is
  where
    by : (g : List Told) → W g → raised (max f c) f ∷ (inner ++ last) ≡ g ++ rest → ⊥
    by [] w is = laws.filled w
    by (t ∷ ts) w is = outer-acts W laws t (raised (max f c) f) ts (t ∷ ts) refl (cc) refl w
under-no W L laws lasts f c inner last g rest s l (Locks k d other u e) is =
    no-close is_outer W L laws lasts inner last other (plain (item.Unlock k)) rest s l u refl (tails ∙ append_assoc other (plain (item.Unlock k) ∷ []) rest)
  where
    tails : inner ++ last ≡ (other ++ (plain (item.Unlock k) ∷ [])) ++ rest
    tails = let all : raised (max f c) f ∷ (inner ++ last) ≡ raised (max k d) k ∷ ((other ++ (plain (item.Unlock k) ∷ [])) ++ rest) = is ∙ ap (λ us. us ++ rest) e in cc

-- ends are lasts behind elements
pub end-lasts : (W L : List Told → Type 0) → Parts is_outer W → Lasts is_outer W L → Lasts is_close (IsElement W) (IsEnd W L)
end-lasts W L laws lasts = record { behind = behind; inner = inner }
  where
    first-out : (b : Body) (g rest : List Told) → is_outer b ≡ true → L (plain b ∷ rest) → ⊥
    first-out b g rest out l = lasts.inner (plain b) rest l out

    behind : (last g rest : List Told) → IsEnd W L last → IsElement W g → last ≡ g ++ rest → IsEnd W L rest
    behind last g rest (EndsPlainly l) (Notes b k e) is = absurd (lasts.inner (plain b) rest (subst L (is ∙ ap (λ us. us ++ rest) e) l) (move-outer b k))
    behind last g rest (EndsPlainly l) (Acts w) is = EndsPlainly (lasts.behind last g rest l w is)
    behind last g rest (EndsPlainly l) (Locks f c inner s e) is =
        absurd (lasts.inner (raised (max f c) f) ((inner ++ (plain (item.Unlock f) ∷ [])) ++ rest) (subst L (is ∙ ap (λ us. us ++ rest) e) l) refl)
    behind last g rest (EndsUnder (RaisesOnly f c inner end s l e)) q is = absurd (under-no W L laws lasts f c inner end g rest s l q (sym e ∙ is))

    inner : (t : Told) (ts : List Told) → IsEnd W L (t ∷ ts) → is_close t.body ≡ true → ⊥
    inner t ts (EndsPlainly l) out = lasts.inner t ts l (close-outer t.body out)
    inner t ts (EndsUnder (RaisesOnly f c held end s l e)) out =
        let same : t ≡ raised (max f c) f = cc in let no : is_close (raised (max f c) f).body ≡ true = subst (λ x. is_close x.body ≡ true) same out in cc

-- a break is the end of what is left, where all groups in front are read
pub breaks-end : (W L : List Told → Type 0) → Parts is_outer W → Lasts is_outer W L → (told rest : List Told) → ReadsAll (IsElement W) told rest → Breaks W L told → IsEnd W L rest
unfolding Breaks
breaks-end W L laws lasts told rest reads b =
    reads-last is_close (IsElement W) (IsEnd W L) (element-parts W laws) (end-lasts W L laws lasts).behind told rest reads b.0 b.1 b.2 b.3 b.4

pub end-breaks : (W L : List Told → Type 0) (told rest : List Told) → ReadsAll (IsElement W) told rest → IsEnd W L rest → Breaks W L told
unfolding Breaks
end-breaks W L told rest reads e = (reads.whole, rest, reads.parts, e, reads.is)
