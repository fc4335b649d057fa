-- Lists made of parts: more parts, and parts of parts.
use Rattle.std.proofs.Common.{List, [], ◌∷◌, ◌++◌, refl, sym, ap, subst, append_assoc, append-nil}
use Rattle.qp_model.specs.Told.{Told}
use Rattle.qp_model.specs.Sequence.{Sequence, EachPart, joined}

pub sequence-none : (P : List Told → Type 0) → Sequence P []
unfolding Sequence
sequence-none P = ([], tt, refl)

pub sequence-more : (P : List Told → Type 0) (g gs : List Told) → P g → Sequence P gs → Sequence P (g ++ gs)
unfolding Sequence
sequence-more P g gs p s = (g ∷ s.0, (p, s.1), ap (λ us. g ++ us) s.2)

pub sequence-one : (P : List Told → Type 0) (g : List Told) → P g → Sequence P g
sequence-one P g p = subst (Sequence P) (append-nil g) (sequence-more P g [] p (sequence-none P))

pub sequence-append : (P : List Told → Type 0) (gs hs : List Told) → Sequence P gs → Sequence P hs → Sequence P (gs ++ hs)
unfolding Sequence
sequence-append P gs hs s more = subst (λ us. Sequence P (us ++ hs)) (sym s.2) (go s.0 s.1)
  where
    go : (ps : List (List Told)) → EachPart P ps → Sequence P (joined ps ++ hs)
    go [] e = more
    go (p ∷ ps) e = subst (Sequence P) (sym (append_assoc p (joined ps) hs)) (sequence-more P p (joined ps ++ hs) e.0 (go ps e.1))

-- where each part is made of smaller ones, the whole is
pub sequence-map : (P Q : List Told → Type 0) → ((g : List Told) → P g → Sequence Q g) → (gs : List Told) → Sequence P gs → Sequence Q gs
unfolding Sequence
sequence-map P Q f gs s = subst (Sequence Q) (sym s.2) (go s.0 s.1)
  where
    go : (ps : List (List Told)) → EachPart P ps → Sequence Q (joined ps)
    go [] e = sequence-none Q
    go (p ∷ ps) e = sequence-append Q p (joined ps) (f p e.0) (go ps e.1)
