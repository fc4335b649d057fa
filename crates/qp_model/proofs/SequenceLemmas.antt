-- Lists made of parts grow by a part, and by one another.
use Rattle.std.proofs.Common.{◌≡◌, List, [], ◌∷◌, ◌++◌, refl, sym, ◌∙◌, ap, append_assoc, append-nil}
use Rattle.qp_model.specs.Sequence.{joined, EachPart, Sequence}

joined-append : {X : Type 0} (parts more : List (List X)) → joined (parts ++ more) ≡ joined parts ++ joined more
unfolding joined
joined-append [] more = refl
joined-append (part ∷ parts) more = ap (λ xs. part ++ xs) (joined-append parts more) ∙ sym (append_assoc part (joined parts) (joined more))

each-append : {X : Type 0} (P : List X → Type 0) (parts more : List (List X)) → EachPart P parts → EachPart P more → EachPart P (parts ++ more)
unfolding EachPart
each-append P [] more h k = k
each-append P (part ∷ parts) more h k = (h.0, each-append P parts more h.1 k)

pub sequence-none : {X : Type 0} (P : List X → Type 0) → Sequence P []
unfolding Sequence EachPart joined
sequence-none P = ([], tt, refl)

pub sequence-one : {X : Type 0} (P : List X → Type 0) (xs : List X) → P xs → Sequence P xs
unfolding Sequence EachPart joined
sequence-one P xs h = (xs ∷ [], (h, tt), sym (append-nil xs))

pub sequence-append : {X : Type 0} (P : List X → Type 0) (xs ys : List X) → Sequence P xs → Sequence P ys → Sequence P (xs ++ ys)
unfolding Sequence
sequence-append P xs ys h k =
    (h.0 ++ k.0, each-append P h.0 k.0 h.1 k.1, ap (λ zs. zs ++ ys) h.2 ∙ ap (λ zs. joined h.0 ++ zs) k.2 ∙ sym (joined-append h.0 k.0))

-- a part more in front, and at the end
pub sequence-cons : {X : Type 0} (P : List X → Type 0) (xs ys : List X) → P xs → Sequence P ys → Sequence P (xs ++ ys)
sequence-cons P xs ys h k = sequence-append P xs ys (sequence-one P xs h) k

pub sequence-snoc : {X : Type 0} (P : List X → Type 0) (xs ys : List X) → Sequence P xs → P ys → Sequence P (xs ++ ys)
sequence-snoc P xs ys h k = sequence-append P xs ys h (sequence-one P ys k)
