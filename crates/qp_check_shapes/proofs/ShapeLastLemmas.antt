-- The last record of a list.
use Rattle.std.proofs.Common.{◌≡◌, suc, ◌-◌, Bool, false, List, [], ◌∷◌, length, Some, None, refl, sym, ◌∙◌, ap, slice_get, arith}
use Rattle.std.specs.declared.option.Option.{Option}
use Rattle.qp_model.specs.Told.{Told}
use Rattle.qp_model.specs.Groups.{is_post, ends_in_post}

abbrev post_of : Option Told → Bool
post_of None = false
post_of (Some t) = is_post t.body

last-post : (told : List Told) → ends_in_post told ≡ post_of (slice_get told (length told - 1))
unfolding ends_in_post
last-post [] = refl
last-post (t ∷ []) = refl
last-post (t ∷ u ∷ ts) =
    let place : length (t ∷ u ∷ ts) - 1 ≡ suc (length (u ∷ ts) - 1) = omega arith in
    last-post (u ∷ ts) ∙ sym (ap (λ i. post_of (slice_get (t ∷ u ∷ ts) i)) place)

pub some-last : (told : List Told) (t : Told) → Some t ≡ slice_get told (length told - 1) → is_post t.body ≡ ends_in_post told
some-last told t h = ap post_of h ∙ sym (last-post told)

pub none-last : (told : List Told) → None ≡ slice_get told (length told - 1) → false ≡ ends_in_post told
none-last told h = ap post_of h ∙ sym (last-post told)
