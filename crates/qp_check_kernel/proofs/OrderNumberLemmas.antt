-- Numbers in the order of all records, record by record.
use Rattle.std.proofs.Common.{◌≡◌, ◌∙◌, ℕ, suc, ◌+◌, ◌<◌, ◌≤◌, ◌==◌, true, false, cond, ◌&&◌, List, [], ◌∷◌, ◌++◌, map, length, take, drop, get_or, ap, sym, refl, arith, length-take}
use Rattle.std.proofs.lemmas.List.{at_drop_all, length-map}
use Rattle.qp_model.specs.declared.words.Word.{Word}
use Rattle.qp_model.specs.Record.{Item}
use Rattle.qp_model.specs.History.{Touch, Draws, Shows, Neither, touch, drawn_on, total}
use Rattle.qp_model.specs.Places.{is_next, in_order}
use Rattle.qp_check_lanes.specs.WordTotals.{is_next_at, drawn_at}
use Rattle.qp_check_lanes.proofs.ItemLemmas.{map-from, map-up_to}
use Rattle.qp_model.proofs.HistoryLemmas.{total-length, total-snoc}

is_next-is : (before : List Item) (totals : Word → ℕ) → ((w : Word) → totals w ≡ total w before) → (t : Touch) → is_next_at totals t ≡ is_next before t
unfolding is_next
is_next-is before totals e (Draws w mark) = ap (λ n. mark == suc n) (e w)
is_next-is before totals e (Shows w mark) = ap (λ n. mark == n) (e w)
is_next-is before totals e Neither = refl

module _ {X : Type 0} (said : X → Item) (xs : List X) (i : ℕ) where
  pub total-small : (w : Word) → i ≤ length xs → total w (map said (take i xs)) ≤ i
  total-small w h = let e : length (map said (take i xs)) ≤ i = simp (length-map, length-take) (omega arith) in omega (arith, total-length w (map said (take i xs)))

  pub in_order-end : (before : List Item) → length xs ≤ i → in_order before (map said (drop i xs)) ≡ true
  unfolding in_order
  in_order-end before h = at_drop_all (λ l. in_order before (map said l)) xs i h

  module _ (x : X) (inside : i < length xs) (is : x ≡ get_or xs i x) (totals : Word → ℕ) (known : (w : Word) → totals w ≡ total w (map said (take i xs))) where
    pub total-more : (t : Touch) → t ≡ touch (said x) → (w : Word) → drawn_at totals w t ≡ total w (map said (take (i + 1) xs))
    total-more t e w =
        ap (λ n. n + cond (drawn_on w t) 1 0) (known w) ∙ ap (λ u. total w (map said (take i xs)) + cond (drawn_on w u) 1 0) e
        ∙ sym (ap (total w) (map-up_to said xs i x inside is) ∙ total-snoc w (map said (take i xs)) (said x))

    in_order-one : in_order (map said (take i xs)) (map said (drop i xs)) ≡ (is_next_at totals (touch (said x)) && in_order (map said (take (i + 1) xs)) (map said (drop (i + 1) xs)))
    unfolding in_order
    in_order-one =
        ap (in_order (map said (take i xs))) (map-from said xs i x inside is)
        ∙ ap (λ b. b && in_order (map said (take i xs) ++ said x ∷ []) (map said (drop (i + 1) xs))) (sym (is_next-is (map said (take i xs)) totals known (touch (said x))))
        ∙ ap (λ l. is_next_at totals (touch (said x)) && in_order l (map said (drop (i + 1) xs))) (sym (map-up_to said xs i x inside is))

    pub in_order-kept : (t : Touch) → t ≡ touch (said x) → is_next_at totals t ≡ true
        → in_order (map said (take i xs)) (map said (drop i xs)) ≡ in_order (map said (take (i + 1) xs)) (map said (drop (i + 1) xs))
    in_order-kept t e h = in_order-one ∙ ap (λ b. b && in_order (map said (take (i + 1) xs)) (map said (drop (i + 1) xs))) (ap (is_next_at totals) (sym e) ∙ h)

    pub in_order-broken : (t : Touch) → t ≡ touch (said x) → is_next_at totals t ≡ false → in_order (map said (take i xs)) (map said (drop i xs)) ≡ false
    in_order-broken t e h = in_order-one ∙ ap (λ b. b && in_order (map said (take (i + 1) xs)) (map said (drop (i + 1) xs))) (ap (is_next_at totals) (sym e) ∙ h)
