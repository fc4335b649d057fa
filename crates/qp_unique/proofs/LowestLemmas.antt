-- The order in which each next record is from the lowest lane that may go on is one.
use Rattle.std.proofs.Common.{◌≡◌, ◌∙◌, ℕ, ◌<◌, ◌≤◌, ◌==◌, nat_lt, true, List, [], ◌∷◌, ◌++◌, length, ◌⊎◌, inl, inr, refl, sym, subst, arith}
use Rattle.std.proofs.lemmas.Bool.{cases_lt}
use Rattle.std.proofs.lemmas.Bool.Decides.{nat_tests}
use Rattle.std.proofs.lemmas.List.Sorted.{length_permutation}
use Rattle.qp_model.specs.declared.record.Rec.{Rec}
use Rattle.qp_model.specs.Places.{RecordPlace, must_precede, places}
use Rattle.qp_replay.specs.Orders.{GoesNext, GoesNextEach}
use Rattle.qp_unique.specs.JournalLaws.{OrdersAreOne}

module _ (lanes : List (List Rec)) where
  -- of one lane's records the first must stand first
  first-stands : (x y : RecordPlace) → x.lane ≡ y.lane → x.at < y.at → must_precede lanes x y ≡ true
  unfolding must_precede
  first-stands x y same less =
      let lane : (x.lane == y.lane) ≡ true = grind (arith, nat_tests, same) in
      let behind : nat_lt x.at y.at ≡ true = grind (arith, nat_tests, less) in
      rw (lane, behind) refl

  module _ (before : List RecordPlace) where
    -- what goes next isn't of a higher lane than what goes next too, nor behind it in its lane
    not-higher : (x y : RecordPlace) → GoesNext lanes before x → GoesNext lanes before y → x.lane < y.lane → ⊥
    not-higher x y one two less = two.lowest x less one.stands one.fresh one.ready

    not-behind : (x y : RecordPlace) → GoesNext lanes before x → GoesNext lanes before y → x.lane ≡ y.lane → x.at < y.at → ⊥
    not-behind x y one two same less = one.fresh (two.ready x one.stands (first-stands x y same less))

    neither : (m n : ℕ) → (m < n → ⊥) → (n < m → ⊥) → m ≡ n
    neither m n below above = by (cases_lt m n) (cases_lt n m)
      where
        by : (m < n) ⊎ (n ≤ m) → (n < m) ⊎ (m ≤ n) → m ≡ n
        by (inl less) other = absurd (below less)
        by (inr le) (inl more) = absurd (above more)
        by (inr le) (inr ge) = omega (arith, le, ge)

    next-one : (x y : RecordPlace) → GoesNext lanes before x → GoesNext lanes before y → x ≡ y
    next-one x y one two =
        let lane : x.lane ≡ y.lane = neither x.lane y.lane (not-higher x y one two) (not-higher y x two one) in
        let at : x.at ≡ y.at = neither x.at y.at (not-behind x y one two lane) (not-behind y x two one (sym lane)) in
        λ i. record { lane = lane i; at = at i }

  on-one : (before xs ys : List RecordPlace) → GoesNextEach lanes before xs → GoesNextEach lanes before ys → length xs ≡ length ys → xs ≡ ys
  on-one before [] [] one two same = refl
  on-one before [] (y ∷ ys) one two same = absurd (omega (arith, same))
  on-one before (x ∷ xs) [] one two same = absurd (omega (arith, same))
  on-one before (x ∷ xs) (y ∷ ys) one two same =
      let here : x ≡ y = next-one before x y one.0 two.0 in
      let behind : GoesNextEach lanes (before ++ x ∷ []) ys = subst (λ z. GoesNextEach lanes (before ++ z ∷ []) ys) (sym here) two.1 in
      let rest : xs ≡ ys = on-one (before ++ x ∷ []) xs ys one.1 behind (omega (arith, same)) in
      λ i. here i ∷ rest i

pub one-order : OrdersAreOne
one-order lanes xs ys one two =
    on-one lanes [] xs ys one.lowest two.lowest (length_permutation (places lanes) xs one.all ∙ sym (length_permutation (places lanes) ys two.all))
