-- Ids of words, and counts of numbers.
use Rattle.std.proofs.Common.{◌≡◌, ℕ, zero, suc, ◌+◌, ◌-◌, ◌<◌, ◌≤◌, Bool, true, false, Some, None, cond, refl, arith, inl, inr}
use Rattle.std.specs.Prelude.{List, [], ◌∷◌, ◌==◌, ◌&&◌, ◌||◌, ◌⊎◌, length, nat_le, slice_index}
use Rattle.qp_model.specs.Kinds.{NEW, ASSERT}
use Rattle.std.specs.List.{list_all}
use Rattle.std.proofs.lemmas.Bool.{leb-true, eqb-true, and_parts}
use Rattle.std.specs.Str.{bytes_eq}
use Rattle.qp_model.specs.Vocabulary.{word_text, has_assert_count, has_count, counts}
use Rattle.qp_text.specs.LineItem.{id_from}

-- one id more
pub id-next : (last id : ℕ) (word : List ℕ) → id < last + 1
    → id_from (last + 1 - id) id word ≡ cond (bytes_eq (word_text id) word) (Some id) (id_from (last + 1 - (id + 1)) (id + 1) word)
id-next last id word inside =
    let one : last + 1 - id ≡ suc (last + 1 - (id + 1)) = omega arith in
    rw one refl

-- no id is left
pub id-none : (last id : ℕ) (word : List ℕ) → last + 1 ≤ id → id_from (last + 1 - id) id word ≡ None
id-none last id word past =
    let none : last + 1 - id ≡ 0 = omega arith in
    rw none refl

-- no number of the list is above n
pub index-within : (xs : List ℕ) (n i : ℕ) → list_all (λ (x : ℕ). nat_le x n) xs ≡ true → slice_index xs i ≤ n
index-within [] n i within = omega arith
index-within (x ∷ xs) n zero within = leb-true x n (and_parts (nat_le x n) (list_all (λ (y : ℕ). nat_le y n) xs) within).0
index-within (x ∷ xs) n (suc i) within = index-within xs n i (and_parts (nat_le x n) (list_all (λ (y : ℕ). nat_le y n) xs) within).1

-- one of two tests holds
one_of : (a b c d : Bool) → ((a && b) || (c && d)) ≡ true → (b ≡ true) ⊎ (d ≡ true)
one_of true true c d is = inl refl
one_of true false c true is = inr refl
one_of true false true false is = cc
one_of true false false false is = cc
one_of false b c true is = inr refl
one_of false b true false is = cc
one_of false b false false is = cc

-- an assertion has at most six numbers
assert-small : (nums : List ℕ) → has_assert_count nums ≡ true → length nums ≤ 14
assert-small [] has = omega arith
assert-small (o ∷ []) has = omega arith
assert-small (o ∷ code ∷ nums) has =
    elim (one_of ((code == 1) || (code == 5)) (length nums == 4) ((code == 2) || (code == 3) || (code == 4)) (length nums == 3) has) [
      | inl four ↦ omega (arith, eqb-true (length nums) 4 four)
      | inr three ↦ omega (arith, eqb-true (length nums) 3 three)
    ]

count-by : (is_new is_assert : Bool) (id : ℕ) (nums : List ℕ)
    → cond is_new (nat_le 6 (length nums) && nat_le (length nums) 14) (cond is_assert (has_assert_count nums) (length nums == slice_index counts id)) ≡ true
    → length nums ≤ 14
count-by true is_assert id nums has = leb-true (length nums) 14 (and_parts (nat_le 6 (length nums)) (nat_le (length nums) 14) has).1
count-by false true id nums has = assert-small nums has
count-by false false id nums has =
    omega (arith, eqb-true (length nums) (slice_index counts id) has, index-within counts 14 id refl)

-- no item has more than 14 numbers
pub count-small : (id : ℕ) (nums : List ℕ) → has_count id nums ≡ true → length nums ≤ 14
count-small id nums has = count-by (id == NEW) (id == ASSERT) id nums has
