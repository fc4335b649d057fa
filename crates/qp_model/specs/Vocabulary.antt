-- The words of journal items, and how many numbers each has.
use Rattle.std.specs.Prelude.{ℕ, ◌==◌, nat_le, Bool, false, ◌&&◌, ◌||◌, List, [], ◌∷◌, length, slice_index, slice_get, if◌then◌else◌}
use Rattle.std.specs.Option.{unwrap_or}
use Rattle.qp_model.specs.Kinds.{NEW, ASSERT, kind_words}

-- the word of an id
abbrev pub word_text : ℕ → List ℕ
word_text id = unwrap_or (slice_get kind_words id) []

-- how many numbers the items have, by id from 0 on; `new` and `assert` have rules of their own
abbrev pub counts : List ℕ
counts =
    0
    ∷ 3 ∷ 1 ∷ 1
    ∷ 1 ∷ 7 ∷ 4 ∷ 5 ∷ 3 ∷ 1 ∷ 2 ∷ 2
    ∷ 2 ∷ 2 ∷ 1 ∷ 0 ∷ 5 ∷ 4 ∷ 5 ∷ 5
    ∷ 8 ∷ 7 ∷ 6 ∷ 4 ∷ 2 ∷ 2 ∷ 4 ∷ 1
    ∷ 4 ∷ 1 ∷ 4 ∷ 3 ∷ 3 ∷ 3 ∷ 5 ∷ 4
    ∷ 5 ∷ 3 ∷ 4 ∷ 4 ∷ 3 ∷ 1 ∷ 0 ∷ 1
    ∷ 2 ∷ 3 ∷ 2
    ∷ []

-- an assertion has an object, its code, and as many numbers as that code has
abbrev pub has_assert_count : List ℕ → Bool
has_assert_count (o ∷ code ∷ nums) =
    (((code == 1) || (code == 5)) && (length nums == 4)) || (((code == 2) || (code == 3) || (code == 4)) && (length nums == 3))
has_assert_count _ = false

-- the item has as many numbers as its word has
abbrev pub has_count : ℕ → List ℕ → Bool
has_count id nums =
    if id == NEW then nat_le 6 (length nums) && nat_le (length nums) 14
    else (if id == ASSERT then has_assert_count nums else length nums == slice_index counts id)
