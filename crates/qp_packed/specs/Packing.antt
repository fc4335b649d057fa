-- Records in words of 32 bits: a head, then each number in one word, a wide one in two.
use Rattle.std.specs.Prelude.{◌≡◌, ℕ, zero, suc, ◌+◌, ◌*◌, ◌/◌, ◌%◌, ◌<◌, ◌≤◌, ◌==◌, nat_lt, List, [], ◌∷◌, ◌++◌, length, take, if◌then◌else◌}
use Rattle.std.specs.List.{AllByRecursion, AllByRecursion-prop}
use Rattle.std.proofs.Props.{props}

-- what a record is made of
pub record PackedRecord : Type 0 where
  pub kind : ℕ
  pub of : ℕ
  pub numbers : List ℕ

-- a number that one word doesn't hold
abbrev pub wide : ℕ → ℕ
wide x = if nat_lt x 4294967296 then 0 else 1

-- which of the numbers are wide, the first one lowest, and a 1 behind the last
unfoldable pub wide_marks : List ℕ → ℕ
wide_marks [] = 1
wide_marks (x ∷ xs) = wide x + 2 * wide_marks xs

-- a number in its words, the low one first
abbrev pub spread_one : ℕ → List ℕ
spread_one x = if nat_lt x 4294967296 then x ∷ [] else (x % 4294967296) ∷ (x / 4294967296) ∷ []

unfoldable pub spread : List ℕ → List ℕ
spread [] = []
spread (x ∷ xs) = spread_one x ++ spread xs

-- the head of a record
abbrev pub head_of : PackedRecord → ℕ
head_of r = r.kind + 256 * r.of + 65536 * wide_marks r.numbers

-- a record in its words
abbrev pub packed_one : PackedRecord → List ℕ
packed_one r = head_of r ∷ spread r.numbers

unfoldable pub packed : List PackedRecord → List ℕ
packed [] = []
packed (r ∷ rs) = packed_one r ++ packed rs

-- where the record begins that so many stand before
abbrev pub record_begin : ℕ → List PackedRecord → ℕ
record_begin k rs = length (packed (take k rs))

-- the first of some words, and the others
abbrev pub first_packed : List ℕ → ℕ
first_packed [] = 0
first_packed (w ∷ ws) = w

abbrev pub others : List ℕ → List ℕ
others [] = []
others (w ∷ ws) = ws

-- the numbers, so many at most, that so marked words begin with
unfoldable pub numbers_in : ℕ → ℕ → List ℕ → List ℕ
numbers_in zero mark ws = []
numbers_in (suc k) mark ws =
    if nat_lt mark 2 then [] else (if mark % 2 == 0 then first_packed ws ∷ numbers_in k (mark / 2) (others ws) else (first_packed ws + 4294967296 * first_packed (others ws)) ∷ numbers_in k (mark / 2) (others (others ws)))

-- the words behind them
unfoldable pub words_behind : ℕ → ℕ → List ℕ → List ℕ
words_behind zero mark ws = ws
words_behind (suc k) mark ws =
    if nat_lt mark 2 then ws else (if mark % 2 == 0 then words_behind k (mark / 2) (others ws) else words_behind k (mark / 2) (others (others ws)))

-- so many records that words begin with
unfoldable pub records_read : ℕ → List ℕ → List PackedRecord
records_read zero ws = []
records_read (suc n) [] = []
records_read (suc n) (h ∷ ws) =
    record { kind = h % 256; of = h / 256 % 256; numbers = numbers_in 13 (h / 65536) ws } ∷ records_read n (words_behind 13 (h / 65536) ws)

-- a record that the words hold
pub record FitsInWords (r : PackedRecord) : Type 0 where
  pub kind : r.kind < 256
  pub of : r.of < 256
  pub few : length r.numbers ≤ 13

-- these words are just so many records
pub record ArePacked (n : ℕ) (ws : List ℕ) : Type 0 where
  pub words : ws ≡ packed (records_read n ws)
  pub count : length (records_read n ws) ≡ n
  pub fit : AllByRecursion FitsInWords (records_read n ws)

Fits-prop : (r : PackedRecord) → IsProp (FitsInWords r)
Fits-prop r = hlevel props

all_fit-prop : (rs : List PackedRecord) → IsProp (AllByRecursion FitsInWords rs)
all_fit-prop rs = AllByRecursion-prop FitsInWords Fits-prop rs

pub ArePacked-prop : (n : ℕ) (ws : List ℕ) → IsProp (ArePacked n ws)
ArePacked-prop n ws = hlevel (props, all_fit-prop)
