-- Numbers in a journal's text.
use Rattle.std.specs.Prelude.{ℕ, ◌+◌, ◌-◌, ◌^◌, ◌==◌, nat_lt, nat_le, Bool, ◌&&◌, List, [], ◌∷◌, if◌then◌else◌, Option, Some, None, decimal}
use Rattle.std.specs.Option.{option_map}
use Rattle.std.specs.Str.{bytes_eq}
use Rattle.qp_chart_text.specs.Tokens.{value_after}

-- a number, if 64 bits hold it
abbrev pub fitting : ℕ → Option ℕ
fitting n = if nat_lt n (2 ^ 64) then Some n else None

-- the number, if its decimal is this very text
abbrev pub if_canonical : List ℕ → ℕ → Option ℕ
if_canonical text n = if bytes_eq (decimal n) text then Some n else None

-- a number, if there is one, and what comes of it
abbrev pub and_then : {A B : Type 0} → Option A → (A → Option B) → Option B
and_then None f = None
and_then (Some a) f = f a

-- a number of 64 bits whose decimal is this very text
abbrev pub number_of_decimal : List ℕ → Option ℕ
number_of_decimal text = and_then (fitting (value_after 0 text)) (if_canonical text)

-- the bits of a signed number by its size
abbrev pub bits_of_positive : ℕ → Option ℕ
bits_of_positive n = if nat_lt n (2 ^ 63) then Some n else None

abbrev pub bits_of_negative : ℕ → Option ℕ
bits_of_negative n = if nat_le 1 n && nat_le n (2 ^ 63) then Some (2 ^ 64 - n) else None

-- the 64 bits of a signed number: a minus stands before a negative one
abbrev pub signed_of : List ℕ → Option ℕ
signed_of [] = None
signed_of (b ∷ digits) =
    if b == 45 then and_then (number_of_decimal digits) bits_of_negative else and_then (number_of_decimal (b ∷ digits)) bits_of_positive

-- the number at this place after the word; where values have signs, the second is one
abbrev pub number_at : Bool → ℕ → List ℕ → Option ℕ
number_at has_signs place text = if has_signs && (place == 1) then signed_of text else number_of_decimal text

-- the numbers from this place on, if each text is one
abbrev pub numbers_at : Bool → ℕ → List (List ℕ) → Option (List ℕ)
numbers_at has_signs place [] = Some []
numbers_at has_signs place (text ∷ texts) =
    and_then (number_at has_signs place text) (λ n. option_map (λ nums. n ∷ nums) (numbers_at has_signs (place + 1) texts))
