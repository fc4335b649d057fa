-- Numbers: canonical decimal of any length.
use Rattle.std.specs.Prelude.{ℕ, ◌==◌, Bool, false, not, ◌&&◌, List, [], ◌∷◌, if◌then◌else◌, Some, None}
use Rattle.std.specs.declared.option.Option.{Option}
use Rattle.std.specs.List.{list_all}
use Rattle.std.specs.Char.{is_ascii_digit}
use Rattle.qp_chart_text.specs.Tokens.{value_after}

-- digits, the first of which is `0` only where it stands alone
abbrev pub is_decimal : List ℕ → Bool
is_decimal [] = false
is_decimal (b ∷ []) = is_ascii_digit b
is_decimal (b ∷ c ∷ bs) = is_ascii_digit b && not (b == 48) && list_all is_ascii_digit (c ∷ bs)

-- the number of a token, if it is one
unfoldable pub number_of_token : List ℕ → Option ℕ
number_of_token token = if is_decimal token then Some (value_after 0 token) else None
