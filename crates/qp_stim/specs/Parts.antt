-- The parts of a text: lines, and the tokens of a line.
use Rattle.std.specs.Prelude.{ℕ, ◌+◌, ◌==◌, Bool, true, List, [], ◌∷◌, drop}
use Rattle.std.specs.declared.option.Option.{Option}
use Rattle.std.specs.List.{slice_split, before_first, position}
use Rattle.std.specs.Option.{option_map}

-- the parts of a text between the separators; a text without one is one part
abbrev pub split_at_separator : ℕ → List ℕ → List (List ℕ)
split_at_separator separator text = slice_split (λ b. b == separator) text

-- what stands before the first separator, or all where there is none
abbrev pub before_separator : ℕ → List ℕ → List ℕ
before_separator separator text = before_first (λ b. b == separator) text

-- what stands after the first separator, if there is one
abbrev pub after_separator : ℕ → List ℕ → Option (List ℕ)
after_separator separator text = option_map (λ place. drop (place + 1) text) (position (λ b. b == separator) text)

-- lines are ended by newlines; behind the last newline stands no line or an empty one, which says nothing either
abbrev pub lines : List ℕ → List (List ℕ)
lines text = split_at_separator 10 text

-- tokens are separated by single spaces: a space too many, or one at either end, makes an empty token
abbrev pub tokens_of_line : List ℕ → List (List ℕ)
tokens_of_line line = split_at_separator 32 line

-- an empty line, and one that begins with `#`, whatever bytes follow
abbrev pub is_skipped : List ℕ → Bool
is_skipped [] = true
is_skipped (b ∷ bs) = b == 35
