-- The grammar of a line.
use Rattle.std.specs.Prelude.{ℕ, ◌==◌, ◌&&◌, List, [], ◌∷◌, length, codes, if◌then◌else◌, Some, None}
use Rattle.std.specs.declared.option.Option.{Option}
use Rattle.std.specs.Option.{option_map}
use Rattle.std.specs.Str.{bytes_eq}
use Rattle.qp_stim.specs.Parts.{split_at_separator, before_separator, after_separator, tokens_of_line}
use Rattle.qp_stim.specs.Numbers.{number_of_token}
use Rattle.qp_chart_text.specs.Tokens.{◌>>=◌, is_identifier}

-- an event as a line names it: its signal and its parameters
pub record EventWords : Type 0 where
  pub signal : List ℕ
  pub pars : List ℕ

-- what a line says, with its names not looked up and its numbers of any size
pub data Said : Type 0 where
  Source : (number : ℕ) → Said
  Post : (object : List ℕ) (event : EventWords) (margin reserve : Option ℕ) → Said
  Publish : (event : EventWords) (reserve : Option ℕ) → Said
  Tick : (rate : ℕ) → Said
  Settle : Said

-- NUM { "," NUM }
unfoldable pub numbers_of_tokens : List (List ℕ) → Option (List ℕ)
numbers_of_tokens [] = Some []
numbers_of_tokens (token ∷ more) = do
  n ← number_of_token token
  ns ← numbers_of_tokens more
  Some (n ∷ ns)

-- the numbers, where nothing stands behind `)`
abbrev pub numbers_closed : List ℕ → Option (List ℕ) → Option (List ℕ)
numbers_closed body None = None
numbers_closed body (Some []) = numbers_of_tokens (split_at_separator 44 body)
numbers_closed body (Some (b ∷ bs)) = None

-- [ "(" NUM { "," NUM } ")" ]
abbrev pub pars_of : Option (List ℕ) → Option (List ℕ)
pars_of None = Some []
pars_of (Some inside) = numbers_closed (before_separator 41 inside) (after_separator 41 inside)

-- SIGNAL [ "(" NUM { "," NUM } ")" ]
unfoldable pub event_of_words : List ℕ → Option EventWords
event_of_words token = if is_identifier (before_separator 40 token) then option_map (λ pars. record { signal = before_separator 40 token; pars = pars }) (pars_of (after_separator 40 token)) else None

-- [ WORD NUM ], and the tokens behind it
unfoldable pub option_at : List ℕ → List (List ℕ) → Option (Option ℕ × List (List ℕ))
option_at word [] = Some (None, [])
option_at word (w ∷ []) = if bytes_eq w word then None else Some (None, w ∷ [])
option_at word (w ∷ token ∷ more) = if bytes_eq w word then option_map (λ n. (Some n, more)) (number_of_token token) else Some (None, w ∷ token ∷ more)

-- NUM, and nothing behind it
unfoldable pub only_number : List (List ℕ) → Option ℕ
only_number (token ∷ []) = number_of_token token
only_number _ = None

-- OBJECT EVENT [margin NUM] [reserve NUM]
unfoldable pub post_of : List (List ℕ) → Option Said
post_of (object ∷ event ∷ more) = do
  e ← event_of_words event
  margin ← option_at (codes "margin") more
  reserve ← option_at (codes "reserve") margin.1
  if is_identifier object && (length reserve.1 == 0) then Some (Post object e margin.0 reserve.0) else None
post_of _ = None

-- EVENT [reserve NUM]
unfoldable pub publish_of : List (List ℕ) → Option Said
publish_of (event ∷ more) = do
  e ← event_of_words event
  reserve ← option_at (codes "reserve") more
  if length reserve.1 == 0 then Some (Publish e reserve.0) else None
publish_of _ = None

-- a line by its first word
unfoldable pub said_by : List ℕ → List (List ℕ) → Option Said
said_by word more =
    if bytes_eq word (codes "source") then option_map (λ n. Source n) (only_number more)
    else if bytes_eq word (codes "post") then post_of more
    else if bytes_eq word (codes "publish") then publish_of more
    else if bytes_eq word (codes "tick") then option_map (λ n. Tick n) (only_number more)
    else if bytes_eq word (codes "settle") && (length more == 0) then Some Settle
    else None

abbrev pub said_in : List (List ℕ) → Option Said
said_in [] = None
said_in (word ∷ more) = said_by word more

-- what a line says, if it is in the grammar
abbrev pub said_of : List ℕ → Option Said
said_of line = said_in (tokens_of_line line)
