-- The tokens of a text.
use Rattle.std.specs.Prelude.{ℕ, ◌+◌, ◌-◌, ◌*◌, ℤ, pos, zero, suc, nat_eq, nat_le, ◌==◌, ◌||◌, ◌&&◌, not, Bool, List, [], ◌∷◌, length, take, drop, slice_index, Option, Some, None, codes, if◌then◌else◌, false}
use Rattle.std.specs.Char.{is_ascii_digit, is_ascii_alphabetic}
use Rattle.std.specs.List.{prefix_len, list_all}
use Rattle.std.specs.Cmp.Lexicographic.{pointwise}
use Rattle.qp_chart_text.specs.declared.operators.Binary.{Binary}
use Rattle.qp_chart_text.specs.declared.operators.Binary.TheVariants as binary
use Rattle.qp_chart_text.specs.declared.tokens.Keyword.{Keyword}
use Rattle.qp_chart_text.specs.declared.tokens.Keyword.TheVariants as key
use Rattle.qp_chart_text.specs.declared.tokens.Token.{Token}
use Rattle.qp_chart_text.specs.declared.tokens.Token.TheVariants as token
use Rattle.qp_chart_text.specs.Terms.{Word}

-- a token, without where it lies in memory
pub data Tok : Type 0 where
  Num : (n : ℤ) → Tok
  Key : (word : Keyword) → Tok
  Name : (name : Word) → Tok
  Ok : Tok
  Me : Tok
  Par : (j : ℕ) → Tok
  Op : (op : Binary) → Tok
  Bang : Tok
  Assign : Tok
  Open : Tok
  Close : Tok
  OpenList : Tok
  CloseList : Tok
  Comma : Tok
  Semicolon : Tok

abbrev pub tok_of : Token → Tok
tok_of (token.Num n) = Num n
tok_of (token.Key k) = Key k
tok_of (token.Name name) = Name name
tok_of token.Ok = Ok
tok_of token.Me = Me
tok_of (token.Par j) = Par j
tok_of (token.Op op) = Op op
tok_of token.Bang = Bang
tok_of token.Assign = Assign
tok_of token.Open = Open
tok_of token.Close = Close
tok_of token.OpenList = OpenList
tok_of token.CloseList = CloseList
tok_of token.Comma = Comma
tok_of token.Semicolon = Semicolon

infixl 10 ◌>>=◌
-- goes on with what was found
abbrev pub ◌>>=◌ : {A B : Type 0} → Option A → (A → Option B) → Option B
None >>= f = None
(Some x) >>= f = f x

-- the two words are spelled alike
abbrev pub is_spelled : Word → Word → Bool
is_spelled a b = pointwise nat_eq a b

-- the reserved word that is spelled so
unfoldable pub keyword_of : Word → Option Keyword
keyword_of w =
    if is_spelled w (codes "locked") then Some key.Locked
    else (if is_spelled w (codes "say") then Some key.Say
    else (if is_spelled w (codes "post") then Some key.Post
    else (if is_spelled w (codes "lifo") then Some key.Lifo
    else (if is_spelled w (codes "forward") then Some key.Forward
    else (if is_spelled w (codes "publish") then Some key.Publish
    else (if is_spelled w (codes "defer") then Some key.Defer
    else (if is_spelled w (codes "recall") then Some key.Recall
    else (if is_spelled w (codes "flush") then Some key.Flush
    else (if is_spelled w (codes "subscribe") then Some key.Subscribe
    else (if is_spelled w (codes "unsubscribe") then Some key.Unsubscribe
    else (if is_spelled w (codes "arm") then Some key.Arm
    else (if is_spelled w (codes "rearm") then Some key.Rearm
    else (if is_spelled w (codes "disarm") then Some key.Disarm
    else (if is_spelled w (codes "margin") then Some key.Margin
    else (if is_spelled w (codes "reserve") then Some key.Reserve
    else None)))))))))))))))

-- the words that stand for a value: `ok`, `me`, `p1` to `p8`
unfoldable pub atom_of : Word → Option Tok
atom_of w =
    if is_spelled w (codes "ok") then Some Ok
    else (if is_spelled w (codes "me") then Some Me
    else (if is_spelled w (codes "p1") then Some (Par 1)
    else (if is_spelled w (codes "p2") then Some (Par 2)
    else (if is_spelled w (codes "p3") then Some (Par 3)
    else (if is_spelled w (codes "p4") then Some (Par 4)
    else (if is_spelled w (codes "p5") then Some (Par 5)
    else (if is_spelled w (codes "p6") then Some (Par 6)
    else (if is_spelled w (codes "p7") then Some (Par 7)
    else (if is_spelled w (codes "p8") then Some (Par 8)
    else None)))))))))

-- any other word of at most 24 bytes is a name
abbrev pub name_token : Word → Option Tok
name_token w = if nat_le (length w) 24 then Some (Name w) else None

abbrev pub or_else : {A : Type 0} → Option A → Option A → Option A
or_else None other = other
or_else (Some x) other = Some x

abbrev pub reserved_token : Word → Option Tok
reserved_token w = keyword_of w >>= (λ k. Some (Key k))

unfoldable pub word_token : Word → Option Tok
unfolding keyword_of atom_of
word_token w = or_else (reserved_token w) (or_else (atom_of w) (name_token w))

-- the number that these decimal digits write behind n
abbrev pub value_after : ℕ → List ℕ → ℕ
value_after n [] = n
value_after n (d ∷ ds) = value_after (n * 10 + (d - 48)) ds

-- a number is at most 9223372036854775807
abbrev pub number_within : ℕ → Option ℤ
number_within n = if nat_le n 9223372036854775807 then Some (pos n) else None

-- a number of two or more digits doesn't begin with 0
unfoldable pub number_token : List ℕ → Option Tok
number_token digits =
    if (slice_index digits 0 == 48) && not (length digits == 1) then None
    else number_within (value_after 0 digits) >>= (λ n. Some (Num n))

-- operators and marks
unfoldable pub mark_token : List ℕ → Option Tok
mark_token w =
    if is_spelled w (codes "||") then Some (Op binary.Or)
    else (if is_spelled w (codes "&&") then Some (Op binary.And)
    else (if is_spelled w (codes "==") then Some (Op binary.Equal)
    else (if is_spelled w (codes "!=") then Some (Op binary.Differs)
    else (if is_spelled w (codes "<=") then Some (Op binary.AtMost)
    else (if is_spelled w (codes ">=") then Some (Op binary.AtLeast)
    else (if is_spelled w (codes "<") then Some (Op binary.Below)
    else (if is_spelled w (codes ">") then Some (Op binary.Above)
    else (if is_spelled w (codes "+") then Some (Op binary.Plus)
    else (if is_spelled w (codes "-") then Some (Op binary.Minus)
    else (if is_spelled w (codes "*") then Some (Op binary.Times)
    else (if is_spelled w (codes "/") then Some (Op binary.Over)
    else (if is_spelled w (codes "%") then Some (Op binary.Rest)
    else (if is_spelled w (codes "!") then Some Bang
    else (if is_spelled w (codes "=") then Some Assign
    else (if is_spelled w (codes "(") then Some Open
    else (if is_spelled w (codes ")") then Some Close
    else (if is_spelled w (codes "[") then Some OpenList
    else (if is_spelled w (codes "]") then Some CloseList
    else (if is_spelled w (codes ",") then Some Comma
    else (if is_spelled w (codes ";") then Some Semicolon
    else None))))))))))))))))))))

abbrev pub is_letter : ℕ → Bool
is_letter b = is_ascii_alphabetic b || (b == 95)

abbrev pub is_word_byte : ℕ → Bool
is_word_byte b = is_letter b || is_ascii_digit b

-- a token and the bytes after it
abbrev pub Lexed : Type 0
Lexed = Tok × List ℕ

abbrev pub lexed_before : List ℕ → Option Tok → Option Lexed
lexed_before rest token = token >>= (λ t. Some (t, rest))

-- of the marks the longer is read
unfoldable pub read_mark : List ℕ → Option Lexed
unfolding mark_token
read_mark bytes = or_else (lexed_before (drop 2 bytes) (mark_token (take 2 bytes))) (lexed_before (drop 1 bytes) (mark_token (take 1 bytes)))

-- the first token: words and numbers are read as long as possible
unfoldable pub token_at : List ℕ → Option Lexed
unfolding word_token number_token read_mark
token_at bytes =
    if is_letter (slice_index bytes 0) then (let n = prefix_len is_word_byte bytes in lexed_before (drop n bytes) (word_token (take n bytes)))
    else (if is_ascii_digit (slice_index bytes 0) then (let n = prefix_len is_ascii_digit bytes in lexed_before (drop n bytes) (number_token (take n bytes)))
    else read_mark bytes)

abbrev pub is_space : ℕ → Bool
is_space b = b == 32

-- the tokens of the bytes, with spaces before each; at most n tokens
unfoldable pub tokens_of : ℕ → List ℕ → Option (List Tok)
unfolding token_at
tokens_of n [] = Some []
tokens_of zero (b ∷ bs) = None
tokens_of (suc n) (b ∷ bs) =
    token_at (drop (prefix_len is_space (b ∷ bs)) (b ∷ bs)) >>= (λ found. tokens_of n found.1 >>= (λ ts. Some (found.0 ∷ ts)))

-- a text has at most as many tokens as bytes, and no space at either end
unfoldable pub tokens_of_text : List ℕ → Option (List Tok)
unfolding tokens_of
tokens_of_text text =
    if is_space (slice_index text 0) || is_space (slice_index text (length text - 1)) then None
    else tokens_of (length text) text

-- a letter or `_`, then letters, digits and `_`, however many
unfoldable pub is_identifier : List ℕ → Bool
is_identifier [] = false
is_identifier (b ∷ bs) = is_letter b && list_all (λ c. is_letter c || is_ascii_digit c) bs
