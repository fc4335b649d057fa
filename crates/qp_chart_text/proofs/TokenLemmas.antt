-- Numbers, words and the tokens of a text.
use Rattle.std.proofs.Common.{◌≡◌, ◌<◌, ◌≤◌, ◌+◌, ◌-◌, ◌*◌, ◌^◌, ℕ, zero, suc, Bool, true, false, List, [], ◌∷◌, ◌++◌, length, take, drop, get_or, Option, Some, None, refl, ap, sym, ◌∙◌, arith, cond, drop-cons, nat_lt, slice_index, ◌⊎◌, inl, inr, lit<}
use Rattle.std.proofs.lemmas.Bool.{ltb-true, ltb-false, or_left}
use Rattle.std.proofs.lemmas.List.Sums.{prefix_len_passes}
use Rattle.std.proofs.lemmas.List.{get_or-take, get_or_past, length-take}
use Rattle.std.specs.List.{prefix_len}
use Rattle.std.specs.Str.{IsAscii}
use Rattle.qp_chart_text.specs.Tokens.{value_after, number_within, is_letter, is_word_byte, Tok, Lexed, lexed_before, or_else, ◌>>=◌, word_token, number_token, mark_token, read_mark, token_at, is_space, tokens_of}
use Rattle.std.specs.Char.{is_ascii_digit}
use Rattle.std.proofs.Common.{length-drop, append_assoc, append-nil}

pub value_above : (n : ℕ) (ds : List ℕ) → n ≤ value_after n ds
value_above n [] = omega arith
value_above n (d ∷ ds) = omega (arith, value_above (n * 10 + (d - 48)) ds)

no_number : (n : ℕ) → 2 ^ 64 ≤ n → number_within n ≡ None
no_number n h = grind arith

-- a number that passes 64 bits at a digit is none
pub large : (n i : ℕ) (ds : List ℕ) → i < length ds → 2 ^ 64 ≤ n * 10 + (get_or ds i 0 - 48) → number_within (value_after n (drop i ds)) ≡ None
large n i ds h g = rw (drop-cons ds i 0) (no_number _ (omega (arith, g, value_above (n * 10 + (get_or ds i 0 - 48)) (drop (suc i) ds))))

ascii_letter : (b : ℕ) → is_word_byte b ≡ true → b < 128
ascii_letter b h = grind arith

-- a word is ASCII
pub word_ascii : (bs : List ℕ) → IsAscii (take (prefix_len is_word_byte bs) bs)
word_ascii bs i =
    let n = prefix_len is_word_byte bs in
    elim (nat_lt i n) as (λ b. nat_lt i n ≡ b → slice_index (take n bs) i < 128) [
      | true ↦ λ h. let within : i < n = ltb-true i n h in rw get_or-take (ascii_letter _ (prefix_len_passes is_word_byte bs i 0 within))
      | false ↦ λ h. rw (get_or_past (take n bs) i 0 (omega (arith, ltb-false i n h, length-take n bs))) (lit< tt)
    ] refl

before_rest : (rest : List ℕ) (t : Option Tok) (found : Lexed) → lexed_before rest t ≡ Some found → found.1 ≡ rest
before_rest rest None found h = cc
before_rest rest (Some t) found h = cc

one_of : {A : Type 0} (a b : Option A) (x : A) → or_else a b ≡ Some x → (a ≡ Some x) ⊎ (b ≡ Some x)
one_of None b x h = inr h
one_of (Some a) b x h = inl h

drops : (n b : ℕ) (bs : List ℕ) → length (drop (suc n) (b ∷ bs)) < length (b ∷ bs)
drops n b bs = omega (arith, length-drop (suc n) (b ∷ bs))

passes_one : (p : ℕ → Bool) (b : ℕ) (bs : List ℕ) → p b ≡ true → length (drop (prefix_len p (b ∷ bs)) (b ∷ bs)) < length (b ∷ bs)
passes_one p b bs h = rw h (omega (arith, length-drop (1 + prefix_len p bs) (b ∷ bs)))

mark_shorter : (bs : List ℕ) (found : Lexed) → read_mark bs ≡ Some found → length found.1 < length bs
unfolding read_mark mark_token
mark_shorter [] found h = cc
mark_shorter (b ∷ bs) found h =
    elim (one_of (lexed_before (drop 2 (b ∷ bs)) (mark_token (take 2 (b ∷ bs)))) (lexed_before (drop 1 (b ∷ bs)) (mark_token (take 1 (b ∷ bs)))) found h) [
      | inl two ↦ rw (before_rest (drop 2 (b ∷ bs)) (mark_token (take 2 (b ∷ bs))) found two) (drops 1 b bs)
      | inr one ↦ rw (before_rest (drop 1 (b ∷ bs)) (mark_token (take 1 (b ∷ bs))) found one) (drops 0 b bs)
    ]

letter_token : ℕ → List ℕ → Option Lexed
letter_token b bs = let n = prefix_len is_word_byte (b ∷ bs) in lexed_before (drop n (b ∷ bs)) (word_token (take n (b ∷ bs)))

digit_token : ℕ → List ℕ → Option Lexed
digit_token b bs = let n = prefix_len is_ascii_digit (b ∷ bs) in lexed_before (drop n (b ∷ bs)) (number_token (take n (b ∷ bs)))

digit_shorter : (b : ℕ) (bs : List ℕ) (found : Lexed) (is : Bool) → is_ascii_digit b ≡ is → cond is (digit_token b bs) (read_mark (b ∷ bs)) ≡ Some found → length found.1 < length (b ∷ bs)
unfolding digit_token
digit_shorter b bs found true d h = rw (before_rest (drop (prefix_len is_ascii_digit (b ∷ bs)) (b ∷ bs)) (number_token (take (prefix_len is_ascii_digit (b ∷ bs)) (b ∷ bs))) found h) (passes_one is_ascii_digit b bs d)
digit_shorter b bs found false d h = mark_shorter (b ∷ bs) found h

letter_shorter : (b : ℕ) (bs : List ℕ) (found : Lexed) (is : Bool) → is_letter b ≡ is → cond is (letter_token b bs) (cond (is_ascii_digit b) (digit_token b bs) (read_mark (b ∷ bs))) ≡ Some found → length found.1 < length (b ∷ bs)
unfolding letter_token
letter_shorter b bs found true l h = rw (before_rest (drop (prefix_len is_word_byte (b ∷ bs)) (b ∷ bs)) (word_token (take (prefix_len is_word_byte (b ∷ bs)) (b ∷ bs))) found h) (passes_one is_word_byte b bs (or_left (is_letter b) (is_ascii_digit b) l))
letter_shorter b bs found false l h = digit_shorter b bs found (is_ascii_digit b) refl h

-- a token takes at least one byte
pub token_shorter : (bs : List ℕ) (found : Lexed) → token_at bs ≡ Some found → length found.1 < length bs
unfolding token_at read_mark mark_token letter_token digit_token
token_shorter [] found h = cc
token_shorter (b ∷ bs) found h = letter_shorter b bs found (is_letter b) refl h

pub next_shorter : (bs : List ℕ) (found : Lexed) → token_at (drop (prefix_len is_space bs) bs) ≡ Some found → length found.1 < length bs
next_shorter bs found h = omega (arith, token_shorter (drop (prefix_len is_space bs) bs) found h, length-drop (prefix_len is_space bs) bs)

-- so far these tokens, and then those of the rest
abbrev pub ThenRest : Option (List Tok) → List Tok → List ℕ → Type 0
ThenRest whole done rest = (n : ℕ) × (length rest ≤ n) × (whole ≡ (tokens_of n rest >>= (λ ts. Some (done ++ ts))))

regroup : (done : List Tok) (t : Tok) (o : Option (List Tok)) → ((o >>= (λ ts. Some (t ∷ ts))) >>= (λ ts. Some (done ++ ts))) ≡ (o >>= (λ ts. Some ((done ++ t ∷ []) ++ ts)))
regroup done t None = refl
regroup done t (Some ts) = ap Some (sym (append_assoc done (t ∷ []) ts))

pub one_token : (whole : Option (List Tok)) (done : List Tok) (rest : List ℕ) (found : Lexed) → 0 < length rest → token_at (drop (prefix_len is_space rest) rest) ≡ Some found → ThenRest whole done rest → ThenRest whole (done ++ found.0 ∷ []) found.1
unfolding tokens_of
one_token whole done [] found some h (n, fits, is) = absurd (omega arith)
one_token whole done (b ∷ bs) found some h (zero, fits, is) = absurd (omega arith)
one_token whole done (b ∷ bs) found some h (suc n, fits, is) =
    (n, omega (arith, next_shorter (b ∷ bs) found h), is ∙ rw h (regroup done found.0 (tokens_of n found.1)))

pub no_token : (whole : Option (List Tok)) (done : List Tok) (rest : List ℕ) → 0 < length rest → token_at (drop (prefix_len is_space rest) rest) ≡ None → ThenRest whole done rest → whole ≡ None
unfolding tokens_of
no_token whole done [] some h (n, fits, is) = absurd (omega arith)
no_token whole done (b ∷ bs) some h (zero, fits, is) = absurd (omega arith)
no_token whole done (b ∷ bs) some h (suc n, fits, is) = is ∙ rw h refl

pub last_token : (whole : Option (List Tok)) (done : List Tok) (rest : List ℕ) → length rest ≡ 0 → ThenRest whole done rest → whole ≡ Some done
unfolding tokens_of
last_token whole done [] none (n, fits, is) = is ∙ ap Some (append-nil done)
last_token whole done (b ∷ bs) none (n, fits, is) = absurd (omega arith)
