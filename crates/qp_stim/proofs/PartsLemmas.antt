-- The first part of a text, and the parts behind it.
use Rattle.std.proofs.Common.{◌≡◌, ℕ, suc, ◌+◌, ◌≤◌, not, is_some, Bool, true, false, cond, nat_lt, ◌==◌, List, [], ◌∷◌, length, take, drop, Some, None, refl, sym, ◌∙◌, ap, arith, length-drop, Bor}
use Rattle.std.specs.declared.option.Option.{Option}
use Rattle.std.specs.List.{before_first, position, position_or_len, All}
use Rattle.std.specs.Option.{option_map, option_map_or}
use Rattle.std.proofs.lemmas.Bool.{ltb-true, ltb-false}
use Rattle.std.proofs.lemmas.Bool.Decides.{nat_tests}
use Rattle.std.proofs.lemmas.List.{take_all}
use Rattle.std.proofs.lemmas.List.Splits.{slice_split_first, slice_split_none}
use Rattle.std.proofs.lemmas.List.Sums.{fails_before_first}
use Rattle.qp_stim.specs.Parts.{split_at_separator, before_separator, after_separator}
use Rattle.qp_stim.specs.Reading.{parts_left}

none_chosen : (b : Bool) (k : ℕ) → cond b (Some k) None ≡ None → b ≡ false
none_chosen true k h = cc
none_chosen false k h = refl

some_chosen : (b : Bool) (k i : ℕ) → cond b (Some k) None ≡ Some i → (b ≡ true) × (k ≡ i)
some_chosen true k i h = (refl, cc)
some_chosen false k i h = cc

pub position-None : (p : ℕ → Bool) (xs : List ℕ) → position p xs ≡ None → xs ≡ before_first p xs
position-None p xs h =
    let past = ltb-false (position_or_len p xs) (length xs) (none_chosen _ _ h) in
    sym (take_all (position_or_len p xs) xs past)

pub position-Some : (p : ℕ → Bool) (xs : List ℕ) (i : ℕ) → position p xs ≡ Some i → take i xs ≡ before_first p xs
position-Some p xs i h = ap (λ k. take k xs) (sym (some_chosen _ _ _ h).1)

split_by : (c : ℕ) (xs : List ℕ) (b : Bool) → nat_lt (position_or_len (λ x. x == c) xs) (length xs) ≡ b
    → split_at_separator c xs ≡ before_separator c xs ∷ parts_left c (option_map (λ place. drop (place + 1) xs) (cond b (Some (position_or_len (λ x. x == c) xs)) None))
split_by c xs true h = slice_split_first (λ x. x == c) xs 0 (ltb-true _ _ h)
split_by c xs false h =
    let past = ltb-false (position_or_len (λ x. x == c) xs) (length xs) h in
    let none : All (λ x. (x == c) ≡ false) xs = λ k d below. fails_before_first (λ x. x == c) xs k d (omega (arith, past, below)) in
    slice_split_none (λ x. x == c) xs none ∙ ap (λ part. part ∷ []) (sym (take_all (position_or_len (λ x. x == c) xs) xs past))

-- the parts are the first, and those of what stands after the separator
pub split-cut : (c : ℕ) (xs : List ℕ) → split_at_separator c xs ≡ before_separator c xs ∷ parts_left c (after_separator c xs)
split-cut c xs = split_by c xs (nat_lt (position_or_len (λ x. x == c) xs) (length xs)) refl

after_by : (c : ℕ) (xs : List ℕ) (b : Bool) → nat_lt (position_or_len (λ x. x == c) xs) (length xs) ≡ b
    → option_map_or (λ rest. length rest + 1) (option_map (λ place. drop (place + 1) xs) (cond b (Some (position_or_len (λ x. x == c) xs)) None)) 0 ≤ length xs
after_by c xs true h =
    let below = ltb-true (position_or_len (λ x. x == c) xs) (length xs) h in
    omega (arith, below, length-drop {A = ℕ})
after_by c xs false h = omega arith

-- what stands after a separator is shorter
pub length-after : (c : ℕ) (xs : List ℕ) → option_map_or (λ rest. length rest + 1) (after_separator c xs) 0 ≤ length xs
length-after c xs = after_by c xs (nat_lt (position_or_len (λ x. x == c) xs) (length xs)) refl

positive : (n : ℕ) → (suc n == 0) ≡ false
positive n = grind (arith, nat_tests)

-- nothing is left exactly where there is no rest
pub parts_left-empty : (c : ℕ) (rest : Option (List ℕ)) (b : Bool) → is_some rest ≡ not b → b ≡ (length (parts_left c rest) == 0)
parts_left-empty c None true h = refl
parts_left-empty c None false h = cc
parts_left-empty c (Some xs) true h = cc
parts_left-empty c (Some xs) false h = sym (ap (λ parts. length parts == 0) (split-cut c xs) ∙ positive (length (parts_left c (after_separator c xs))))

-- the parts that are left, by the first of them
pub parts_left-cut : (c : ℕ) (rest : Option (Bor (List ℕ))) (text : Bor (List ℕ)) (first : List ℕ) (more : Option (Bor (List ℕ))) → rest ≡ Some text
    → first ≡ before_separator c text.now → option_map (λ x. x.now) more ≡ after_separator c text.now
    → parts_left c (option_map (λ x. x.now) rest) ≡ first ∷ parts_left c (option_map (λ x. x.now) more)
parts_left-cut c rest text first more was front behind =
    ap (λ (r : Option (Bor (List ℕ))). parts_left c (option_map (λ x. x.now) r)) was
    ∙ split-cut c text.now
    ∙ ap (λ f. f ∷ parts_left c (after_separator c text.now)) (sym front)
    ∙ ap (λ r. first ∷ parts_left c r) (sym behind)

length_of_some : (text : Bor (List ℕ)) (rest : Option (Bor (List ℕ))) → rest ≡ Some text → option_map_or (λ r. length r.now + 1) rest 0 ≡ length text.now + 1
length_of_some text rest h = ap (λ (r : Option (Bor (List ℕ))). option_map_or (λ x. length x.now + 1) r 0) h

length_of_map : (more : Option (Bor (List ℕ))) → option_map_or (λ rest. length rest + 1) (option_map (λ x. x.now) more) 0 ≡ option_map_or (λ r. length r.now + 1) more 0
length_of_map None = refl
length_of_map (Some x) = refl

-- what is left after a separator is shorter than what was
pub length-left : (c : ℕ) (rest : Option (Bor (List ℕ))) (text : Bor (List ℕ)) (more : Option (Bor (List ℕ))) → rest ≡ Some text
    → option_map (λ x. x.now) more ≡ after_separator c text.now
    → option_map_or (λ r. length r.now + 1) more 0 + 1 ≤ option_map_or (λ r. length r.now + 1) rest 0
length-left c rest text more was behind =
    let before_separator = length_of_some text rest was in
    let now : option_map_or (λ rest. length rest + 1) (option_map (λ (x : Bor (List ℕ)). x.now) more) 0 ≡ option_map_or (λ rest. length rest + 1) (after_separator c text.now) 0 =
    ap (λ r. option_map_or (λ (rest : List ℕ). length rest + 1) r 0) behind in
    omega (arith, before_separator, now, length_of_map more, length-after c text.now)
