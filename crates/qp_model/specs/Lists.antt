-- Lists of numbers, as the definitions of words use them.
use Rattle.std.specs.Prelude.{ℕ, zero, suc, ◌+◌, ◌==◌, nat_lt, nat_le, Bool, true, false, ◌&&◌, List, [], ◌∷◌, if◌then◌else◌}
use Rattle.std.specs.List.{list_all}

-- n numbers from this one on
abbrev pub count_up : ℕ → ℕ → List ℕ
count_up from zero = []
count_up from (suc n) = from ∷ count_up (from + 1) n

-- the list without every place of the number
abbrev pub without_all : ℕ → List ℕ → List ℕ
without_all n [] = []
without_all n (x ∷ xs) = if x == n then without_all n xs else x ∷ without_all n xs

-- the list without the first place of the number
abbrev pub without_one : ℕ → List ℕ → List ℕ
without_one n [] = []
without_one n (x ∷ xs) = if x == n then xs else x ∷ without_one n xs

-- an ascending list with the number in it
abbrev pub with_number : ℕ → List ℕ → List ℕ
with_number n [] = n ∷ []
with_number n (x ∷ xs) = if nat_lt n x then n ∷ x ∷ xs else (if n == x then x ∷ xs else x ∷ with_number n xs)

-- the number is the first of the list
abbrev pub is_first : ℕ → List ℕ → Bool
is_first n [] = false
is_first n (x ∷ xs) = x == n

-- no number of the list is above a later one
abbrev pub never_falls : List ℕ → Bool
never_falls [] = true
never_falls (x ∷ xs) = list_all (λ y. nat_le x y) xs && never_falls xs

-- the test holds of each number below n
unfoldable pub all_below : ℕ → (ℕ → Bool) → Bool
all_below zero test = true
all_below (suc n) test = all_below n test && test n
