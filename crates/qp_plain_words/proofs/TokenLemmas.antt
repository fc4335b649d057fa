-- Tokens in a ring that gains one or loses one.
use Rattle.std.proofs.Common.{◌≡◌, ℕ, zero, suc, Bool, true, List, [], ◌∷◌, ◌++◌, take, drop, refl, Some, slice_get}
use Rattle.std.specs.List.{list_all}
use Rattle.circular_buffer.specs.Buffer.{keep_last}
use Rattle.std.proofs.lemmas.Bool.{and_from, and_parts}
use Rattle.qp_model.proofs.ListLemmas.{all-push}

all-drop : {X : Type 0} (p : X → Bool) (xs : List X) (k : ℕ) → list_all p xs ≡ true → list_all p (drop k xs) ≡ true
all-drop p xs zero h = h
all-drop p [] (suc k) h = refl
all-drop p (x ∷ xs) (suc k) h = all-drop p xs k (and_parts _ _ h).1

all-take : {X : Type 0} (p : X → Bool) (xs : List X) (k : ℕ) → list_all p xs ≡ true → list_all p (take k xs) ≡ true
all-take p xs zero h = refl
all-take p [] (suc k) h = refl
all-take p (x ∷ xs) (suc k) h = and_from _ _ (and_parts _ _ h).0 (all-take p xs k (and_parts _ _ h).1)

pub all-pushed : {X : Type 0} (p : X → Bool) (n : ℕ) (xs : List X) (x : X) → list_all p xs ≡ true → p x ≡ true → list_all p (keep_last n (xs ++ x ∷ [])) ≡ true
all-pushed p n xs x h here = all-drop p (xs ++ x ∷ []) _ (all-push p xs x h here)

pub all-front : {X : Type 0} (p : X → Bool) (n : ℕ) (xs : List X) (x : X) → list_all p xs ≡ true → p x ≡ true → list_all p (take n (x ∷ xs)) ≡ true
all-front p n xs x h here = all-take p (x ∷ xs) n (and_from _ _ here h)

pub all-taken : {X : Type 0} (p : X → Bool) (xs : List X) → list_all p xs ≡ true → list_all p (drop 1 xs) ≡ true
all-taken p xs h = all-drop p xs 1 h

pub first-passes : {X : Type 0} (p : X → Bool) (xs : List X) (x : X) → list_all p xs ≡ true → Some x ≡ slice_get xs 0 → p x ≡ true
first-passes p [] x h e = absurd (cc)
first-passes p (y ∷ ys) x h e = let same : x ≡ y = cc in rw same (and_parts _ _ h).0
