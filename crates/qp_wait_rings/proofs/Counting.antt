-- Records of a lane, counted.
use Rattle.std.proofs.Common.{◌≡◌, ℕ, ◌+◌, ◌≤◌, Bool, true, false, List, [], ◌∷◌, cond, refl, ◌∙◌, ap, arith, zero-add}
use Rattle.std.specs.List.{count_by, list_all}
use Rattle.std.proofs.lemmas.Bool.{and_parts}
use Rattle.qp_model.proofs.NumberLemmas.{count-append}

pub count-cons : {A : Type 0} (p : A → Bool) (x : A) (xs : List A) → count_by p (x ∷ xs) ≡ cond (p x) 1 0 + count_by p xs
count-cons p x xs = count-append p (x ∷ []) xs ∙ ap (λ n. n + count_by p xs) (zero-add (cond (p x) 1 0))

pub count-one : {A : Type 0} (p : A → Bool) (x : A) (b : Bool) → p x ≡ b → count_by p (x ∷ []) ≡ cond b 1 0
count-one p x b is = zero-add (cond (p x) 1 0) ∙ ap (λ c. cond c 1 0) is

-- none of these, where each is of another kind
pub count-none : {A : Type 0} (p q : A → Bool) (xs : List A) → ((x : A) → q x ≡ true → p x ≡ false) → list_all q xs ≡ true → count_by p xs ≡ 0
count-none p q [] apart all = refl
count-none p q (x ∷ xs) apart all =
    let parts = and_parts (q x) (list_all q xs) all in
    let one : cond {A = ℕ} (p x) 1 0 ≡ 0 = ap (λ c. cond {A = ℕ} c 1 0) (apart x parts.0) in
    let rest = count-none p q xs apart parts.1 in
    let all = count-cons p x xs in
    omega (arith, one, rest, all)

-- as many at most, where each of them is of this kind too
pub count-more : {A : Type 0} (p q : A → Bool) (xs : List A) → ((x : A) → p x ≡ true → q x ≡ true) → count_by p xs ≤ count_by q xs
count-more p q [] within = omega arith
count-more p q (x ∷ xs) within =
    let one = by (p x) (q x) (within x) in
    let rest = count-more p q xs within in
    let fewer = count-cons p x xs in
    let more = count-cons q x xs in
    omega (arith, one, rest, fewer, more)
  where
    by : (a b : Bool) → (a ≡ true → b ≡ true) → cond a 1 0 ≤ cond b 1 0
    by true true h = omega arith
    by true false h = absurd (let wrong : false ≡ true = h refl in cc)
    by false true h = omega arith
    by false false h = omega arith
