-- A walk over elements that stand for others: the one at a place ends the front and begins the rest.
use Rattle.std.proofs.Common.{◌≡◌, ℕ, zero, suc, ◌+◌, ◌<◌, ◌≤◌, List, [], ◌∷◌, ◌++◌, length, map, Bool, ◌&&◌, cond, take, drop, get_or, refl, ap, sym, ◌∙◌, arith}
use Rattle.std.proofs.lemmas.List.{drop_all, length-map}
use Rattle.std.specs.List.{filter, list_all}
use Rattle.std.proofs.lemmas.List.Elements.{filter-append}

pub front_grows : {X Y : Type 0} (f : X → Y) (xs : List X) (i : ℕ) (x : X) → i < length xs → x ≡ get_or xs i x → take (i + 1) (map f xs) ≡ take i (map f xs) ++ f x ∷ []
front_grows f [] i x lt is = absurd (omega arith)
front_grows f (y ∷ ys) zero x lt is = rw is refl
front_grows f (y ∷ ys) (suc i) x lt is =
    let e : suc i + 1 ≡ suc (i + 1) = omega arith in
    rw e (ap (λ zs. f y ∷ zs) (front_grows f ys i x (omega arith) is))

pub rest_begins : {X Y : Type 0} (f : X → Y) (xs : List X) (i : ℕ) (x : X) → i < length xs → x ≡ get_or xs i x → drop i (map f xs) ≡ f x ∷ drop (i + 1) (map f xs)
rest_begins f [] i x lt is = absurd (omega arith)
rest_begins f (y ∷ ys) zero x lt is = rw is refl
rest_begins f (y ∷ ys) (suc i) x lt is =
    let e : suc i + 1 ≡ suc (i + 1) = omega arith in
    rw e (rest_begins f ys i x (omega arith) is)

-- the same of the elements themselves
pub rest_at : {X : Type 0} (xs : List X) (i : ℕ) (x : X) → i < length xs → x ≡ get_or xs i x → drop i xs ≡ x ∷ drop (i + 1) xs
rest_at [] i x lt is = absurd (omega arith)
rest_at (y ∷ ys) zero x lt is = rw is refl
rest_at (y ∷ ys) (suc i) x lt is =
    let e : suc i + 1 ≡ suc (i + 1) = omega arith in
    rw e (rest_at ys i x (omega arith) is)

pub rest_get : {X : Type 0} (xs : List X) (i : ℕ) (d : X) → i < length xs → drop i xs ≡ get_or xs i d ∷ drop (i + 1) xs
rest_get [] i d lt = absurd (omega arith)
rest_get (y ∷ ys) zero d lt = refl
rest_get (y ∷ ys) (suc i) d lt =
    let e : suc i + 1 ≡ suc (i + 1) = omega arith in
    rw e (rest_get ys i d (omega arith))

-- nothing is left behind the last
pub rest_none : {X Y : Type 0} (f : X → Y) {xs zs : List X} {ys : List Y} → map f zs ≡ ys → xs ≡ zs → (i : ℕ) → length xs ≤ i → drop i ys ≡ []
rest_none f {xs} {zs} {ys} view same i le =
    let seen : map f xs ≡ ys = ap (map f) same ∙ view in
    rw (← seen) (drop_all i (map f xs) (omega (arith, length-map xs f)))

pub length_seen : {X Y : Type 0} (f : X → Y) {xs zs : List X} {ys : List Y} → map f zs ≡ ys → xs ≡ zs → length ys ≡ length xs
length_seen f {xs} {zs} {ys} view same = ap length (sym view) ∙ length-map zs f ∙ ap length (sym same)

-- the same in a list that the elements xs are seen as
module _ {X Y : Type 0} (f : X → Y) {xs zs : List X} {ys : List Y} (view : map f zs ≡ ys) (same : xs ≡ zs) (i : ℕ) (x : X) (lt : i < length xs) (is : x ≡ get_or xs i x) where
  seen : map f xs ≡ ys
  seen = ap (map f) same ∙ view

  pub front_seen : take (i + 1) ys ≡ take i ys ++ f x ∷ []
  front_seen = rw (← seen) (front_grows f xs i x lt is)

  pub rest_seen : drop i ys ≡ f x ∷ drop (i + 1) ys
  rest_seen = rw (← seen) (rest_begins f xs i x lt is)

  -- a test of all that are left
  pub test_rest : (p : Y → Bool) → list_all p (drop i ys) ≡ (p (f x) && list_all p (drop (i + 1) ys))
  test_rest p = ap (list_all p) rest_seen

  pub filter_front : (p : Y → Bool) → filter p (take (i + 1) ys) ≡ filter p (take i ys) ++ cond (p (f x)) (f x ∷ []) []
  filter_front p = ap (filter p) front_seen ∙ filter-append p (take i ys) (f x ∷ [])
