-- From lanes to their worlds, and back.
use Rattle.std.proofs.Common.{◌≡◌, List, map, sym, ◌∙◌, ap, Result, Ok, Err}
use Rattle.std.specs.Prelude.{IfOk}
use Rattle.std.proofs.lemmas.Simd.{map-map}

pub through : {A B C : Type 0} (f : A → B) (g : B → C) (xs : List A) (ys : List B) → map f xs ≡ ys → map g ys ≡ map (λ x. g (f x)) xs
through f g xs ys h = ap (map g) (sym h) ∙ map-map g f xs

pub ok-one : {A E : Type 0} (P Q : A → Type 0) → ((x : A) → P x → Q x) → (r : Result A E) → IfOk r P → IfOk r Q
ok-one P Q f (Ok x) p = f x p
ok-one P Q f (Err e) p = p

pub ok-two : {A E : Type 0} (P Q S : A → Type 0) → ((x : A) → P x → Q x → S x) → (r : Result A E) → IfOk r P → IfOk r Q → IfOk r S
ok-two P Q S f (Ok x) p q = f x p q
ok-two P Q S f (Err e) p q = p

pub ok-three : {A E : Type 0} (P Q R S : A → Type 0) → ((x : A) → P x → Q x → R x → S x) → (r : Result A E) → IfOk r P → IfOk r Q → IfOk r R → IfOk r S
ok-three P Q R S f (Ok x) p q r = f x p q r
ok-three P Q R S f (Err e) p q r = p
