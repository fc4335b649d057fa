-- What views have that were put together.
use Rattle.std.proofs.Common.{◌≡◌, ℕ, zero, suc, ◌+◌, ◌<◌, Bool, true, false, ◌||◌, cond, List, [], ◌∷◌, ◌++◌, map, refl, sym, ◌∙◌, ap, subst, arith, Some}
use Rattle.std.specs.Prelude.{slice_get}
use Rattle.std.specs.List.{list_any}
use Rattle.std.proofs.lemmas.List.{append_assoc, append-nil}
use Rattle.qp_table.specs.Counting.{Each, sum_over, many}
use Rattle.qp_table.specs.After.{views_joined}
use Rattle.qp_table.specs.declared.view.View.{View}
use Rattle.qp_table.proofs.Counting.{total-append}
use Rattle.qp_side.specs.Told.{both_of}
use Rattle.qp_side.specs.declared.view.SideView.{SideView}
use Rattle.qp_shared_ends.specs.Joining.{all_joined, all_both}

-- lists one behind another
abbrev pub flat : {X A : Type 0} → (X → List A) → List X → List A
flat f [] = []
flat f (x ∷ xs) = f x ++ flat f xs

pub joined-part : {A : Type 0} (f : View → List A) → ((v w : View) → f (views_joined v w) ≡ f v ++ f w) → (v : View) (ws : List View) → f (all_joined v ws) ≡ flat f (v ∷ ws)
joined-part f h v [] = sym (append-nil (f v))
joined-part f h v (w ∷ ws) = joined-part f h (views_joined v w) ws ∙ (ap (λ l. l ++ flat f ws) (h v w) ∙ append_assoc (f v) (f w) (flat f ws))

pub both-part : {A : Type 0} (f : SideView → List A) → ((v w : SideView) → f (both_of v w) ≡ f v ++ f w) → (v : SideView) (ws : List SideView) → f (all_both v ws) ≡ flat f (v ∷ ws)
both-part f h v [] = sym (append-nil (f v))
both-part f h v (w ∷ ws) = both-part f h (both_of v w) ws ∙ (ap (λ l. l ++ flat f ws) (h v w) ∙ append_assoc (f v) (f w) (flat f ws))

module _ {X A : Type 0} where
  pub flat-map : {Y : Type 0} (f : X → List A) (g : Y → X) (ys : List Y) → flat f (map g ys) ≡ flat (λ y. f (g y)) ys
  flat-map f g [] = refl
  flat-map f g (y ∷ ys) = ap (λ l. f (g y) ++ l) (flat-map f g ys)

  -- what holds of each of all holds of each of one
  pub each-flat : (P : A → Type 0) (f : X → List A) (xs : List X) (n : ℕ) (x : X) → slice_get xs n ≡ Some x → Each P (flat f xs) → Each P (f x)
  each-flat P f [] n x at e = absurd (cc)
  each-flat P f (y ∷ ys) zero x at e = subst (λ z. Each P (f z)) (let is : y ≡ x = cc in is) (front (f y) (flat f ys) e)
    where
      front : (xs zs : List A) → Each P (xs ++ zs) → Each P xs
      front [] zs e = tt
      front (x ∷ xs) zs e = (e.0, front xs zs e.1)
  each-flat P f (y ∷ ys) (suc n) x at e = each-flat P f ys n x at (back (f y) (flat f ys) e)
    where
      back : (xs zs : List A) → Each P (xs ++ zs) → Each P zs
      back [] zs e = e
      back (x ∷ xs) zs e = back xs zs e.1

  pub many-flat : (p : A → Bool) (f : X → List A) (xs : List X) → many p (flat f xs) ≡ sum_over (λ x. many p (f x)) xs
  many-flat p f [] = refl
  many-flat p f (x ∷ xs) = let a = total-append (λ y. cond (p y) 1 0) (f x) (flat f xs) in let r = many-flat p f xs in omega arith

  -- one that passes is in one of the lists
  pub many-some : (p : A → Bool) (f : X → List A) (P : Type 0) → ((x : X) → 0 < many p (f x) → P) → (xs : List X) → 0 < many p (flat f xs) → P
  many-some p f P h [] l = absurd (omega arith)
  many-some p f P h (x ∷ xs) l = go (many p (f x)) refl (many-some p f P h xs)
    where
      go : (n : ℕ) → many p (f x) ≡ n → (0 < many p (flat f xs) → P) → P
      go zero e r = r (let a = total-append (λ y. cond (p y) 1 0) (f x) (flat f xs) in omega arith)
      go (suc n) e r = h x (omega arith)

-- a list at one of its places
pub record Cut {X : Type 0} (xs : List X) (n : ℕ) (x : X) : Type 0 where
  pub front : List X
  pub back : List X
  pub is : xs ≡ front ++ x ∷ back

pub cut : {X : Type 0} (xs : List X) (n : ℕ) (x : X) → slice_get xs n ≡ Some x → Cut xs n x
cut [] n x at = absurd (cc)
cut (y ∷ ys) zero x at = record { front = []; back = ys; is = let same : y ≡ x = cc in ap (λ z. z ∷ ys) same }
cut (y ∷ ys) (suc n) x at = let r = cut ys n x at in record { front = y ∷ r.front; back = r.back; is = ap (λ l. y ∷ l) r.is }

-- a place of a list that is mapped
pub mapped : {X Y : Type 0} (f : X → Y) (xs : List X) (n : ℕ) (y : Y) → slice_get (map f xs) n ≡ Some y → (x : X) × (slice_get xs n ≡ Some x) × (f x ≡ y)
mapped f [] n y at = absurd (cc)
mapped f (x ∷ xs) zero y at = (x, refl, cc)
mapped f (x ∷ xs) (suc n) y at = mapped f xs n y at

pub map-at : {X Y : Type 0} (f : X → Y) (xs : List X) (n : ℕ) (x : X) → slice_get xs n ≡ Some x → slice_get (map f xs) n ≡ Some (f x)
map-at f [] n x at = absurd (cc)
map-at f (y ∷ ys) zero x at = let same : y ≡ x = cc in ap (λ z. Some (f z)) same
map-at f (y ∷ ys) (suc n) x at = map-at f ys n x at

pub map-parts : {X Y : Type 0} (f : X → Y) (xs ys : List X) → map f (xs ++ ys) ≡ map f xs ++ map f ys
map-parts f [] ys = refl
map-parts f (x ∷ xs) ys = ap (λ l. f x ∷ l) (map-parts f xs ys)

pub any-many : {X : Type 0} (p : X → Bool) (xs : List X) → list_any p xs ≡ true → 0 < many p xs
any-many p [] h = absurd (cc)
any-many p (x ∷ xs) h = go (p x) h (any-many p xs)
  where
    go : (t : Bool) → (t || list_any p xs) ≡ true → (list_any p xs ≡ true → 0 < many p xs) → 0 < cond t 1 0 + many p xs
    go true h r = omega arith
    go false h r = let z = r h in omega arith

pub many-none : {X : Type 0} (p : X → Bool) (xs : List X) → many p xs ≡ 0 → list_any p xs ≡ false
many-none p [] h = refl
many-none p (x ∷ xs) h = go (p x) (many-none p xs) h
  where
    go : (t : Bool) → (many p xs ≡ 0 → list_any p xs ≡ false) → cond {A = ℕ} t 1 0 + many p xs ≡ 0 → (t || list_any p xs) ≡ false
    go true r e = absurd (omega arith)
    go false r e = r (omega arith)

pub all-zero : {X : Type 0} (f : X → ℕ) (xs : List X) → sum_over f xs ≡ 0 → Each (λ x. f x ≡ 0) xs
all-zero f [] e = tt
all-zero f (x ∷ xs) e = (omega arith, all-zero f xs (omega arith))
