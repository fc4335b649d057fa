-- The stimulus that is next.
use Rattle.std.proofs.Common.{◌≡◌, ℕ, zero, suc, false, ◌||◌, List, [], ◌∷◌, drop, slice_get, refl, sym, ◌∙◌, ap, Option, Some, None, is_some}
use Rattle.std.specs.Option.{option_map}
use Rattle.qp_model.specs.declared.stimulus.Stim.{Stim}
use Rattle.qp_model.specs.declared.stimulus.Stim.TheVariants as stim
use Rattle.qp_port_lanes.specs.declared.cursor.Cursor.{Cursor}
use Rattle.qp_port_lanes.specs.CursorAt.{at_settle_in, begins_settle, is_some_left, left_in, mine}

begins-some : (ss : List Stim) (n : ℕ) (s : Stim) → slice_get ss n ≡ Some s → begins_settle (drop n ss) ≡ begins_settle (s ∷ [])
begins-some [] n s h = absurd (cc)
begins-some (x ∷ xs) zero s h = let same : x ≡ s = cc in head x xs ∙ ap (λ y. begins_settle (y ∷ [])) same
  where
    head : (y : Stim) (ys : List Stim) → begins_settle (y ∷ ys) ≡ begins_settle (y ∷ [])
    head stim.Settle ys = refl
    head _ ys = refl
begins-some (x ∷ xs) (suc n) s h = begins-some xs n s h

begins-none : (ss : List Stim) (n : ℕ) → slice_get ss n ≡ None → begins_settle (drop n ss) ≡ false
begins-none [] zero h = refl
begins-none [] (suc n) h = refl
begins-none (x ∷ xs) zero h = absurd (cc)
begins-none (x ∷ xs) (suc n) h = begins-none xs n h

some-left : (ss : List Stim) (n : ℕ) → is_some_left (drop n ss) ≡ is_some (slice_get ss n)
some-left [] zero = refl
some-left [] (suc n) = refl
some-left (x ∷ xs) zero = refl
some-left (x ∷ xs) (suc n) = some-left xs n

pub stands-some : (x : Cursor) (s : Stim) → x.settling ≡ false → slice_get (mine x) x.begun ≡ Some s → begins_settle (s ∷ []) ≡ at_settle_in x
stands-some x s calm next = sym (ap (λ b. b || begins_settle (drop x.begun (mine x))) calm ∙ begins-some (mine x) x.begun s next)

pub stands-none : (x : Cursor) → x.settling ≡ false → slice_get (mine x) x.begun ≡ None → false ≡ at_settle_in x
stands-none x calm next = sym (ap (λ b. b || begins_settle (drop x.begun (mine x))) calm ∙ begins-none (mine x) x.begun next)

pub left-next : {A : Type 0} (x : Cursor) (f : A → Stim) (r : Option A) → x.settling ≡ false → option_map f r ≡ slice_get (mine x) x.begun → is_some r ≡ left_in x
left-next {A = A} x f r calm next =
    still r ∙ ap is_some next ∙ sym (ap (λ b. b || is_some_left (drop x.begun (mine x))) calm ∙ some-left (mine x) x.begun)
  where
    still : (o : Option A) → is_some o ≡ is_some (option_map f o)
    still None = refl
    still (Some y) = refl
