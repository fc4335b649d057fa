-- Views cut in two: a lane given, an onlooker, and all moved.
use Rattle.std.proofs.Common.{◌≡◌, ◌≢◌, ℕ, zero, suc, ◌<◌, Bool, true, false, cond, List, [], ◌∷◌, ◌++◌, length, set, refl, sym, ap, subst, ◌∙◌, arith}
use mathlib.Core.Option.{some, some-ne-none}
use lib.ListN.{get_elem?}
use Rattle.atomic_table.proofs.Lists.{set_again, set_here, set_else}
use Rattle.qp_model.specs.declared.systems.System.{System}
use Rattle.qp_table.specs.Counting.{Each, many}
use Rattle.qp_table.specs.Rule.{is_number, on_queue, Holds}
use Rattle.qp_table.specs.After.{empty_view, onlooker, passing, handed, granting, granted, views_joined}
use Rattle.qp_table.specs.Whole.{Unused}
use Rattle.qp_table.specs.declared.view.CellPlace.{CellPlace}
use Rattle.qp_table.specs.declared.view.Serve.{Serve}
use Rattle.qp_table.specs.declared.view.View.{View}
use Rattle.qp_table.proofs.Counting.{get-last, get-longer}
use Rattle.qp_table.proofs.Lanes.{adds-nothing, set-last, set-longer}
use Rattle.qp_table.proofs.LawLemmas.{onlookers_keep_the_rule, grants_keep_the_rule, hand_overs_keep_the_rule, joins_keep_the_rule}
use Rattle.qp_shared_ends.specs.Seats.{MayPart, IsUnused, root_left, lane_new}

module _ {A : Type 0} where
  below : (xs : List A) (i : ℕ) (x : A) → get_elem? xs i ≡ some x → i < length xs
  below [] i x e = absurd (some-ne-none x (sym e))
  below (y ∷ ys) zero x e = omega arith
  below (y ∷ ys) (suc i) x e = let r = below ys i x e in omega arith

  set-length : (xs : List A) (i : ℕ) (x : A) → length (set xs i x) ≡ length xs
  set-length [] i x = refl
  set-length (y ∷ ys) zero x = refl
  set-length (y ∷ ys) (suc i) x = ap suc (set-length ys i x)

  set-twice : (xs : List A) (i : ℕ) (x y : A) → set (set xs i x) i y ≡ set xs i y
  set-twice [] i x y = refl
  set-twice (z ∷ zs) zero x y = refl
  set-twice (z ∷ zs) (suc i) x y = ap (λ l. z ∷ l) (set-twice zs i x y)

  -- one of a list and the one added behind it change
  pub set-both : (xs : List A) (i : ℕ) (x a r b s : A) → get_elem? xs i ≡ some x → set (set (set xs i a ++ r ∷ []) i b) (length xs) s ≡ set xs i b ++ s ∷ []
  set-both xs i x a r b s at =
      ap (λ l. set l (length xs) s) (set-longer (set xs i a) (r ∷ []) i a b (set_here xs i a (below xs i x at)) ∙ ap (λ l. l ++ r ∷ []) (set-twice xs i a b))
      ∙ (ap (λ n. set (set xs i b ++ r ∷ []) n s) (sym (set-length xs i b)) ∙ set-last (set xs i b) r s)

  pub at-first : (xs : List A) (i : ℕ) (x a r : A) → get_elem? xs i ≡ some x → get_elem? (set xs i a ++ r ∷ []) i ≡ some a
  at-first xs i x a r at = get-longer (set xs i a) (r ∷ []) i a (set_here xs i a (below xs i x at))

  pub at-second : (xs : List A) (i : ℕ) (a r : A) → get_elem? (set xs i a ++ r ∷ []) (length xs) ≡ some r
  at-second xs i a r = subst (λ n. get_elem? (set xs i a ++ r ∷ []) n ≡ some r) (set-length xs i a) (get-last (set xs i a) r)

  pub other-place : (xs : List A) (i : ℕ) (x : A) → get_elem? xs i ≡ some x → length xs ≢ i
  other-place xs i x at e = let l = below xs i x at in absurd (omega arith)

each-passing : (takes : List CellPlace) (t : Serve → Bool) (xs : List Serve) → takes ≡ [] → Each (λ (x : Serve). (x.lifos ≡ 0) × (x.takes ≡ 0)) xs → Each (Unused takes) (passing t xs)
each-passing takes t [] none e = tt
each-passing takes t (x ∷ xs) none e = go (t x) (each-passing takes t xs none e.1)
  where
    go : (b : Bool) → Each (Unused takes) (passing t xs) → Each (Unused takes) (cond b (x ∷ passing t xs) (passing t xs))
    go true r = (record { lifos = e.0.0; takes_made = e.0.1; still = ap (many (on_queue x.object)) none }, r)
    go false r = r

module _ (sys : System) (id : ℕ) (v : View) where
  -- a view with nothing beside
  added : (words : List ℕ) (views : List View) → Holds sys words views → get_elem? views id ≡ some v → Holds sys words (set views id v ++ empty_view ∷ [])
  added words views h at = subst (λ (l : List View). Holds sys words (l ++ empty_view ∷ [])) (sym (set_again views id v at)) (adds-nothing sys words views h)

  pub gives-lane : (n : ℕ) (t : Serve → Bool) → n < 49 → 0 < many (is_number n) v.lane_numbers → 0 < length v.logs → IsUnused v → MayPart sys id v (root_left n t v) (lane_new n t v)
  gives-lane n t few mine lane unused words views h at =
      let granted_to : Holds sys words (set views id (granting n v) ++ granted n empty_view ∷ []) =
      subst (Holds sys words) (set-both views id v v empty_view (granting n v) (granted n empty_view) at)
      (grants_keep_the_rule sys words (set views id v ++ empty_view ∷ []) (added words views h at) id v (at-first views id v v empty_view at) (length views) empty_view (other-place views id v at) (at-second views id v empty_view) n few mine (λ none. absurd (omega arith))) in
      subst (Holds sys words) (set-both views id v (granting n v) (granted n empty_view) (root_left n t v) (handed t (granting n v) (granted n empty_view)) at)
      (hand_overs_keep_the_rule sys words (set views id (granting n v) ++ granted n empty_view ∷ []) granted_to id (granting n v) (at-first views id v (granting n v) (granted n empty_view) at) (length views) (granted n empty_view) (other-place views id v at)
      (at-second views id (granting n v) (granted n empty_view)) t (each-passing v.takes t v.serves unused.takes unused.serves))

  pub looks-on : MayPart sys id v v (onlooker v)
  looks-on words views h at =
      subst (Holds sys words) (set-both views id v v empty_view v (onlooker v) at)
      (onlookers_keep_the_rule sys words (set views id v ++ empty_view ∷ []) (added words views h at) id v (at-first views id v v empty_view at) (length views) empty_view (other-place views id v at) (at-second views id v empty_view) refl)

  pub moves-all : MayPart sys id v empty_view v
  moves-all words views h at =
      let more : List View = set views id v ++ empty_view ∷ [] in
      let there : get_elem? more id ≡ some v = at-first views id v v empty_view at in
      subst (Holds sys words) (ap (λ l. set l id empty_view) last ∙ (set-longer (set views id v) (v ∷ []) id v empty_view (set_here views id v (below views id v at)) ∙ ap (λ l. l ++ v ∷ []) (set-twice views id v empty_view)))
      (joins_keep_the_rule sys words more (added words views h at) (length views) empty_view (at-second views id v empty_view) id v (λ e. other-place views id v at (sym e)) there)
    where
      last : set (set views id v ++ empty_view ∷ []) (length views) (views_joined empty_view v) ≡ set views id v ++ v ∷ []
      last = ap (λ n. set (set views id v ++ empty_view ∷ []) n v) (sym (set-length views id v)) ∙ set-last (set views id v) empty_view v

  pub joins : (words : List ℕ) (views : List View) → Holds sys words views → get_elem? views id ≡ some v → (other : ℕ) (w : View) → other ≢ id → get_elem? (set views id (views_joined v w)) other ≡ some w
      → Holds sys words (set (set views id (views_joined v w)) other empty_view)
  joins words views h at other w apart there = joins_keep_the_rule sys words views h id v at other w apart (sym (set_else views id other (views_joined v w) apart) ∙ there)
