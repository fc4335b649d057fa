-- Where a lane parked, behind more records, and the notes that it gave.
use Rattle.std.proofs.Common.{◌≡◌, ℕ, zero, suc, ◌+◌, ◌%◌, ◌^◌, ◌==◌, Bool, true, false, ◌||◌, List, [], ◌∷◌, ◌++◌, cond, refl, sym, ◌∙◌, ap, subst, arith, Option, Some, Result, Ok, Err, OnOk, OnErr}
use Rattle.std.specs.List.{list_all}
use Rattle.std.proofs.lemmas.Bool.{and_from, and_parts}
use Rattle.std.proofs.lemmas.Bool.Decides.{nat_tests}
use Rattle.crossbeam_utils.specs.Token.{parker_view}
use Rattle.qp_base.specs.declared.faults.Memory.{Memory}
use Rattle.qp_model.specs.Sources.{priorities}
use Rattle.qp_model.specs.Told.{ToldItem}
use Rattle.qp_calls.specs.LaneView.{LaneView}
use Rattle.qp_wait_rings.specs.declared.cord.Cord.{Cord}
use Rattle.qp_wait_rings.specs.Cords.{notes_given, has_cord}
use Rattle.qp_wait_rings.proofs.Quiet.{Grown}
use Rattle.qp_wait.specs.declared.perch.Perch.{Perch}
use Rattle.qp_wait.specs.Lane.{given_in}
use Rattle.qp_wait.specs.Parked.{HasParked, have_all, is_park_place, parked_object, parks_of}

place-still : (me : ℕ) (told ts : List ToldItem) (n : ℕ) → is_park_place me told n ≡ true → is_park_place me (told ++ ts) n ≡ true
place-still me [] ts zero h = absurd (cc)
place-still me [] ts (suc n) h = absurd (cc)
place-still me (t ∷ told) ts zero h = h
place-still me (t ∷ told) ts (suc n) h = place-still me told ts n h

pub places-still : (me : ℕ) (told ts : List ToldItem) (ns : List ℕ) → list_all (is_park_place me told) ns ≡ true → list_all (is_park_place me (told ++ ts)) ns ≡ true
places-still me told ts [] h = refl
places-still me told ts (n ∷ ns) h =
    let parts = and_parts (is_park_place me told n) (list_all (is_park_place me told) ns) h in
    and_from (is_park_place me (told ++ ts) n) (list_all (is_park_place me (told ++ ts)) ns) (place-still me told ts n parts.0) (places-still me told ts ns parts.1)

-- more records came
pub parked-still : (cords : List Cord) (perch : Option Perch) (v w : LaneView) → HasParked cords perch v → Grown v w → HasParked cords perch w
parked-still cords perch v w h g = record {
  objects = h.objects ∙ ap priorities (sym g.sys);
  places = subst (λ ts. list_all (is_park_place (parked_object perch) ts) (parks_of perch) ≡ true) (sym g.told) (places-still (parked_object perch) v.told g.ts (parks_of perch) h.places);
}

-- one park more
pub place-more : (me : ℕ) (told : List ToldItem) (ns : List ℕ) (n : ℕ) → list_all (is_park_place me told) ns ≡ true → is_park_place me told n ≡ true → list_all (is_park_place me told) (ns ++ n ∷ []) ≡ true
place-more me told [] n h one = and_from (is_park_place me told n) true one refl
place-more me told (k ∷ ns) n h one =
    let parts = and_parts (is_park_place me told k) (list_all (is_park_place me told) ns) h in
    and_from (is_park_place me told k) (list_all (is_park_place me told) (ns ++ n ∷ [])) parts.0 (place-more me told ns n parts.1 one)

-- a park, or none
pub parked-again : (cords : List Cord) (p q : Perch) (v w : LaneView) (place : ℕ) (r : Result (Unit {0}) Memory) → w ≡ v → HasParked cords (Some p) v → is_park_place p.object v.told place ≡ true → q.object ≡ p.object
    → OnOk r (q.parks.items ≡ p.parks.items ++ place ∷ []) → OnErr r (q.parks.items ≡ p.parks.items) → HasParked cords (Some q) w
parked-again cords p q v w place (Ok u) is h look same one two = record {
  objects = h.objects ∙ ap (λ x. priorities x.sys) (sym is);
  places = subst (λ x. list_all (is_park_place q.object x.told) q.parks.items ≡ true) (sym is) (subst (λ o. list_all (is_park_place o v.told) q.parks.items ≡ true) (sym same)
      (subst (λ ns. list_all (is_park_place p.object v.told) ns ≡ true) (sym one) (place-more p.object v.told p.parks.items place h.places look)));
}
parked-again cords p q v w place (Err e) is h look same one two = record {
  objects = h.objects ∙ ap (λ x. priorities x.sys) (sym is);
  places = subst (λ x. list_all (is_park_place q.object x.told) q.parks.items ≡ true) (sym is) (subst (λ o. list_all (is_park_place o v.told) q.parks.items ≡ true) (sym same)
      (subst (λ ns. list_all (is_park_place p.object v.told) ns ≡ true) (sym two) h.places));
}

-- Notes by the cords.

-- each shows what it counted
pub given-count : (a : ℕ) (cs : List Cord) → given_in a cs % 2 ^ 64 ≡ notes_given a cs
given-count a [] = refl
given-count a (c ∷ cs) = by (c.object == a) (given-count a cs)
  where
    by : (b : Bool) → given_in a cs % 2 ^ 64 ≡ notes_given a cs → cond b (parker_view c.pass).given (given_in a cs) % 2 ^ 64 ≡ cond b c.pulls (notes_given a cs)
    by true rest = c.given
    by false rest = rest

pub count-all : (a n : ℕ) (cs : List Cord) → have_all n cs ≡ true → has_cord a cs ≡ true → notes_given a cs ≡ n
count-all a n [] h there = absurd (cc)
count-all a n (c ∷ cs) h there =
    let parts = and_parts (c.pulls == n) (have_all n cs) h in
    let one = parts.0 in
    by (c.object == a) (grind (arith, nat_tests, one)) (count-all a n cs parts.1) there
  where
    by : (b : Bool) → c.pulls ≡ n → (has_cord a cs ≡ true → notes_given a cs ≡ n) → (b || has_cord a cs) ≡ true → cond b c.pulls (notes_given a cs) ≡ n
    by true one rest there = one
    by false one rest there = rest there

pub both-notes : (x y n m : ℕ) → x % 2 ^ 64 ≡ n → y % 2 ^ 64 ≡ m → (x + y) % 2 ^ 64 ≡ (n + m) % 2 ^ 64
both-notes x y n m one other = omega (arith, one, other)
