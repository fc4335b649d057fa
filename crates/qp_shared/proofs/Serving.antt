-- Which objects a lane is given, and which are left.
use Rattle.std.proofs.Common.{◌≡◌, ℕ, zero, suc, ◌+◌, ◌-◌, ◌*◌, ◌%◌, ◌^◌, ◌<◌, ◌≤◌, ◌==◌, Bool, true, false, not, ◌&&◌, ◌||◌, cond, List, [], ◌∷◌, length, take, slice_get, get_or, refl, sym, ◌∙◌, ap, subst, arith, ltb, eqb, eqb-true, eq-eqb, ne_eqb, pow_mono, Some, None, Option, is_some, if◌then◌else◌}
use Rattle.std.specs.List.{list_any, find, AllByRecursion}
use Rattle.std.specs.Option.{option_map_or}
use Rattle.std.specs.Int.{bit_at}
use Rattle.std.proofs.lemmas.Nat.Bits.{bit_at-zero, bit_at-pow_same, bit_at-pow_other}
use Rattle.std.proofs.lemmas.List.{take_all}
use Rattle.qp_model.proofs.ListLemmas.{each-at, and-true}
use Rattle.std.proofs.lemmas.Option.{slice_get-get_or, slice_get_past}
use Rattle.std.proofs.lemmas.Bool.{ltb-false}
use borrow.Author.Tests.{ltb-true}
use mathlib.Core.Logic.{dite}
use native.Mathlib.Decide.{ℕ_discrete}
use Rattle.qp_model.specs.declared.systems.ObjectDef.{ObjectDef}
use Rattle.qp_model.specs.declared.systems.System.{System}
use Rattle.qp_model.specs.Laws.{Ascend}
use Rattle.qp_model.specs.Sites.{object_at}
use Rattle.qp_model.specs.Sound.{IsSound}
use Rattle.qp_model.specs.WordLaw.{is_object}
use Rattle.qp_table.specs.Counting.{Each, many}
use Rattle.qp_table.specs.First.{IsFreshServe, first_serves}
use Rattle.qp_table.specs.Rule.{is_serve}
use Rattle.qp_table.specs.After.{passing, failing}
use Rattle.qp_table.specs.declared.view.Serve.{Serve}
use Rattle.qp_table.proofs.Start.{object-within, serves-once}
use Rattle.qp_side.specs.Seats.{in_set}
use Rattle.qp_shared.specs.Starting.{objects_for, lane_serves, root_serves}
use Rattle.qp_shared_blocks.proofs.Gives.{and-off}

-- whether the set has the object
abbrev has_bit : ℕ → ℕ → Bool
has_bit m o = eqb (bit_at m (o - 1)) 1

any-passing : (m o : ℕ) (xs : List Serve) → list_any (is_serve o) (passing (in_set m) xs) ≡ (has_bit m o && list_any (is_serve o) xs)
any-passing m o [] = off (has_bit m o)
  where
    off : (b : Bool) → false ≡ (b && false)
    off true = refl
    off false = refl
any-passing m o (x ∷ xs) = go (in_set m x) refl (eqb x.object o) refl (any-passing m o xs)
  where
    same : (b : Bool) → in_set m x ≡ b → eqb x.object o ≡ true → has_bit m o ≡ b
    same b e is = ap (has_bit m) (sym (eqb-true x.object o is)) ∙ e

    or-both : (b c : Bool) → (b && c) ≡ (b && (false || c))
    or-both b c = refl

    go : (t : Bool) → in_set m x ≡ t → (u : Bool) → eqb x.object o ≡ u → list_any (is_serve o) (passing (in_set m) xs) ≡ (has_bit m o && list_any (is_serve o) xs)
        → list_any (is_serve o) (cond t (x ∷ passing (in_set m) xs) (passing (in_set m) xs)) ≡ (has_bit m o && (u || list_any (is_serve o) xs))
    go true e true f h = (λ i. f i || list_any (is_serve o) (passing (in_set m) xs)) ∙ sym (λ i. same true e f i && true)
    go true e false f h = (λ i. f i || list_any (is_serve o) (passing (in_set m) xs)) ∙ h
    go false e true f h = h ∙ ((λ i. same false e f i && list_any (is_serve o) xs) ∙ sym (λ i. same false e f i && true))
    go false e false f h = h

any-failing : (m o : ℕ) (xs : List Serve) → list_any (is_serve o) (failing (in_set m) xs) ≡ (not (has_bit m o) && list_any (is_serve o) xs)
any-failing m o [] = off (not (has_bit m o))
  where
    off : (b : Bool) → false ≡ (b && false)
    off true = refl
    off false = refl
any-failing m o (x ∷ xs) = go (in_set m x) refl (eqb x.object o) refl (any-failing m o xs)
  where
    same : (b : Bool) → in_set m x ≡ b → eqb x.object o ≡ true → has_bit m o ≡ b
    same b e is = ap (has_bit m) (sym (eqb-true x.object o is)) ∙ e

    go : (t : Bool) → in_set m x ≡ t → (u : Bool) → eqb x.object o ≡ u → list_any (is_serve o) (failing (in_set m) xs) ≡ (not (has_bit m o) && list_any (is_serve o) xs)
        → list_any (is_serve o) (cond t (failing (in_set m) xs) (x ∷ failing (in_set m) xs)) ≡ (not (has_bit m o) && (u || list_any (is_serve o) xs))
    go true e true f h = h ∙ ((λ i. not (same true e f i) && list_any (is_serve o) xs) ∙ sym (λ i. not (same true e f i) && true))
    go true e false f h = h
    go false e true f h = (λ i. f i || list_any (is_serve o) (failing (in_set m) xs)) ∙ sym (λ i. not (same false e f i) && true)
    go false e false f h = (λ i. f i || list_any (is_serve o) (failing (in_set m) xs)) ∙ h

pub failing-fresh : (t : Serve → Bool) (xs : List Serve) → Each IsFreshServe xs → Each IsFreshServe (failing t xs)
failing-fresh t [] e = tt
failing-fresh t (x ∷ xs) e = go (t x) (failing-fresh t xs e.1)
  where
    go : (b : Bool) → Each IsFreshServe (failing t xs) → Each IsFreshServe (cond b (failing t xs) (x ∷ failing t xs))
    go true r = r
    go false r = (e.0, r)

-- the object at a place of an ascending list, and none before it
record IsAt (xs : List ObjectDef) (n : ℕ) (d : ObjectDef) : Type 0 where
  first : list_any (λ (e : ObjectDef). e.priority == d.priority) (take n xs) ≡ false
  some : 0 < d.priority
  there : is_some (find (λ (e : ObjectDef). e.priority == d.priority) xs) ≡ true

above-at : (low : ℕ) (xs : List ObjectDef) (n : ℕ) (d : ObjectDef) → AllByRecursion (λ (x : ObjectDef). low < x.priority) xs → slice_get xs n ≡ Some d → low < d.priority
above-at low [] n d a at = absurd (cc)
above-at low (x ∷ xs) zero d a at = let is : x ≡ d = cc in subst (λ (z : ObjectDef). low < z.priority) is a.0
above-at low (x ∷ xs) (suc n) d a at = above-at low xs n d a.1 at

at-place : (xs : List ObjectDef) (n : ℕ) (d : ObjectDef) → Ascend xs → slice_get xs n ≡ Some d → IsAt xs n d
at-place [] n d a at = absurd (cc)
at-place (x ∷ xs) zero d a at = let is : x ≡ d = cc in let e = eq-eqb x.priority d.priority (ap (λ (z : ObjectDef). z.priority) is) in record {
  first = refl;
  some = subst (λ (z : ObjectDef). 0 < z.priority) is a.0;
  there = λ i. is_some (cond {A = Option ObjectDef} (e i) (Some x) (find (λ (e : ObjectDef). e.priority == d.priority) xs));
}
at-place (x ∷ xs) (suc n) d a at = let r = at-place xs n d a.2 at in let l = above-at x.priority xs n d a.1 at in let ne = ne_eqb x.priority d.priority (λ e. absurd (omega arith)) in record {
  first = (λ i. ne i || list_any (λ (e : ObjectDef). e.priority == d.priority) (take n xs)) ∙ r.first;
  some = r.some;
  there = (λ i. is_some (cond {A = Option ObjectDef} (ne i) (Some x) (find (λ (e : ObjectDef). e.priority == d.priority) xs))) ∙ r.there;
}

-- those before one place more
any-more : (p : ObjectDef → Bool) (xs : List ObjectDef) (n : ℕ) → list_any p (take (suc n) xs) ≡ (list_any p (take n xs) || option_map_or p (slice_get xs n) false)
any-more p [] zero = refl
any-more p [] (suc n) = refl
any-more p (x ∷ xs) zero = last (p x)
  where
    last : (b : Bool) → (b || false) ≡ b
    last true = refl
    last false = refl
any-more p (x ∷ xs) (suc n) = ap (λ b. p x || b) (any-more p xs n) ∙ assoc (p x) (list_any p (take n xs)) (option_map_or p (slice_get xs n) false)
  where
    assoc : (a b c : Bool) → (a || (b || c)) ≡ ((a || b) || c)
    assoc true b c = refl
    assoc false b c = refl

bit-of : (p o : ℕ) → 0 < p → 0 < o → has_bit (2 ^ (p - 1)) o ≡ (p == o)
bit-of p o some there = dite (ℕ_discrete p o)
    (λ e. eq-eqb (bit_at (2 ^ (p - 1)) (o - 1)) 1 (ap (bit_at (2 ^ (p - 1))) (let z : o - 1 ≡ p - 1 = omega arith in z) ∙ bit_at-pow_same (p - 1)) ∙ sym (eq-eqb p o e))
    (λ ne. ne_eqb (bit_at (2 ^ (p - 1)) (o - 1)) 1 (λ e. let z = bit_at-pow_other (p - 1) (o - 1) (λ q. ne (omega arith)) in absurd (omega arith)) ∙ sym (ne_eqb p o ne))

no-bit : (o : ℕ) → has_bit 0 o ≡ false
no-bit o = ne_eqb (bit_at 0 (o - 1)) 1 (λ e. let z = bit_at-zero (o - 1) in absurd (omega arith))

or-on : (b : Bool) → (b || true) ≡ true
or-on true = refl
or-on false = refl

or-off : (b : Bool) → (b || false) ≡ b
or-off true = refl
or-off false = refl

-- what one is given of what is left, and what is left then, by the bit: the object is one of the system, stood before, stands here
given-case : (bit object before here : Bool) → (object ≡ true → bit ≡ here) → (here ≡ true → object ≡ true) → (here ≡ true → before ≡ false) → ((bit && (object && not before)) ≡ here) × ((not bit && (object && not before)) ≡ (object && not (before || here)))
given-case bit true before true b o f = ((λ i. b refl i && not (f refl i)), (λ i. not (b refl i) && not before) ∙ sym (ap not (or-on before)))
given-case bit true before false b o f = ((λ i. b refl i && not before), (λ i. not (b refl i) && not before) ∙ sym (ap not (or-off before)))
given-case bit false before true b o f = let z = o refl in absurd (cc)
given-case bit false before false b o f = (and-off bit, and-off (not bit))

module _ (sys : System) (sound : IsSound sys) (k o : ℕ) (later : 0 < k) (xs : List Serve) where
  abbrev before : Bool
  before = list_any (λ (d : ObjectDef). d.priority == o) (take (k - 1) sys.objects)

  next-place : k + 1 - 1 ≡ suc (k - 1)
  next-place = omega arith

  -- the objects before the next lane's
  before-next : list_any (λ (d : ObjectDef). d.priority == o) (take (k + 1 - 1) sys.objects) ≡ (before || option_map_or (λ (d : ObjectDef). d.priority == o) (slice_get sys.objects (k - 1)) false)
  before-next = ap (λ n. list_any (λ (d : ObjectDef). d.priority == o) (take n sys.objects)) next-place ∙ any-more (λ (d : ObjectDef). d.priority == o) sys.objects (k - 1)

  is-here : (d : ObjectDef) → slice_get sys.objects (k - 1) ≡ Some d → (d.priority == o) ≡ true → (is_object sys o ≡ true) × (before ≡ false)
  unfolding is_object object_at
  is-here d at e = let same = eqb-true d.priority o e in let z = at-place sys.objects (k - 1) d sound.ascend at in
      (subst (λ p. is_some (find (λ (e : ObjectDef). e.priority == p) sys.objects) ≡ true) same z.there, subst (λ p. list_any (λ (e : ObjectDef). e.priority == p) (take (k - 1) sys.objects) ≡ false) same z.first)

  by-place : (x : Option ObjectDef) → slice_get sys.objects (k - 1) ≡ x → (bit : Bool) → has_bit (option_map_or (λ (d : ObjectDef). 2 ^ (d.priority - 1)) x 0) o ≡ bit
      → ((bit && (is_object sys o && not before)) ≡ option_map_or (λ (d : ObjectDef). d.priority == o) x false)
      × ((not bit && (is_object sys o && not before)) ≡ (is_object sys o && not (before || option_map_or (λ (d : ObjectDef). d.priority == o) x false)))
  by-place None at bit is = given-case bit (is_object sys o) before false (λ h. sym is ∙ no-bit o) (λ h. absurd (cc)) (λ h. absurd (cc))
  by-place (Some d) at bit is = given-case bit (is_object sys o) before (d.priority == o)
      (λ h. sym is ∙ bit-of d.priority o (at-place sys.objects (k - 1) d sound.ascend at).some (object-within sys sound o h).0) (λ h. (is-here d at h).0) (λ h. (is-here d at h).1)

  pub gets : (port : Bool) → list_any (is_serve o) xs ≡ root_serves sys port k o
      → (list_any (is_serve o) (passing (in_set (objects_for sys port k)) xs) ≡ lane_serves sys port k o) × (list_any (is_serve o) (failing (in_set (objects_for sys port k)) xs) ≡ root_serves sys port (k + 1) o)
  gets false h = (any-passing 0 o xs ∙ (λ i. no-bit o i && list_any (is_serve o) xs), any-failing 0 o xs ∙ (λ i. not (no-bit o i) && h i))
  gets true h =
      let m : ℕ = objects_for sys true k in let z = by-place (slice_get sys.objects (k - 1)) refl (has_bit m o) refl in
      (any-passing m o xs ∙ ((λ i. has_bit m o && h i) ∙ z.0), any-failing m o xs ∙ ((λ i. not (has_bit m o) && h i) ∙ (z.1 ∙ sym (λ i. is_object sys o && not (before-next i)))))

-- at first all are served
pub all-served : (sys : System) (sound : IsSound sys) (o : ℕ) → list_any (is_serve o) (first_serves sys 32) ≡ is_object sys o
all-served sys sound o = any-first (first_serves sys 32) (is_object sys o) (serves-once sys sound o)
  where
    any-first : (xs : List Serve) (t : Bool) → many (is_serve o) xs ≡ cond t 1 0 → list_any (is_serve o) xs ≡ t
    any-first [] true e = absurd (omega arith)
    any-first [] false e = refl
    any-first (x ∷ xs) t e = go (eqb x.object o) t e (any-first xs)
      where
        go : (b t : Bool) → cond {A = ℕ} b 1 0 + many (is_serve o) xs ≡ cond t 1 0 → ((t : Bool) → many (is_serve o) xs ≡ cond t 1 0 → list_any (is_serve o) xs ≡ t) → (b || list_any (is_serve o) xs) ≡ t
        go true true e r = refl
        go true false e r = absurd (omega arith)
        go false true e r = r true (omega arith)
        go false false e r = r false (omega arith)

pub all-left : (sys : System) (port : Bool) (o : ℕ) → root_serves sys port 1 o ≡ is_object sys o
all-left sys true o = and-true (is_object sys o)
all-left sys false o = and-true (is_object sys o)

-- the bits of the objects for a lane
pub bits-for : (sys : System) (sound : IsSound sys) (port : Bool) (k : ℕ) (d : ObjectDef) → port ≡ true → slice_get sys.objects (k - 1) ≡ Some d → 1 * 2 ^ (d.priority - 1) % 4294967296 ≡ objects_for sys port k
bits-for sys sound port k d is at =
    let few = each-at (λ (x : ObjectDef). x.priority ≤ 32) sys.objects (k - 1) d sound.priorities at in
    let low : 2 ^ (d.priority - 1) ≤ 2 ^ 31 = pow_mono {j = 31} (omega arith) in
    let same : 1 * 2 ^ (d.priority - 1) % 4294967296 ≡ 2 ^ (d.priority - 1) = omega arith in
    same ∙ (sym (λ i. option_map_or (λ (d : ObjectDef). 2 ^ (d.priority - 1)) (at i) 0) ∙ sym (λ i. if is i then option_map_or (λ (d : ObjectDef). 2 ^ (d.priority - 1)) (slice_get sys.objects (k - 1)) 0 else 0))

pub no-bits-for : (sys : System) (port : Bool) (k : ℕ) → port ≡ true → slice_get sys.objects (k - 1) ≡ None → 0 ≡ objects_for sys port k
no-bits-for sys port k is at = sym (λ i. option_map_or (λ (d : ObjectDef). 2 ^ (d.priority - 1)) (at i) 0) ∙ sym (λ i. if is i then option_map_or (λ (d : ObjectDef). 2 ^ (d.priority - 1)) (slice_get sys.objects (k - 1)) 0 else 0)

-- where as many lanes were given out as there are objects, none is left
pub none-left : (sys : System) (sound : IsSound sys) (n o : ℕ) → length sys.objects < n → root_serves sys true n o ≡ false
unfolding is_object object_at
none-left sys sound n o enough = go (is_object sys o) refl
  where
    all-there : list_any (λ (d : ObjectDef). d.priority == o) (take (n - 1) sys.objects) ≡ list_any (λ (d : ObjectDef). d.priority == o) sys.objects
    all-there = ap (list_any (λ (d : ObjectDef). d.priority == o)) (take_all (n - 1) sys.objects (omega arith))

    found : (xs : List ObjectDef) → is_some (find (λ (d : ObjectDef). d.priority == o) xs) ≡ list_any (λ (d : ObjectDef). d.priority == o) xs
    found [] = refl
    found (x ∷ xs) = one (x.priority == o) (found xs)
      where
        one : (b : Bool) → is_some (find (λ (d : ObjectDef). d.priority == o) xs) ≡ list_any (λ (d : ObjectDef). d.priority == o) xs → is_some (cond {A = Option ObjectDef} b (Some x) (find (λ (d : ObjectDef). d.priority == o) xs)) ≡ (b || list_any (λ (d : ObjectDef). d.priority == o) xs)
        one true h = refl
        one false h = h

    go : (t : Bool) → is_object sys o ≡ t → (t && not (list_any (λ (d : ObjectDef). d.priority == o) (take (n - 1) sys.objects))) ≡ false
    go false e = refl
    go true e = ap not (all-there ∙ (sym (found sys.objects) ∙ is-some e))
      where
        is-some : is_object sys o ≡ true → is_some (find (λ (d : ObjectDef). d.priority == o) sys.objects) ≡ true
        is-some h = h

-- what a lookup found
pub found-at : (xs ys : List ObjectDef) (i : ℕ) (d : ObjectDef) → xs ≡ ys → true ≡ ltb i (length xs) → d ≡ get_or xs i d → slice_get ys i ≡ Some d
found-at xs ys i d same in_it is = ap (λ z. slice_get z i) (sym same) ∙ (slice_get-get_or xs i d (ltb-true i (length xs) (sym in_it)) ∙ ap (λ z. Some z) (sym is))

pub none-at : (xs ys : List ObjectDef) (i : ℕ) → xs ≡ ys → false ≡ ltb i (length xs) → slice_get ys i ≡ None
none-at xs ys i same out = ap (λ z. slice_get z i) (sym same) ∙ slice_get_past xs i (ltb-false i (length xs) (sym out))
