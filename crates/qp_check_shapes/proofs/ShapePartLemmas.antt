-- What the shapes ask of a system, whichever call it is: each test is passed exactly where some call has it.
use Rattle.std.proofs.Common.{◌≡◌, ℕ, zero, suc, ◌+◌, ◌-◌, ◌<◌, ◌≤◌, ◌==◌, nat_lt, nat_le, max, Bool, true, false, cond, ◌&&◌, ◌||◌, List, [], ◌∷◌, map, length, slice_get, drop, get_or, drop-cons, add-one, Some, None, refl, sym, ◌∙◌, ap, subst, arith}
use Rattle.std.proofs.lemmas.Bool.Decides.{nat_tests}
use Rattle.std.proofs.Math.ListN.{replicate}
use Rattle.std.proofs.lemmas.List.{length-replicate, at_drop_all}
use Rattle.std.specs.declared.option.Option.{Option}
use Rattle.std.specs.Option.{option_map, option_map_or}
use Rattle.std.specs.List.{list_any, position_or_len}
use Rattle.qp_model.specs.declared.systems.System.{System}
use Rattle.qp_model.specs.declared.systems.SignalDef.{SignalDef}
use Rattle.qp_model.specs.declared.systems.PoolDef.{PoolDef}
use Rattle.qp_model.specs.Parts.{is_static, first_pool}
use Rattle.qp_check_shapes.specs.ShapeUnit.{stands_out, is_used, used_on, goes_to, some_static}

-- static events
pub static-some : (sys : System) (sig : ℕ) → is_static sys sig ≡ true → some_static sys ≡ true
unfolding is_static
static-some sys sig h = by sys.signals (sig - 4) (both (nat_le 4 sig) h)
  where
    both : (a : Bool) → (a && option_map_or (λ d. d.fixed) (slice_get sys.signals (sig - 4)) false) ≡ true → option_map_or (λ d. d.fixed) (slice_get sys.signals (sig - 4)) false ≡ true
    both true h = h
    both false h = absurd (cc)

    by : (ds : List SignalDef) (i : ℕ) → option_map_or (λ d. d.fixed) (slice_get ds i) false ≡ true → list_any (λ d. d.fixed) ds ≡ true
    by [] i h = h
    by (d ∷ ds) zero h = rw h refl
    by (d ∷ ds) (suc i) h = or_right d.fixed (by ds i h)
      where
        or_right : (a : Bool) {b : Bool} → b ≡ true → (a || b) ≡ true
        or_right true h = refl
        or_right false h = h

pub some-static : (sys : System) → some_static sys ≡ true → (sig : ℕ) × (is_static sys sig ≡ true)
unfolding is_static
some-static sys h = let found = by sys.signals h in (found.0 + 4, at found.0 found.1)
  where
    by : (ds : List SignalDef) → list_any (λ d. d.fixed) ds ≡ true → (i : ℕ) × (option_map_or (λ d. d.fixed) (slice_get ds i) false ≡ true)
    by [] h = absurd (cc)
    by (d ∷ ds) h = go d.fixed refl h (λ k. by ds k)
      where
        go : (b : Bool) → d.fixed ≡ b → (b || list_any (λ d. d.fixed) ds) ≡ true
            → (list_any (λ d. d.fixed) ds ≡ true → (i : ℕ) × (option_map_or (λ d. d.fixed) (slice_get ds i) false ≡ true))
            → (i : ℕ) × (option_map_or (λ d. d.fixed) (slice_get (d ∷ ds) i) false ≡ true)
        go true is h behind = (0, is)
        go false is h behind = let found = behind h in (suc found.0, found.1)

    at : (i : ℕ) → option_map_or (λ d. d.fixed) (slice_get sys.signals i) false ≡ true → (nat_le 4 (i + 4) && option_map_or (λ d. d.fixed) (slice_get sys.signals (i + 4 - 4)) false) ≡ true
    at i h =
        let above : nat_le 4 (i + 4) ≡ true = grind (arith, nat_tests) in
        let place : i + 4 - 4 ≡ i = omega arith in
        rw (above, place) h

-- pools
pool-none : (n : ℕ) → first_pool [] n ≡ None
unfolding first_pool
pool-none n = refl

pool-here : (size : ℕ) (sizes : List ℕ) (n : ℕ) → nat_le n size ≡ true → first_pool (size ∷ sizes) n ≡ Some 1
unfolding first_pool
pool-here size sizes n h = let first : nat_lt 0 (suc (length sizes)) ≡ true = grind (arith, nat_tests) in rw (h, first) refl

pool-later : (size : ℕ) (sizes : List ℕ) (n : ℕ) → nat_le n size ≡ false → first_pool (size ∷ sizes) n ≡ option_map suc (first_pool sizes n)
unfolding first_pool
pool-later size sizes n h =
    let place = position_or_len (λ s. nat_le n s) sizes in
    let more : nat_lt (1 + place) (suc (length sizes)) ≡ nat_lt place (length sizes) = grind (arith, nat_tests) in
    rw (h, more) (by place (nat_lt place (length sizes)))
  where
    by : (k : ℕ) (b : Bool) → option_map (λ x. x + 1) (cond b (Some (1 + k)) None) ≡ option_map suc (option_map (λ x. x + 1) (cond b (Some k) None))
    by k true = let e : 1 + k + 1 ≡ suc (k + 1) = omega arith in ap Some e
    by k false = refl

pub goes-first : (sizes : List ℕ) (n p : ℕ) → goes_to sizes n p ≡ true → first_pool sizes n ≡ Some p
unfolding goes_to
goes-first [] n p h = absurd (cc)
goes-first (size ∷ sizes) n zero h = absurd (cc)
goes-first (size ∷ sizes) n (suc place) h = by (nat_le n size) refl h (λ k. goes-first sizes n place k)
  where
    by : (fits : Bool) → nat_le n size ≡ fits → cond fits (place == 0) (goes_to sizes n place) ≡ true → (goes_to sizes n place ≡ true → first_pool sizes n ≡ Some place)
        → first_pool (size ∷ sizes) n ≡ Some (suc place)
    by true is k behind = let first : place ≡ 0 = grind (arith, nat_tests) in pool-here size sizes n is ∙ ap (λ x. Some (suc x)) (sym first)
    by false is k behind = pool-later size sizes n is ∙ ap (option_map suc) (behind k)

pub first-goes : (sizes : List ℕ) (n p : ℕ) → first_pool sizes n ≡ Some p → goes_to sizes n p ≡ true
unfolding goes_to
first-goes [] n p h = let none = pool-none n in absurd (cc)
first-goes (size ∷ sizes) n p h = by (nat_le n size) refl (λ q k. first-goes sizes n q k)
  where
    behind : nat_le n size ≡ false → (q : Option ℕ) → (q ≡ first_pool sizes n) → option_map suc q ≡ Some p → ((q : ℕ) → first_pool sizes n ≡ Some q → goes_to sizes n q ≡ true)
        → goes_to (size ∷ sizes) n p ≡ true
    behind is None k e more = absurd (cc)
    behind is (Some q) k e more = let next : suc q ≡ p = cc in subst (λ x. goes_to (size ∷ sizes) n x ≡ true) next (rw is (more q (sym k)))

    by : (fits : Bool) → nat_le n size ≡ fits → ((q : ℕ) → first_pool sizes n ≡ Some q → goes_to sizes n q ≡ true) → goes_to (size ∷ sizes) n p ≡ true
    by true is more = let here : Some 1 ≡ Some p = sym (pool-here size sizes n is) ∙ h in let one : 1 ≡ p = cc in subst (λ x. goes_to (size ∷ sizes) n x ≡ true) one (rw is refl)
    by false is more = behind is (first_pool sizes n) refl (sym (pool-later size sizes n is) ∙ h) more

out-goes : (low : ℕ) (sizes : List ℕ) (place : ℕ) → stands_out low sizes place ≡ true → (n : ℕ) × (nat_le low n ≡ true) × (goes_to sizes n (suc place) ≡ true)
unfolding stands_out goes_to
out-goes low [] place h = absurd (cc)
out-goes low (size ∷ sizes) zero h = let itself : nat_le low low ≡ true = grind (arith, nat_tests) in (low, itself, rw h refl)
out-goes low (size ∷ sizes) (suc place) h =
    let found = out-goes (max low (size + 1)) sizes place h in
    let large : nat_le (max low (size + 1)) found.0 ≡ true = found.1 in
    let above : nat_le low found.0 ≡ true = grind (arith, nat_tests) in
    let larger : nat_le found.0 size ≡ false = grind (arith, nat_tests) in
    (found.0, above, rw larger found.2)

goes-none : (sizes : List ℕ) (n : ℕ) → goes_to sizes n zero ≡ false
unfolding goes_to
goes-none [] n = refl
goes-none (size ∷ sizes) n = refl

goes-out : (low n : ℕ) (sizes : List ℕ) (place : ℕ) → nat_le low n ≡ true → goes_to sizes n (suc place) ≡ true → stands_out low sizes place ≡ true
unfolding stands_out goes_to
goes-out low n [] place above h = absurd (cc)
goes-out low n (size ∷ sizes) zero above h = by (nat_le n size) refl h
  where
    by : (fits : Bool) → nat_le n size ≡ fits → cond fits (0 == 0) (goes_to sizes n zero) ≡ true → nat_le low size ≡ true
    by true is k = grind (arith, nat_tests)
    by false is k = let none = goes-none sizes n in absurd (cc)
goes-out low n (size ∷ sizes) (suc place) above h = by (nat_le n size) refl h (λ larger k. goes-out (max low (size + 1)) n sizes place larger k)
  where
    by : (fits : Bool) → nat_le n size ≡ fits → cond fits (suc place == 0) (goes_to sizes n (suc place)) ≡ true
        → (nat_le (max low (size + 1)) n ≡ true → goes_to sizes n (suc place) ≡ true → stands_out (max low (size + 1)) sizes place ≡ true)
        → stands_out (max low (size + 1)) sizes place ≡ true
    by true is k more = let later : (suc place == 0) ≡ false = grind (arith, nat_tests) in absurd (cc)
    by false is k more = let larger : nat_le (max low (size + 1)) n ≡ true = grind (arith, nat_tests) in more larger k

pub used-first : (sizes : List ℕ) (p : ℕ) → is_used sizes p ≡ true → (pars : List ℕ) × (first_pool sizes (length pars) ≡ Some p)
unfolding is_used
used-first sizes zero h = absurd (cc)
used-first sizes (suc place) h =
    let found = out-goes 0 sizes place h in
    (replicate found.0 0, ap (first_pool sizes) (length-replicate found.0 0) ∙ goes-first sizes found.0 (suc place) found.2)

pub first-used : (sizes : List ℕ) (n p : ℕ) → first_pool sizes n ≡ Some p → is_used sizes p ≡ true
unfolding is_used
first-used sizes n zero h = let goes = first-goes sizes n zero h in let none = goes-none sizes n in absurd (cc)
first-used sizes n (suc place) h = let low : nat_le 0 n ≡ true = grind (arith, nat_tests) in goes-out 0 n sizes place low (first-goes sizes n (suc place) h)

-- a loop over the pools: at one, and behind the last
pub goes-fits : (size : ℕ) (sizes : List ℕ) (n left : ℕ) → nat_le n size ≡ true → goes_to (size ∷ sizes) n left ≡ (left == 1)
unfolding goes_to
goes-fits size sizes n zero h = refl
goes-fits size sizes n (suc place) h = rw h (grind (arith, nat_tests))

pub goes-over : (size : ℕ) (sizes : List ℕ) (n left : ℕ) → nat_le n size ≡ false → goes_to (size ∷ sizes) n left ≡ goes_to sizes n (left - 1)
unfolding goes_to
goes-over size sizes n zero h = sym (goes-none sizes n)
goes-over size sizes n (suc place) h = let e : place ≡ suc place - 1 = omega arith in rw h (ap (goes_to sizes n) e)

pub goes-empty : (n left : ℕ) → goes_to [] n left ≡ false
unfolding goes_to
goes-empty n left = refl

pub used-start : (sizes : List ℕ) (p : ℕ) → is_used sizes p ≡ used_on 0 sizes p
unfolding is_used used_on
used-start sizes zero = refl
used-start sizes (suc place) = refl

pub used-here : (low size : ℕ) (sizes : List ℕ) (left : ℕ) → left ≤ 1 → used_on low (size ∷ sizes) left ≡ ((left == 1) && nat_le low size)
unfolding used_on stands_out
used-here low size sizes zero h = refl
used-here low size sizes (suc zero) h = refl
used-here low size sizes (suc (suc place)) h = absurd (omega arith)

pub used-later : (low size : ℕ) (sizes : List ℕ) (left : ℕ) → 1 < left → used_on low (size ∷ sizes) left ≡ used_on (max low (size + 1)) sizes (left - 1)
unfolding used_on stands_out
used-later low size sizes zero h = absurd (omega arith)
used-later low size sizes (suc zero) h = absurd (omega arith)
used-later low size sizes (suc (suc place)) h = let e : suc place ≡ suc (suc place) - 1 = omega arith in ap (used_on (max low (size + 1)) sizes) e

pub used-empty : (low left : ℕ) → used_on low [] left ≡ false
unfolding used_on stands_out
used-empty low zero = refl
used-empty low (suc left) = refl

-- the sizes from a place on, and behind the last
pub sizes-from : (ds : List PoolDef) (i : ℕ) (d : PoolDef) → i < length ds → map (λ (x : PoolDef). x.size) (drop i ds) ≡ (get_or ds i d).size ∷ map (λ (x : PoolDef). x.size) (drop (i + 1) ds)
sizes-from ds i d h = rw add-one (ap (map (λ (x : PoolDef). x.size)) (drop-cons ds i d h))

pub sizes-end : (ds : List PoolDef) (i : ℕ) → length ds ≤ i → map (λ (x : PoolDef). x.size) (drop i ds) ≡ []
sizes-end ds i h = at_drop_all (λ xs. map (λ (x : PoolDef). x.size) xs) ds i h
