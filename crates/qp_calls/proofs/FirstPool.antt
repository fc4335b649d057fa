-- The pools of a system by their sizes.
use Rattle.std.proofs.Common.{◌≡◌, ℕ, List, [], ◌∷◌, map, refl, ap, nat_le, Bool, true, false}
use Rattle.std.specs.List.{position, prefix_len, list_any}
use Rattle.std.proofs.Common.{length, not, cond, sym, ◌||◌, slice_get, nat_lt}
use Rattle.std.proofs.lemmas.Bool.{lt-ltb, le-leb}
use Rattle.std.proofs.lemmas.List.{length-map}
use Rattle.std.proofs.Common.{Some, None, Option, get_or, ◌<◌, ◌≤◌, ◌-◌, ◌+◌, arith, ◌⊎◌, inl, inr}
use Rattle.std.specs.Option.{option_map}
use Rattle.std.proofs.lemmas.Bool.Decides.{nat_tests}
use Rattle.std.proofs.lemmas.List.Quantifiers.{position-Some}
use Rattle.std.proofs.lemmas.Option.{slice_get_cases}
use Rattle.qp_model.specs.declared.systems.PoolDef.{PoolDef}
use Rattle.qp_model.specs.declared.systems.SignalDef.{SignalDef}
use Rattle.qp_model.specs.declared.systems.System.{System}
use Rattle.qp_model.specs.Parts.{first_pool, sizes_of, is_static}
use Rattle.qp_model.specs.Told.{Event}
use Rattle.qp_model.specs.Sound.{IsSound, IsSoundSignal}
use Rattle.qp_model.proofs.ListLemmas.{every-at}
use Rattle.qp_calls.specs.Clauses.{FitsPool, IsEvent}

prefix-sizes : (n : ℕ) (pools : List PoolDef) → prefix_len (λ size. not (nat_le n size)) (map (λ d. d.size) pools) ≡ prefix_len (λ d. not (nat_le n d.size)) pools
prefix-sizes n [] = refl
prefix-sizes n (d ∷ ds) = go (nat_le n d.size) (prefix-sizes n ds)
  where
    go : (b : Bool) → prefix_len (λ size. not (nat_le n size)) (map (λ d. d.size) ds) ≡ prefix_len (λ d. not (nat_le n d.size)) ds
        → cond (not b) (1 + prefix_len (λ size. not (nat_le n size)) (map (λ d. d.size) ds)) 0 ≡ cond (not b) (1 + prefix_len (λ d. not (nat_le n d.size)) ds) 0
    go true h = refl
    go false h = ap (λ k. 1 + k) h

pub position-sizes : (n : ℕ) (pools : List PoolDef) → position (λ size. nat_le n size) (map (λ d. d.size) pools) ≡ position (λ d. nat_le n d.size) pools
position-sizes n pools = rw (prefix-sizes n pools, length-map pools (λ d. d.size)) refl

-- the first pool with room is one of the system's, and has room
at_size : (n : ℕ) (sizes : List ℕ) (p : ℕ) → first_pool sizes n ≡ Some p → (0 < p) × (p ≤ length sizes) × (n ≤ get_or sizes (p - 1) 0)
unfolding first_pool
at_size n sizes p h = go (position (λ size. nat_le n size) sizes) refl h
  where
    go : (o : Option ℕ) → position (λ size. nat_le n size) sizes ≡ o → option_map (λ i. i + 1) o ≡ Some p → (0 < p) × (p ≤ length sizes) × (n ≤ get_or sizes (p - 1) 0)
    go None e k = absurd (cc)
    go (Some i) e k =
        let is : i + 1 ≡ p = cc in
        let found = position-Some (λ size. nat_le n size) sizes i 0 e in
        let fits : nat_le n (get_or sizes i 0) ≡ true = found.1 in
        let le : n ≤ get_or sizes i 0 = grind (arith, nat_tests) in
        let before : p - 1 ≡ i = omega arith in
        (omega arith, omega (arith, found.0), rw before le)

-- the pools of a sound system have room for its events
any-prefix : {X : Type 0} (p : X → Bool) (xs : List X) → list_any p xs ≡ true → prefix_len (λ x. not (p x)) xs < length xs
any-prefix p [] h = absurd (cc)
any-prefix p (x ∷ xs) h = go (p x) h (any-prefix p xs)
  where
    go : (b : Bool) → (b || list_any p xs) ≡ true → (list_any p xs ≡ true → prefix_len (λ y. not (p y)) xs < length xs)
        → cond (not b) (1 + prefix_len (λ y. not (p y)) xs) 0 < length (x ∷ xs)
    go true k ih = omega arith
    go false k ih = let lt = ih k in omega (arith, lt)

position-any : {X : Type 0} (p : X → Bool) (xs : List X) → list_any p xs ≡ true → (i : ℕ) × (position p xs ≡ Some i)
position-any p xs h =
    let lt : prefix_len (λ x. not (p x)) xs < length xs = any-prefix p xs h in
    let is : nat_lt (prefix_len (λ x. not (p x)) xs) (length xs) ≡ true = lt-ltb _ _ lt in
    (prefix_len (λ x. not (p x)) xs, rw is refl)

pub record HasPool (sys : System) (n : ℕ) : Type 0 where
  pub few : length sys.pools ≤ 15
  pub number : ℕ
  pub first : first_pool (sizes_of sys) n ≡ Some number

pub pool_of_sound : (sys : System) (ev : Event) → IsSound sys → IsEvent sys ev → is_static sys ev.sig ≡ false → HasPool sys (length ev.pars)
unfolding is_static first_pool sizes_of
pool_of_sound sys ev sound is pooled = go (slice_get sys.signals (ev.sig - 4)) refl
  where
    go : (o : Option SignalDef) → slice_get sys.signals (ev.sig - 4) ≡ o → HasPool sys (length ev.pars)
    go None at = absurd (past (slice_get_cases sys.signals (ev.sig - 4)).1)
      where
        past : ((x : SignalDef) × (ev.sig - 4 < length sys.signals) × (slice_get sys.signals (ev.sig - 4) ≡ Some x) × (get_or sys.signals (ev.sig - 4) x ≡ x))
            ⊎ ((length sys.signals ≤ ev.sig - 4) × (slice_get sys.signals (ev.sig - 4) ≡ None)) → ⊥
        past (inl h) = let e = h.2 in cc
        past (inr h) = let le = h.0 in omega (arith, le, is.within, is.from)
    go (Some d) at =
        let four : nat_le 4 ev.sig ≡ true = le-leb 4 ev.sig is.from in
        let fixed : d.fixed ≡ false = rw (four, at) at pooled in
        let params : length ev.pars ≡ d.params = rw at at is.params in
        let signal = every-at (IsSoundSignal sys.pools) sys.signals sound.signals (ev.sig - 4) d at in
        let any : list_any (λ q. nat_le (length ev.pars) q.size) sys.pools ≡ true = rw params (signal.pooled fixed) in
        let found = position-any (λ q. nat_le (length ev.pars) q.size) sys.pools any in
        record { few = sound.few_pools; number = found.0 + 1; first = rw (position-sizes (length ev.pars) sys.pools, found.1) refl }

pub fits_first : (sys : System) (p : ℕ) (ev : Event) → IsEvent sys ev → first_pool (sizes_of sys) (length ev.pars) ≡ Some p → FitsPool sys p ev
unfolding sizes_of
fits_first sys p ev is at =
    let found = at_size (length ev.pars) (sizes_of sys) p at in
    record { event = is; some = found.0; size = found.2; there = omega (arith, found.1, length-map sys.pools (λ d. d.size)) }

pub first_pool-here : (a sys : System) (n m p : ℕ) → a ≡ sys → n ≡ m → first_pool (sizes_of sys) n ≡ Some p → first_pool (sizes_of a) m ≡ Some p
first_pool-here a sys n m p of same h = rw (of, sym same) h
