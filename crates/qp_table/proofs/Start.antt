-- The first words of a sound system, and the first view, meet the rule.
use Rattle.std.proofs.Common.{◌≡◌, ℕ, zero, suc, ◌+◌, ◌-◌, ◌*◌, ◌/◌, ◌%◌, ◌^◌, ◌<◌, ◌≤◌, ◌==◌, nat_lt, nat_le, List, [], ◌∷◌, ◌++◌, Bool, true, false, cond, length, get_or, slice_get, refl, ap, ◌∙◌, arith, eqb, eq-eqb, eqb-true, Option, Some, None, is_some}
use Rattle.std.proofs.lemmas.Bool.{and_parts}
use Rattle.std.proofs.lemmas.Bool.Decides.{nat_tests}
use Rattle.std.proofs.lemmas.Option.{slice_get_within}
use Rattle.std.specs.List.{AllByRecursion, find}
use Rattle.std.specs.Option.{option_map_or}
use Rattle.qp_model.specs.declared.systems.PoolDef.{PoolDef}
use Rattle.qp_model.specs.declared.systems.SignalDef.{SignalDef}
use Rattle.qp_model.specs.declared.systems.ObjectDef.{ObjectDef}
use Rattle.qp_model.specs.declared.systems.System.{System}
use Rattle.qp_model.specs.Lists.{count_up}
use Rattle.qp_model.specs.Parts.{is_static, params_of}
use Rattle.qp_model.specs.Sites.{object_at, ring_of, blocks_of}
use Rattle.qp_model.specs.Sound.{IsSoundPool, IsSoundObject, IsSound}
use Rattle.qp_model.specs.WordLaw.{is_pool, is_block, is_object}
use Rattle.qp_table.specs.Counting.{Each, many}
use Rattle.qp_table.specs.Rule.{block_at, queue_at, cell_at, Fitting, bits_value, Shows, is_serve}
use Rattle.qp_table.specs.declared.view.Serve.{Serve}
use Rattle.qp_table.specs.Whole.{first_now}
use Rattle.qp_table.proofs.Ends.{opens}
use Rattle.qp_table.specs.First.{first_word, first_serves, IsFreshServe, SoundSystemsStart}
use Rattle.qp_model.proofs.ListLemmas.{each-at}
use Rattle.qp_table.proofs.Facts.{map-full}

-- What a system has

module _ (sys : System) (sound : IsSound sys) where
  few-blocks : (p : ℕ) → blocks_of sys p ≤ 32
  few-blocks p = go (slice_get sys.pools (p - 1)) refl
    where
      go : (o : Option PoolDef) → slice_get sys.pools (p - 1) ≡ o → option_map_or (λ (d : PoolDef). d.blocks) o 0 ≤ 32
      go None at = omega arith
      go (Some d) at = (each-at IsSoundPool sys.pools (p - 1) d sound.pools at).few_blocks

  few-params : (sig : ℕ) → params_of sys sig ≤ 8
  few-params sig = go (slice_get sys.signals (sig - 4)) refl
    where
      go : (o : Option SignalDef) → slice_get sys.signals (sig - 4) ≡ o → option_map_or (λ (d : SignalDef). d.params) o 0 ≤ 8
      go None at = omega arith
      go (Some d) at = each-at (λ (x : SignalDef). x.params ≤ 8) sys.signals (sig - 4) d sound.params at

  few-signals : (sig : ℕ) → is_static sys sig ≡ true → sig < 65536
  unfolding is_static
  few-signals sig h = go (slice_get sys.signals (sig - 4)) refl (and_parts (nat_le 4 sig) (option_map_or (λ d. d.fixed) (slice_get sys.signals (sig - 4)) false) h).1
    where
      go : (o : Option SignalDef) → slice_get sys.signals (sig - 4) ≡ o → option_map_or (λ (d : SignalDef). d.fixed) o false ≡ true → sig < 65536
      go None at fixed = absurd (cc)
      go (Some d) at fixed = let l = slice_get_within sys.signals (sig - 4) d at in let few = sound.few_signals in omega arith

  object-is : (xs : List ObjectDef) (a : ℕ) → AllByRecursion (λ d. d.priority ≤ 32) xs → AllByRecursion (IsSoundObject sys.charts) xs → is_some (find (λ (d : ObjectDef). d.priority == a) xs) ≡ true → (0 < a) × (a ≤ 32) × (option_map_or (λ (d : ObjectDef). d.ring) (find (λ (d : ObjectDef). d.priority == a) xs) 0 ≤ 255)
  object-is [] a few all h = absurd (cc)
  object-is (x ∷ xs) a few all h = go (x.priority == a) refl h (object-is xs a few.1 all.1)
    where
      go : (u : Bool) → (x.priority == a) ≡ u → is_some (cond u (Some x) (find (λ (d : ObjectDef). d.priority == a) xs)) ≡ true
          → (is_some (find (λ (d : ObjectDef). d.priority == a) xs) ≡ true → (0 < a) × (a ≤ 32) × (option_map_or (λ (d : ObjectDef). d.ring) (find (λ (d : ObjectDef). d.priority == a) xs) 0 ≤ 255))
          → (0 < a) × (a ≤ 32) × (option_map_or (λ (d : ObjectDef). d.ring) (cond u (Some x) (find (λ (d : ObjectDef). d.priority == a) xs)) 0 ≤ 255)
      go true e k later = let is = eqb-true x.priority a e in let one = all.0.some_priority in let most : x.priority ≤ 32 = few.0 in (omega arith, omega arith, all.0.ring)
      go false e k later = later k

  pub object-within : (a : ℕ) → is_object sys a ≡ true → (0 < a) × (a ≤ 32) × (ring_of sys a ≤ 255)
  unfolding is_object object_at ring_of
  object-within a h = object-is sys.objects a sound.priorities sound.objects h

  pool-within : (p : ℕ) → is_pool sys p ≡ true → (0 < p) × (p < 16)
  pool-within p h = let b = and_parts (nat_lt 0 p) (nat_le p (length sys.pools)) h in let x : nat_lt 0 p ≡ true = b.0 in let y : nat_le p (length sys.pools) ≡ true = b.1 in
      let few = sound.few_pools in let lo : 0 < p = grind (arith, nat_tests) in let hi : p ≤ length sys.pools = grind (arith, nat_tests) in (lo, omega arith)

  block-within : (p b : ℕ) → is_block sys p b ≡ true → (0 < p) × (p < 16) × (b < 32)
  unfolding is_block
  block-within p b h = let c = and_parts (is_pool sys p) (nat_lt b (blocks_of sys p)) h in let q = pool-within p c.0 in let few = few-blocks p in
      let y : nat_lt b (blocks_of sys p) ≡ true = c.1 in let l : b < blocks_of sys p = grind (arith, nat_tests) in (q.0, q.1, omega arith)

  pub fitting : Fitting sys
  fitting = record {
    pools = block-within;
    small = λ p h. ((pool-within p h).1, few-blocks p);
    objects = λ a h. let o = object-within a h in let l = o.1 in let r = o.2 in (omega arith, omega arith);
    signals = few-signals;
    few_signals = sound.few_signals;
    params = few-params;
  }

-- The first words

zero-above : (sys : System) (k : ℕ) → 128 ≤ k → first_word sys k ≡ 0
zero-above sys k l = let t : nat_lt k 128 ≡ false = grind (arith, nat_tests) in rw t refl

pool-first : (sys : System) (p : ℕ) → p < 16 → is_pool sys p ≡ true → blocks_of sys p ≤ 32 → first_word sys (8 * p) ≡ bits_value (count_up 0 (blocks_of sys p))
pool-first sys p l h few =
    let below : nat_lt (8 * p) 128 ≡ true = grind (arith, nat_tests) in
    let even : (8 * p % 8 == 0) ≡ true = eq-eqb (8 * p % 8) 0 (omega arith) in
    let whole : 8 * p / 8 ≡ p = omega arith in
    let small : nat_lt (blocks_of sys p) 64 ≡ true = grind (arith, nat_tests) in
    let full = map-full 0 (blocks_of sys p) in
    let up : 2 ^ (0 + blocks_of sys p) ≡ 2 ^ blocks_of sys p = ap (λ k. 2 ^ k) (let z : 0 + blocks_of sys p ≡ blocks_of sys p = omega arith in z) in
    rw (whole, below, even, h, small) (let g : 2 ^ blocks_of sys p - 1 ≡ bits_value (count_up 0 (blocks_of sys p)) = omega arith in g)

module _ (sys : System) (sound : IsSound sys) (words : List ℕ) (wide : length words ≡ 21128) (each : (k : ℕ) → k < 21128 → get_or words k 0 ≡ first_word sys k) where
  pub first-shows : Shows sys words (first_now sys)
  first-shows = record {
    wide = wide;
    pools = λ p h. let q = pool-within sys sound p h in let l = q.1 in let b : bits_value (cond (is_pool sys p) (count_up 0 (blocks_of sys p)) []) ≡ bits_value (count_up 0 (blocks_of sys p)) = ap (λ (t : Bool). bits_value (cond t (count_up 0 (blocks_of sys p)) [])) h in
        let a = each (8 * p) (omega arith) in let f = pool-first sys p l h (few-blocks sys sound p) in omega arith;
    blocks = λ p b h. let q = block-within sys sound p b h in let x = q.1 in let y = q.2 in each (block_at p b) (omega arith) ∙ zero-above sys (block_at p b) (omega arith);
    queues = λ a h. let o = object-within sys sound a h in let l = o.1 in each (queue_at a) (omega arith) ∙ zero-above sys (queue_at a) (omega arith);
  }

  pub first-cells : (a j : ℕ) → is_object sys a ≡ true → j < ring_of sys a + 1 → get_or words (cell_at a j) 0 ≡ 0
  first-cells a j h l = let o = object-within sys sound a h in let x = o.1 in let y = o.2 in each (cell_at a j) (omega arith) ∙ zero-above sys (cell_at a j) (omega arith)

-- The first services

module _ (sys : System) where
  abbrev serves_now : ℕ → Bool → List Serve
  serves_now n t = cond t (record { object = suc n; lifos = 0; takes = 0 } ∷ []) [] ++ first_serves sys n

  none-above : (n a : ℕ) → n < a → many (is_serve a) (first_serves sys n) ≡ 0
  unfolding first_serves
  none-above zero a l = refl
  none-above (suc n) a l = go (is_object sys (suc n)) (eqb (suc n) a) refl (none-above n a (omega arith))
    where
      go : (t u : Bool) → eqb (suc n) a ≡ u → many (is_serve a) (first_serves sys n) ≡ 0 → many (is_serve a) (serves_now n t) ≡ 0
      go true true e h = let is = eqb-true (suc n) a e in absurd (omega arith)
      go true false e h = rw e (omega arith)
      go false u e h = h

  none-unknown : (n a : ℕ) → is_object sys a ≡ false → many (is_serve a) (first_serves sys n) ≡ 0
  unfolding first_serves
  none-unknown zero a gone = refl
  none-unknown (suc n) a gone = go (is_object sys (suc n)) refl (eqb (suc n) a) refl (none-unknown n a gone)
    where
      go : (t : Bool) → is_object sys (suc n) ≡ t → (u : Bool) → eqb (suc n) a ≡ u → many (is_serve a) (first_serves sys n) ≡ 0 → many (is_serve a) (serves_now n t) ≡ 0
      go true known true e h = let is = ap (is_object sys) (eqb-true (suc n) a e) in absurd (cc)
      go true known false e h = rw e (omega arith)
      go false known u e h = h

  one-known : (n a : ℕ) → a ≤ n → 0 < a → is_object sys a ≡ true → many (is_serve a) (first_serves sys n) ≡ 1
  unfolding first_serves
  one-known zero a l pos there = absurd (omega arith)
  one-known (suc n) a l pos there = go (is_object sys (suc n)) refl (eqb (suc n) a) refl (λ le. one-known n a le pos there) (none-above n a)
    where
      go : (t : Bool) → is_object sys (suc n) ≡ t → (u : Bool) → eqb (suc n) a ≡ u → (a ≤ n → many (is_serve a) (first_serves sys n) ≡ 1) → (n < a → many (is_serve a) (first_serves sys n) ≡ 0) → many (is_serve a) (serves_now n t) ≡ 1
      go true known true e below above = let is = eqb-true (suc n) a e in let z = above (omega arith) in rw e (omega arith)
      go true known false e below above = let b = below (apart e) in rw e (omega arith)
        where
          apart : eqb (suc n) a ≡ false → a ≤ n
          apart ne = grind (arith, nat_tests)
      go false known true e below above = let is = ap (is_object sys) (eqb-true (suc n) a e) in absurd (cc)
      go false known false e below above = below (grind (arith, nat_tests))

  pub serves-once : IsSound sys → (a : ℕ) → many (is_serve a) (first_serves sys 32) ≡ cond (is_object sys a) 1 0
  serves-once sound a = go (is_object sys a) refl
    where
      go : (t : Bool) → is_object sys a ≡ t → many (is_serve a) (first_serves sys 32) ≡ cond t 1 0
      go true there = let o = object-within sys sound a there in one-known 32 a o.1 o.0 there
      go false gone = none-unknown 32 a gone

  pub serves-fresh : (n : ℕ) → Each IsFreshServe (first_serves sys n)
  unfolding first_serves
  serves-fresh zero = tt
  serves-fresh (suc n) = go (is_object sys (suc n)) (serves-fresh n)
    where
      go : (t : Bool) → Each IsFreshServe (first_serves sys n) → Each IsFreshServe (serves_now n t)
      go true h = ((refl, refl), h)
      go false h = h

pub starts : SoundSystemsStart
starts sys words sound wide each = opens sys words (first_serves sys 32) (fitting sys sound) (first-shows sys sound words wide each) (first-cells sys sound words wide each) (serves-once sys sound) (serves-fresh sys 32)
