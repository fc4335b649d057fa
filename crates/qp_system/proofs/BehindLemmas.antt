-- What tables without a fault between them have.
use Rattle.std.proofs.Common.{◌≡◌, ℕ, ◌+◌, ◌<◌, ◌≤◌, ◌==◌, ◌&&◌, ◌||◌, Bool, true, false, not, nat_lt, nat_le, List, [], ◌∷◌, ◌++◌, map, Some, None, refl, sym, ◌∙◌, arith}
use Rattle.std.specs.declared.option.Option.{Option}
use Rattle.std.specs.Option.{is_none, option_or}
use Rattle.std.specs.List.{AllByRecursion, IsDistinct, list_any, sum_by}
use Rattle.std.proofs.lemmas.List.Folds.{list_any-append}
use Rattle.std.proofs.lemmas.List.Sums.{sum_by-append, sum_by-cons}
use Rattle.std.proofs.lemmas.Bool.Decides.{nat_tests}
use Rattle.std.proofs.lemmas.Bool.{or_parts}
use Rattle.std.proofs.lemmas.Option.{none-some}
use Rattle.qp_chart_names.specs.declared.place.Part.{Part}
use Rattle.qp_chart_names.specs.Faults.{Fault, fault_if, first_in}
use Rattle.qp_model.specs.declared.systems.PoolDef.{PoolDef}
use Rattle.qp_model.specs.declared.systems.SignalDef.{SignalDef}
use Rattle.qp_chart_names.specs.declared.raw.RawChart.{RawChart}
use Rattle.qp_system_tables.specs.declared.raw.RawObject.{RawObject}
use Rattle.qp_system.specs.Between.{sizes_fault, signal_fault, chart_named, timer_count_of, placing_fault, first_behind, no_pool_fault, is_without_pool}
use Rattle.qp_model.specs.Sound.{SizesAscend}
use Rattle.qp_model.proofs.NumberLemmas.{every}
use Rattle.qp_chart.proofs.ChartTree.{none-both}

none-two : (o later : Option Fault) → option_or o later ≡ None → (o ≡ None) × (later ≡ None)
none-two None later h = (refl, h)
none-two (Some f) later h = absurd (none-some f (sym h))

-- a test without a fault fails
pub fault_if-None : (test : Bool) (code : ℕ) (path : List Part) → fault_if test code path ≡ None → test ≡ false
fault_if-None true code path h = absurd (none-some _ (sym h))
fault_if-None false code path h = refl

-- what each thing has that has no fault behind those before it
each-behind : {A : Type 0} (f : List A → ℕ → A → Option Fault) (P : A → Type 0) → ((earlier : List A) (k : ℕ) (x : A) → f earlier k x ≡ None → P x)
    → (earlier : List A) (k : ℕ) (xs : List A) → first_behind f earlier k xs ≡ None → AllByRecursion P xs
unfolding first_behind
each-behind f P step earlier k [] h = tt
each-behind f P step earlier k (x ∷ xs) h =
    let two = none-two (f earlier k x) (first_behind f (earlier ++ x ∷ []) (k + 1) xs) h in
    (step earlier k x two.0, each-behind f P step (earlier ++ x ∷ []) (k + 1) xs two.1)

-- a static signal has no parameters
signal-bare : (earlier : List SignalDef) (k : ℕ) (s : SignalDef) → signal_fault earlier k s ≡ None → (s.fixed && not (s.params == 0)) ≡ false
unfolding signal_fault
signal-bare earlier k s h = fault_if-None _ _ _ (none-both _ _ (none-both _ _ h).1).0

pub signals-bare : (signals : List SignalDef) → first_behind signal_fault [] 1 signals ≡ None → AllByRecursion (λ s. (s.fixed && not (s.params == 0)) ≡ false) signals
signals-bare signals h = each-behind signal_fault (λ s. (s.fixed && not (s.params == 0)) ≡ false) signal-bare [] 1 signals h

module _ (charts : List RawChart) where
  -- an object's chart is declared, and its threshold isn't below its priority
  pub record IsPlaced (o : RawObject) : Type 0 where
    pub chart : is_none (chart_named charts o.chart) ≡ false
    pub threshold : nat_lt o.threshold o.priority ≡ false

  placed : (earlier : List RawObject) (k : ℕ) (o : RawObject) → placing_fault charts earlier k o ≡ None → IsPlaced o
  unfolding placing_fault
  placed earlier k o h =
      let a = none-both _ _ h in
      let d = none-both _ _ (none-both _ _ (none-both _ _ a.1).1).1 in
      record { chart = fault_if-None _ _ _ a.0; threshold = fault_if-None _ _ _ d.0 }

  pub each-placed : (objects : List RawObject) → first_behind (placing_fault charts) [] 1 objects ≡ None → AllByRecursion IsPlaced objects
  each-placed objects h = each-behind (placing_fault charts) IsPlaced placed [] 1 objects h

  -- no object before it has its priority
  once : (earlier : List RawObject) (k : ℕ) (o : RawObject) → placing_fault charts earlier k o ≡ None → list_any (λ p. p.priority == o.priority) earlier ≡ false
  unfolding placing_fault
  once earlier k o h = fault_if-None _ _ _ (none-both _ _ (none-both _ _ (none-both _ _ h).1).1).0

  -- there are few time events up to it
  few : (earlier : List RawObject) (k : ℕ) (o : RawObject) → placing_fault charts earlier k o ≡ None → sum_by (timer_count_of charts) earlier + timer_count_of charts o ≤ 64
  unfolding placing_fault
  few earlier k o h =
      let d = none-both _ _ (none-both _ _ (none-both _ _ (none-both _ _ h).1).1).1 in
      let test : nat_lt 64 (sum_by (timer_count_of charts) earlier + timer_count_of charts o) ≡ false = fault_if-None _ _ _ (none-both _ _ d.1).0 in
      grind (arith, nat_tests, test)

  differs-more : (earlier : List RawObject) (x : RawObject) (xs : List RawObject) → AllByRecursion (λ o. list_any (λ p. p.priority == o.priority) (earlier ++ x ∷ []) ≡ false) xs
      → AllByRecursion (λ o. list_any (λ p. p.priority == o.priority) earlier ≡ false) xs × AllByRecursion (λ n. (x.priority == n) ≡ false) (map (λ o. o.priority) xs)
  differs-more earlier x [] h = (tt, tt)
  differs-more earlier x (o ∷ os) h =
      let rest = differs-more earlier x os h.1 in
      let joined : (list_any (λ (p : RawObject). p.priority == o.priority) earlier || list_any (λ (p : RawObject). p.priority == o.priority) (x ∷ [])) ≡ false = sym (list_any-append (λ (p : RawObject). p.priority == o.priority) earlier (x ∷ [])) ∙ h.0 in
      let two = or_parts _ _ joined in
      let one = or_parts _ _ two.1 in
      ((two.0, rest.0), (one.0, rest.1))

  distinct-behind : (earlier : List RawObject) (k : ℕ) (xs : List RawObject) → first_behind (placing_fault charts) earlier k xs ≡ None
      → AllByRecursion (λ o. list_any (λ p. p.priority == o.priority) earlier ≡ false) xs × IsDistinct (λ m n. m == n) (map (λ o. o.priority) xs)
  unfolding first_behind IsDistinct
  distinct-behind earlier k [] h = (tt, tt)
  distinct-behind earlier k (x ∷ xs) h =
      let two = none-two (placing_fault charts earlier k x) (first_behind (placing_fault charts) (earlier ++ x ∷ []) (k + 1) xs) h in
      let rest = distinct-behind (earlier ++ x ∷ []) (k + 1) xs two.1 in
      let more = differs-more earlier x xs rest.0 in
      ((once earlier k x two.0, more.0), (more.1, rest.1))

  -- priorities differ
  pub priorities-distinct : (objects : List RawObject) → first_behind (placing_fault charts) [] 1 objects ≡ None → IsDistinct (λ m n. m == n) (map (λ o. o.priority) objects)
  priorities-distinct objects h = (distinct-behind [] 1 objects h).1

  few-behind : (earlier : List RawObject) (k : ℕ) (xs : List RawObject) → sum_by (timer_count_of charts) earlier ≤ 64 → first_behind (placing_fault charts) earlier k xs ≡ None
      → sum_by (timer_count_of charts) earlier + sum_by (timer_count_of charts) xs ≤ 64
  unfolding first_behind
  few-behind earlier k [] so_far h = omega arith
  few-behind earlier k (x ∷ xs) so_far h =
      let two = none-two (placing_fault charts earlier k x) (first_behind (placing_fault charts) (earlier ++ x ∷ []) (k + 1) xs) h in
      let sum = sum_by-append (timer_count_of charts) earlier (x ∷ []) in
      let one = sum_by-cons (timer_count_of charts) x [] in
      let both = sum_by-cons (timer_count_of charts) x xs in
      let here = few earlier k x two.0 in
      let rest = few-behind (earlier ++ x ∷ []) (k + 1) xs (omega (arith, sum, one, here)) two.1 in
      omega (arith, sum, one, both, rest)

  -- all objects have few time events in all
  pub timers-few : (objects : List RawObject) → first_behind (placing_fault charts) [] 1 objects ≡ None → sum_by (timer_count_of charts) objects ≤ 64
  timers-few objects h = let all = few-behind [] 1 objects (omega arith) h in omega (arith, all)

-- sizes above one are above those below it
above-more : (a b : ℕ) (ps : List PoolDef) → a < b → AllByRecursion (λ p. b < p.size) ps → AllByRecursion (λ p. a < p.size) ps
above-more a b [] h all = tt
above-more a b (p ∷ ps) h all = (omega (arith, all.0), above-more a b ps h all.1)

sizes-above : (k b : ℕ) (ps : List PoolDef) → sizes_fault k (Some b) ps ≡ None → AllByRecursion (λ p. b < p.size) ps × SizesAscend ps
unfolding sizes_fault
sizes-above k b [] h = (tt, tt)
sizes-above k b (p ∷ ps) h =
    let two = none-two _ (sizes_fault (k + 1) (Some p.size) ps) h in
    let test : nat_le p.size b ≡ false = fault_if-None _ _ _ two.0 in
    let high : b < p.size = grind (arith, nat_tests, test) in
    let rest = sizes-above (k + 1) p.size ps two.1 in
    ((high, above-more b p.size ps high rest.0), rest)

-- the sizes of pools ascend
pub sizes-ascend : (pools : List PoolDef) → sizes_fault 1 None pools ≡ None → SizesAscend pools
unfolding sizes_fault
sizes-ascend [] h = tt
sizes-ascend (p ∷ ps) h = sizes-above (1 + 1) p.size ps h

-- what each thing of a list has that has no fault by itself
pub each-in : {A : Type 0} (f : ℕ → A → Option Fault) (P : A → Type 0) → ((k : ℕ) (x : A) → f k x ≡ None → P x) → (k : ℕ) (xs : List A) → first_in f k xs ≡ None → AllByRecursion P xs
unfolding first_in
each-in f P step k [] h = tt
each-in f P step k (x ∷ xs) h =
    let two = none-two (f k x) (first_in f (k + 1) xs) h in
    (step k x two.0, each-in f P step (k + 1) xs two.1)

not-both : (a b : Bool) → (not a && not b) ≡ false → a ≡ false → b ≡ true
not-both a true h free = refl
not-both true false h free = cc
not-both false false h free = cc

pooled : (pools : List PoolDef) (s : SignalDef) → is_without_pool pools s ≡ false → s.fixed ≡ false → list_any (λ p. nat_le s.params p.size) pools ≡ true
pooled pools s h free = not-both _ _ h free

-- a signal that isn't static has a pool
pub signals-pooled : (pools : List PoolDef) (signals : List SignalDef) → no_pool_fault pools signals ≡ None
    → AllByRecursion (λ s. s.fixed ≡ false → list_any (λ p. nat_le s.params p.size) pools ≡ true) signals
unfolding no_pool_fault
signals-pooled pools signals h =
    every (λ s. is_without_pool pools s ≡ false) (λ s. s.fixed ≡ false → list_any (λ p. nat_le s.params p.size) pools ≡ true) (pooled pools) signals
    (each-in _ (λ s. is_without_pool pools s ≡ false) (λ k s none. fault_if-None _ _ _ none) 1 signals h)
