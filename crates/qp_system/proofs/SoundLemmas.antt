-- The system of a file meets the rules of its file.
use Rattle.std.proofs.Common.{◌≡◌, ℕ, ◌-◌, ◌≤◌, true, false, nat_le, List, [], ◌∷◌, length, map, Some, None, Ok, refl, sym, ◌∙◌, ap, subst, arith}
use Rattle.std.specs.Option.{option_map_or}
use Rattle.std.specs.List.{All, AllByRecursion, flat_map, list_any, slice_get, sum_by}
use Rattle.std.specs.List.Sorted.{IsPermutation}
use Rattle.std.proofs.lemmas.List.{length-map}
use Rattle.std.proofs.lemmas.List.Concat.{length-flat_map}
use Rattle.std.proofs.lemmas.List.Sums.{sum_by-cons}
use Rattle.std.proofs.lemmas.List.Elements.{recursion_from_All, All-from_recursion}
use Rattle.std.proofs.lemmas.List.Sorted.{All-permutation, length_permutation, sum_by-IsPermutation}
use Rattle.std.proofs.lemmas.Bool.Decides.{nat_tests}
use Rattle.std.proofs.lemmas.Option.{same_Some}
use Rattle.qp_chart_names.specs.declared.raw.RawChart.{RawChart}
use Rattle.qp_chart_names.specs.declared.raw.Names.{Names}
use Rattle.qp_chart.specs.declared.checked.Chart.{Chart}
use Rattle.qp_chart.specs.ChartFaults.{chart_fault}
use Rattle.qp_chart.specs.ChartOf.{IsChartOf, IsTimerOf}
use Rattle.qp_chart.specs.LegalTree.{IsLegal}
use Rattle.qp_chart_names.specs.Pairs.{Corresponds}
use Rattle.qp_chart_names.proofs.NumberingLemmas.{number_in-above, number_in-below}
use Rattle.qp_chart.proofs.LegalLemmas.{IsLegal-from, Corresponds-length}
use Rattle.qp_model.specs.declared.systems.PoolDef.{PoolDef}
use Rattle.qp_model.specs.declared.systems.ObjectDef.{ObjectDef}
use Rattle.qp_model.specs.declared.systems.System.{System}
use Rattle.qp_model.specs.Sites.{object_at}
use Rattle.qp_system_tables.specs.declared.raw.RawObject.{RawObject}
use Rattle.qp_system_tables.specs.declared.raw.RawSystem.{RawSystem}
use Rattle.qp_system.specs.Between.{timer_count_of as count_of}
use Rattle.qp_system_tables.specs.Document.{TreeGives}
use Rattle.qp_system_tables.specs.Few.{IsFewChart, IsFew}
use Rattle.qp_model.specs.SoundChart.{IsSoundChart}
use Rattle.qp_model.specs.Sound.{IsSoundPool, IsSoundSignal, IsSoundObject, IsSoundTimer, IsSound}
use Rattle.qp_system.specs.SystemOf.{chart_names, initial_value, IsObjectOf, IsSystemOf}
use Rattle.qp_model.specs.Sound.{timer_of, timers_of}
use Rattle.qp_system.specs.Within.{outer_names}
use Rattle.qp_system.proofs.BehindLemmas.{IsPlaced}
use Rattle.qp_system_tables.proofs.FewLemmas.{raw-is_few, IsInRange, raw-is_in_range}
use Rattle.qp_system.proofs.NamedLemmas.{number-names}
use Rattle.qp_system.proofs.PassedLemmas.{IsPassed, passed-from}
use Rattle.qp_system_tables.proofs.RangeLemmas.{PoolInRange, SignalInRange, TimerInRange, ObjectInRange}
use Rattle.qp_system.proofs.SoundChartLemmas.{chart-sound}
use Rattle.qp_system.proofs.TimerLemmas.{every-map, every-flat_map, Fits, timers-fit, IsOwned, each-owned}
use Rattle.qp_system.proofs.PairLemmas.{Corresponds-every, Corresponds-partner}
use Rattle.qp_model.proofs.NumberLemmas.{every}
use Rattle.qp_model.proofs.ListLemmas.{every-two, every-at}

pub read-few : (bytes : List ℕ) (raw : RawSystem) → TreeGives bytes (Ok raw) → IsFew raw
unfolding TreeGives
read-few bytes raw h = raw-is_few h.0 raw h.3

pub read-in_range : (bytes : List ℕ) (raw : RawSystem) → TreeGives bytes (Ok raw) → IsInRange raw
unfolding TreeGives
read-in_range bytes raw h = raw-is_in_range h.0 raw h.3

pool-sound : (p : PoolDef) → PoolInRange p → IsSoundPool p
pool-sound p h = record { size = h.0.1; some_blocks = h.1.0; few_blocks = h.1.1 }

-- an object with its numbers in their ranges, which has a chart
abbrev IsGood : List RawChart → RawObject → Type 0
IsGood charts o = IsPlaced charts o × ObjectInRange o

module _ (names : Names) (raws : List RawChart) (charts : List Chart) (made : Corresponds (IsChartOf names) raws charts) where
  -- the chart of an object, in the file and checked
  record Charts (o : RawObject) (d : ObjectDef) : Type 0 where
    raw : RawChart
    is_raw : slice_get raws (d.chart - 1) ≡ Some raw
    named : count_of raws o ≡ length raw.timer
    chart : Chart
    is_chart : slice_get charts (d.chart - 1) ≡ Some chart
    its : IsChartOf names raw chart

  charts-of : (o : RawObject) (d : ObjectDef) → IsObjectOf raws o d → Charts o d
  charts-of o d r =
      let n = number-names 1 raws o.chart d.chart r.chart in
      let partner = Corresponds-partner (IsChartOf names) raws charts made (d.chart - 1) n.0 n.1 in
      record {
        raw = n.0;
        is_raw = n.1;
        named = ap (λ c. option_map_or (λ (c : RawChart). length c.timer) c 0) n.2;
        chart = partner.0;
        is_chart = partner.1;
        its = partner.2;
      }

  object-sound : (o : RawObject) (d : ObjectDef) → IsObjectOf raws o d → IsGood raws o → IsSoundObject charts d
  object-sound o d r h =
      let c = charts-of o d r in
      let least = number_in-above 1 (chart_names raws) o.chart d.chart r.chart in
      let most = number_in-below 1 (chart_names raws) o.chart d.chart r.chart in
      let count = Corresponds-length (IsChartOf names) raws charts made in
      let low : o.priority ≤ o.threshold = grind (arith, nat_tests, h.0.threshold) in
      let values : map (initial_value o.vars) c.raw.vars ≡ d.vars = same_Some _ _ (rw c.is_raw at r.vars) in
      record {
        some_priority = rw r.priority h.1.0.0;
        threshold = rw (r.priority, r.threshold) low;
        few_thresholds = rw r.threshold h.1.1.1;
        ring = rw r.ring h.1.2.1;
        defer = rw r.defer h.1.3.1;
        some_chart = least;
        few_charts = omega (arith, most, count, length-map raws (λ (c : RawChart). c.name));
        its = c.chart;
        is_its = c.is_chart;
        vars = sym (ap length values) ∙ length-map c.raw.vars (initial_value o.vars) ∙ sym (ap length c.its.vars);
      }

  -- how many time events an object has
  timers-count : (o : RawObject) (d : ObjectDef) → IsObjectOf raws o d → length (timers_of charts d) ≡ count_of raws o
  timers-count o d r =
      let c = charts-of o d r in
      ap (λ its. length (option_map_or (λ chart. map (timer_of d) chart.timer) its [])) c.is_chart
      ∙ length-map c.chart.timer (timer_of d)
      ∙ sym (Corresponds-length (IsTimerOf names) c.raw.timer c.chart.timer c.its.timer)
      ∙ sym c.named

  sum-same : (os : List RawObject) (ds : List ObjectDef) → Corresponds (IsObjectOf raws) os ds
      → sum_by (λ d. length (timers_of charts d)) ds ≡ sum_by (count_of raws) os
  unfolding Corresponds
  sum-same [] [] pairs = refl
  sum-same [] (d ∷ ds) pairs = absurd pairs
  sum-same (o ∷ os) [] pairs = absurd pairs
  sum-same (o ∷ os) (d ∷ ds) pairs =
      let left = sum_by-cons (λ (e : ObjectDef). length (timers_of charts e)) d ds in
      let right = sum_by-cons (count_of raws) o os in
      let head = timers-count o d pairs.0 in
      let rest = sum-same os ds pairs.1 in
      omega (arith, left, right, head, rest)

  pub timers-limited : (os order : List RawObject) (ds : List ObjectDef) → IsPermutation os order → Corresponds (IsObjectOf raws) order ds
      → sum_by (count_of raws) os ≤ 64 → length (flat_map (timers_of charts) ds) ≤ 64
  timers-limited os order ds moved pairs few =
      let count = length-flat_map (timers_of charts) ds in
      let same = sum-same order ds pairs in
      let before = sum_by-IsPermutation (count_of raws) os order moved in
      omega (arith, count, same, before, few)

-- the time events of an object
timer-sound : (sys : System) (d : ObjectDef) → IsOwned sys.objects d.priority → (t : _) → Fits sys.signals t → IsSoundTimer sys (timer_of d t)
unfolding object_at
timer-sound sys d owned t fits = record { owner = owned.0; is_owner = owned.1; from_four = fits.from_four; signal = fits.signal; is_signal = fits.is_signal; static = fits.static; rate = fits.rate }

timers-sound : (sys : System) → AllByRecursion (λ c. AllByRecursion (Fits sys.signals) c.timer) sys.charts → (d : ObjectDef) → IsSoundObject sys.charts d → IsOwned sys.objects d.priority
    → AllByRecursion (IsSoundTimer sys) (timers_of sys.charts d)
timers-sound sys fits d sound owned =
    rw sound.is_its
    (every-map (IsSoundTimer sys) (timer_of d) sound.its.timer
    (every (Fits sys.signals) (λ t. IsSoundTimer sys (timer_of d t)) (timer-sound sys d owned) sound.its.timer
    (every-at (λ c. AllByRecursion (Fits sys.signals) c.timer) sys.charts fits (d.chart - 1) sound.its sound.is_its)))

module _ (bytes : List ℕ) (sys : System) (h : IsSystemOf bytes sys) where
  abbrev raw : RawSystem
  raw = h.raw

  abbrev names : Names
  names = outer_names h.raw.signals h.raw.objects

  few : IsFew h.raw
  few = read-few bytes h.raw h.read

  range : IsInRange h.raw
  range = read-in_range bytes h.raw h.read

  passed : IsPassed h.raw
  passed = passed-from h.raw h.passed

  signals : AllByRecursion (IsSoundSignal h.raw.pools) h.raw.signals
  signals =
      let bare = every-two SignalInRange (λ s. s.fixed ≡ true → s.params ≡ 0) (λ s. SignalInRange s × (s.fixed ≡ true → s.params ≡ 0)) (λ s p q. (p, q)) h.raw.signals
      (recursion_from_All SignalInRange h.raw.signals range.signals) passed.bare in
      every-two (λ s. SignalInRange s × (s.fixed ≡ true → s.params ≡ 0)) (λ s. s.fixed ≡ false → list_any (λ p. nat_le s.params p.size) h.raw.pools ≡ true) (IsSoundSignal h.raw.pools)
      (λ s p q. record { params = p.0.1; bare = p.1; pooled = q }) h.raw.signals bare passed.pooled

  objects : AllByRecursion (IsSoundObject sys.charts) sys.objects
  objects =
      let good = every-two (IsPlaced h.raw.charts) ObjectInRange (IsGood h.raw.charts) (λ o p q. (p, q)) h.raw.objects
      passed.placed (recursion_from_All ObjectInRange h.raw.objects range.objects) in
      let ordered = recursion_from_All (IsGood h.raw.charts) h.objects.order
      (All-permutation (IsGood h.raw.charts) h.raw.objects h.objects.order h.objects.same (All-from_recursion (IsGood h.raw.charts) h.raw.objects good)) in
      Corresponds-every (IsObjectOf h.raw.charts) (IsGood h.raw.charts) (IsSoundObject sys.charts) (object-sound names h.raw.charts sys.charts h.charts) h.objects.order sys.objects h.objects.each ordered

  fits : AllByRecursion (λ c. AllByRecursion (Fits sys.signals) c.timer) sys.charts
  fits =
      let both = every-two (λ c. chart_fault names c ≡ None) (λ c. All TimerInRange c.timer) (λ c. (chart_fault names c ≡ None) × All TimerInRange c.timer) (λ c p q. (p, q)) h.raw.charts
      passed.charts (recursion_from_All (λ c. All TimerInRange c.timer) h.raw.charts range.timers) in
      let all = Corresponds-every (IsChartOf names) (λ c. (chart_fault names c ≡ None) × All TimerInRange c.timer) (λ c. AllByRecursion (Fits h.raw.signals) c.timer)
      (timers-fit h.raw.signals h.raw.objects) h.raw.charts sys.charts h.charts both in
      subst (λ s. AllByRecursion (λ c. AllByRecursion (Fits s) c.timer) sys.charts) (sym h.signals) all

  timers : AllByRecursion (IsSoundTimer sys) (flat_map (timers_of sys.charts) sys.objects)
  timers =
      every-flat_map (IsSoundTimer sys) (timers_of sys.charts) sys.objects
      (every-two (IsSoundObject sys.charts) (λ d. IsOwned sys.objects d.priority) (λ d. AllByRecursion (IsSoundTimer sys) (timers_of sys.charts d)) (timers-sound sys fits) sys.objects objects (each-owned sys.objects))

  charts : AllByRecursion IsLegal sys.charts
  charts =
      Corresponds-every (IsChartOf names) (λ c. chart_fault names c ≡ None) IsLegal (λ c chart made none. IsLegal-from names c chart none made) h.raw.charts sys.charts h.charts passed.charts

  sound_charts : AllByRecursion (IsSoundChart sys) sys.charts
  sound_charts =
      Corresponds-every (IsChartOf names) IsFewChart (IsSoundChart sys) (chart-sound sys h.raw h.signals h.objects) h.raw.charts sys.charts h.charts (recursion_from_All IsFewChart h.raw.charts few.each)

  counted : length h.raw.charts ≡ length sys.charts
  counted = Corresponds-length (IsChartOf names) h.raw.charts sys.charts h.charts

  held : length h.raw.objects ≡ length sys.objects
  held = sym (length_permutation h.raw.objects h.objects.order h.objects.same) ∙ Corresponds-length (IsObjectOf h.raw.charts) h.objects.order sys.objects h.objects.each

  -- the system of a file is sound
  pub system-is_sound : IsSound sys
  system-is_sound =
      record {
        few_pools = rw h.pools few.pools;
        few_signals = rw h.signals few.signals;
        some_charts = rw (sym counted) range.some_charts;
        few_charts = rw (sym counted) few.charts;
        some_objects = rw (sym held) range.some_objects;
        few_objects = rw (sym held) few.objects;
        few_timers = rw h.timers (timers-limited names h.raw.charts sys.charts h.charts h.raw.objects h.objects.order sys.objects h.objects.same h.objects.each passed.timers);
        pools = rw h.pools (every PoolInRange IsSoundPool pool-sound h.raw.pools (recursion_from_All PoolInRange h.raw.pools range.pools));
        sizes = rw h.pools passed.sizes;
        signals = rw (h.pools, h.signals) signals;
        params = rw h.signals (every (IsSoundSignal h.raw.pools) (λ s. s.params ≤ 8) (λ s k. k.params) h.raw.signals signals);
        charts = sound_charts;
        legal = charts;
        ascend = h.objects.ascend;
        priorities = every (IsSoundObject sys.charts) (λ d. d.priority ≤ 32) (λ d k. omega (arith, k.threshold, k.few_thresholds)) sys.objects objects;
        objects = objects;
        timers = subst (AllByRecursion (IsSoundTimer sys)) (sym h.timers) timers;
        numbered = h.timers;
      }
