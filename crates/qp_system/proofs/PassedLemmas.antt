-- What a file without a fault has.
use Rattle.std.proofs.Common.{◌≡◌, ℕ, ◌≤◌, ◌==◌, ◌&&◌, Bool, true, false, not, nat_le, List, Some, None, refl, sym, arith}
use Rattle.std.specs.declared.option.Option.{Option}
use Rattle.std.specs.Option.{option_map}
use Rattle.std.specs.List.{AllByRecursion, IsDistinct, list_any, sum_by}
use Rattle.std.proofs.lemmas.Bool.Decides.{nat_tests}
use Rattle.std.proofs.lemmas.Option.{none-some}
use Rattle.qp_chart_names.specs.declared.raw.RawChart.{RawChart}
use Rattle.qp_chart_names.specs.declared.raw.Names.{Names}
use Rattle.qp_chart_names.specs.Faults.{Fault}
use Rattle.qp_chart.specs.ChartFaults.{chart_fault}
use Rattle.qp_chart.proofs.ChartTree.{none-both}
use Rattle.qp_system_tables.specs.declared.raw.RawSystem.{RawSystem}
use Rattle.qp_system.specs.Between.{between_fault, timer_count_of}
use Rattle.qp_system.specs.Later.{later_of, later_fault}
use Rattle.qp_model.specs.Sound.{SizesAscend}
use Rattle.qp_system.specs.Within.{outer_names, in_chart, within_chart, charts_fault}
use Rattle.qp_system.proofs.BehindLemmas.{each-in, signals-bare, IsPlaced, each-placed, priorities-distinct, timers-few, sizes-ascend, signals-pooled}
use Rattle.qp_system.proofs.OrderLemmas.{priorities}
use Rattle.qp_model.proofs.NumberLemmas.{every}

-- tables that fit together, with charts that have no fault
pub record IsPassed (raw : RawSystem) : Type 0 where
  pub sizes : SizesAscend raw.pools
  pub bare : AllByRecursion (λ s. s.fixed ≡ true → s.params ≡ 0) raw.signals
  pub pooled : AllByRecursion (λ s. s.fixed ≡ false → list_any (λ p. nat_le s.params p.size) raw.pools ≡ true) raw.signals
  pub placed : AllByRecursion (IsPlaced raw.charts) raw.objects
  pub distinct : IsDistinct (λ m n. m == n) (priorities raw.objects)
  pub timers : sum_by (timer_count_of raw.charts) raw.objects ≤ 64
  pub charts : AllByRecursion (λ c. chart_fault (outer_names raw.signals raw.objects) c ≡ None) raw.charts

bare-test : (f : Bool) (n : ℕ) → (f && not (n == 0)) ≡ false → f ≡ true → n ≡ 0
bare-test true n h fixed = grind (arith, nat_tests, h)
bare-test false n h fixed = cc

chart-none : (k : ℕ) (o : Option Fault) → option_map (in_chart k) o ≡ None → o ≡ None
chart-none k None h = refl
chart-none k (Some f) h = absurd (none-some _ (sym h))

charts-none : (names : Names) (charts : List RawChart) → charts_fault names charts ≡ None → AllByRecursion (λ c. chart_fault names c ≡ None) charts
unfolding charts_fault within_chart
charts-none names charts h = each-in (within_chart names) (λ c. chart_fault names c ≡ None) (λ k c none. chart-none k (chart_fault names c) none) 1 charts h

pub passed-from : (raw : RawSystem) → later_fault raw ≡ None → IsPassed raw
unfolding later_of between_fault
passed-from raw h =
    let between = none-both _ _ h in
    let within = none-both _ _ between.1 in
    let pool = none-both _ _ within.1 in
    let sizes = none-both _ _ between.0 in
    let signals = none-both _ _ sizes.1 in
    let charts = none-both _ _ signals.1 in
    let objects = none-both _ _ charts.1 in
    let placing = none-both _ _ objects.1 in
    record {
      sizes = sizes-ascend raw.pools sizes.0;
      bare = every (λ s. (s.fixed && not (s.params == 0)) ≡ false) (λ s. s.fixed ≡ true → s.params ≡ 0) (λ s t. bare-test s.fixed s.params t) raw.signals
          (signals-bare raw.signals signals.0);
      pooled = signals-pooled raw.pools raw.signals pool.0;
      placed = each-placed raw.charts raw.objects placing.0;
      distinct = priorities-distinct raw.charts raw.objects placing.0;
      timers = timers-few raw.charts raw.objects placing.0;
      charts = charts-none (outer_names raw.signals raw.objects) raw.charts within.0;
    }
