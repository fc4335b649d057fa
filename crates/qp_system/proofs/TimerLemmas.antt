-- The time events of a system that was read.
use Rattle.std.proofs.Common.{◌≡◌, ℕ, ◌-◌, ◌≤◌, ◌==◌, Bool, true, false, List, [], ◌∷◌, map, Some, None, refl, sym, ap, arith}
use Rattle.std.specs.declared.option.Option.{Option}
use Rattle.std.specs.Option.{option_map, option_and_then, unwrap_or}
use Rattle.std.specs.List.{All, AllByRecursion, find, flat_map, slice_get}
use Rattle.std.proofs.lemmas.Bool.{not-false}
use Rattle.std.proofs.lemmas.List.Elements.{recursion_from_All}
use Rattle.std.proofs.lemmas.Option.{slice_get-map}
use Rattle.std.proofs.lemmas.Bool.Decides.{nat_tests}
use Rattle.qp_chart_names.specs.declared.raw.RawTimer.{RawTimer}
use Rattle.qp_chart_names.specs.declared.raw.RawChart.{RawChart}
use Rattle.qp_chart_names.specs.declared.raw.Names.{Names}
use Rattle.qp_chart_names.specs.declared.raw.SigName.{SigName}
use Rattle.qp_chart.specs.declared.checked.Timer.{Timer}
use Rattle.qp_chart.specs.declared.checked.Chart.{Chart}
use Rattle.qp_chart_names.specs.ActionFaults.{is_static_name}
use Rattle.qp_chart.specs.ChartFaults.{chart_fault, parts_fault, frame_fault, timer_fault}
use Rattle.qp_chart.specs.ChartOf.{IsTimerOf, IsChartOf}
use Rattle.qp_chart.proofs.ChartTree.{none-both}
use Rattle.qp_chart_names.specs.RawNumbers.{signal_named, signal_names}
use Rattle.qp_chart_names.proofs.NumberingLemmas.{number_in-above}
use Rattle.qp_model.specs.declared.systems.SignalDef.{SignalDef}
use Rattle.qp_model.specs.declared.systems.ObjectDef.{ObjectDef}
use Rattle.qp_system_tables.specs.declared.raw.RawObject.{RawObject}
use Rattle.qp_system.specs.Within.{signal_name, outer_names}
use Rattle.qp_system.proofs.BehindLemmas.{fault_if-None, each-in}
use Rattle.qp_system_tables.proofs.RangeLemmas.{TimerInRange}
use Rattle.qp_system.proofs.PairLemmas.{Corresponds-every}
use Rattle.qp_model.proofs.NumberLemmas.{every-append}
use Rattle.qp_model.proofs.ListLemmas.{every-two}

pub every-map : {A B : Type 0} (P : B → Type 0) (f : A → B) (xs : List A) → AllByRecursion (λ x. P (f x)) xs → AllByRecursion P (map f xs)
every-map P f [] h = tt
every-map P f (x ∷ xs) h = (h.0, every-map P f xs h.1)

pub every-flat_map : {A B : Type 0} (P : B → Type 0) (f : A → List B) (xs : List A) → AllByRecursion (λ x. AllByRecursion P (f x)) xs → AllByRecursion P (flat_map f xs)
every-flat_map P f [] h = tt
every-flat_map P f (x ∷ xs) h = every-append P (f x) (flat_map f xs) h.0 (every-flat_map P f xs h.1)

-- the time event posts a static signal, and counts a rate that there is
pub record Fits (signals : List SignalDef) (t : Timer) : Type 0 where
  pub from_four : 4 ≤ t.signal
  pub signal : SignalDef
  pub is_signal : slice_get signals (t.signal - 4) ≡ Some signal
  pub static : signal.fixed ≡ true
  pub rate : t.rate ≤ 3

module _ (signals : List SignalDef) (objects : List RawObject) where
  abbrev names : Names
  names = outer_names signals objects

  -- a static signal by its number
  static-at : (name : List ℕ) (n : ℕ) → is_static_name names name ≡ true → option_and_then (λ m. slice_get (map signal_name signals) (m - 4)) (Some n) ≡ signal_named names name
      → (s : SignalDef) × (slice_get signals (n - 4) ≡ Some s) × (s.fixed ≡ true)
  static-at name n static is = by (slice_get signals (n - 4)) refl
    where
      found : unwrap_or (option_map (λ (s : SigName). s.fixed) (option_map signal_name (slice_get signals (n - 4)))) false ≡ true
      found = rw (sym (slice_get-map signal_name signals (n - 4)), is) static

      by : (o : Option SignalDef) → slice_get signals (n - 4) ≡ o → (s : SignalDef) × (slice_get signals (n - 4) ≡ Some s) × (s.fixed ≡ true)
      by None at = let no = rw at at found in cc
      by (Some s) at = let yes = rw at at found in (s, at, yes)

  timer-fits : (raw : RawTimer) (t : Timer) → IsTimerOf names raw t → (is_static_name names raw.signal ≡ true) × TimerInRange raw → Fits signals t
  unfolding signal_named
  timer-fits raw t made h =
      let at = static-at raw.signal t.signal h.0 (ap (option_and_then (λ m. slice_get (map signal_name signals) (m - 4))) (sym made.signal)) in
      record {
        from_four = number_in-above 4 (signal_names names.signals) raw.signal t.signal made.signal;
        signal = at.0;
        is_signal = at.1;
        static = at.2;
        rate = rw made.rate h.1.1;
      }

  static-timer : (k : ℕ) (t : RawTimer) → timer_fault names k t ≡ None → is_static_name names t.signal ≡ true
  unfolding timer_fault
  static-timer k t h = not-false _ (fault_if-None _ _ _ (none-both _ _ (none-both _ _ h).1).0)

  -- the time events of a chart without a fault
  pub timers-fit : (raw : RawChart) (chart : Chart) → IsChartOf names raw chart → (chart_fault names raw ≡ None) × All TimerInRange raw.timer → AllByRecursion (Fits signals) chart.timer
  unfolding chart_fault parts_fault frame_fault
  timers-fit raw chart made h =
      let parts = (none-both _ _ (none-both _ _ h.0).1).0 in
      let frame = none-both _ _ parts in
      let timers = none-both _ _ frame.0 in
      let static = each-in (timer_fault names) (λ t. is_static_name names t.signal ≡ true) static-timer 1 raw.timer timers.0 in
      let both = every-two (λ t. is_static_name names t.signal ≡ true) TimerInRange (λ t. (is_static_name names t.signal ≡ true) × TimerInRange t)
      (λ t p q. (p, q)) raw.timer static (recursion_from_All TimerInRange raw.timer h.1) in
      Corresponds-every (IsTimerOf names) (λ t. (is_static_name names t.signal ≡ true) × TimerInRange t) (Fits signals) timer-fits raw.timer chart.timer made.timer both

-- an object of this priority is found
abbrev pub IsOwned : List ObjectDef → ℕ → Type 0
IsOwned objects p = (e : ObjectDef) × (find (λ d. d.priority == p) objects ≡ Some e)

owned-more : (x : ObjectDef) (xs : List ObjectDef) (d : ObjectDef) → IsOwned xs d.priority → IsOwned (x ∷ xs) d.priority
owned-more x xs d h = by (x.priority == d.priority) refl
  where
    by : (b : Bool) → (x.priority == d.priority) ≡ b → IsOwned (x ∷ xs) d.priority
    by true test = (x, rw test refl)
    by false test = (h.0, rw test h.1)

-- each object owns what has its priority
pub each-owned : (objects : List ObjectDef) → AllByRecursion (λ d. IsOwned objects d.priority) objects
each-owned [] = tt
each-owned (x ∷ xs) =
    let here : (x.priority == x.priority) ≡ true = grind (arith, nat_tests) in
    ((x, rw here refl), more xs (each-owned xs))
  where
    more : (ds : List ObjectDef) → AllByRecursion (λ d. IsOwned xs d.priority) ds → AllByRecursion (λ d. IsOwned (x ∷ xs) d.priority) ds
    more [] h = tt
    more (d ∷ ds) h = (owned-more x xs d h.0, more ds h.1)
