-- What an object takes from its chart, and its place among the others.
use Rattle.std.proofs.Common.{◌≡◌, ℕ, ℤ, ◌+◌, ◌<◌, ◌≤◌, ◌==◌, Bool, true, false, not, nat_lt, List, [], ◌∷◌, ◌++◌, length, take, get_or, Some, None, refl, sym, ◌∙◌, ap}
use Rattle.std.specs.declared.option.Option.{Option}
use Rattle.std.specs.Option.{option_map_or, is_none}
use Rattle.std.specs.List.{find, list_all, list_any, sum_by}
use Rattle.std.specs.Str.{bytes_eq}
use Rattle.std.proofs.lemmas.Bool.{lt-ltb, le-ltb}
use Rattle.std.proofs.lemmas.List.{take_more}
use Rattle.std.proofs.lemmas.List.Sums.{sum_by_push}
use Rattle.qp_chart_names.specs.declared.place.Part.TheVariants.{Key, Pos}
use Rattle.qp_chart_names.specs.Keys.{CHART, OBJECT, VARS, PRIORITY, THRESHOLD}
use Rattle.qp_chart_names.specs.Codes.{RANGE, DOUBLE, NO_SUCH_NAME, TOO_MANY}
use Rattle.qp_chart_names.specs.declared.raw.RawChart.{RawChart}
use Rattle.qp_chart_names.specs.Faults.{Fault}
use Rattle.qp_chart_names.proofs.FaultLemmas.{none-next, none-last}
use Rattle.qp_system_tables.specs.declared.fault.SystemFault.{SystemFault}
use Rattle.qp_system_tables.specs.declared.raw.RawObject.{RawObject}
use Rattle.qp_system.specs.Between.{chart_named, has_vars, timer_count_of, placing_fault}
use Rattle.qp_system.specs.Passes.{IsFirstFault}
use Rattle.qp_system_tables.specs.Refused.{fault_at}
use Rattle.qp_system.proofs.PassLemmas.{first-head, first-tail, fault_if-holds, fault_if-fails}

-- the variables of the object are all among those of the chart
abbrev pub all_known : RawChart → RawObject → Bool
all_known c o = list_all (λ (var : (List ℕ) × ℤ). list_any (λ (v : (List ℕ) × ℤ). bytes_eq v.0 var.0) c.vars) o.vars

module _ (charts : List RawChart) (earlier : List RawObject) (k : ℕ) (o : RawObject) where
  -- the object's first fault
  abbrev pub faulty : Option Fault
  faulty = placing_fault charts earlier k o

  -- its chart
  abbrev pub found : Option RawChart
  found = find (λ (c : RawChart). bytes_eq c.name o.chart) charts

  -- an object before it has its priority
  abbrev pub taken : Bool
  taken = list_any (λ (x : RawObject). x.priority == o.priority) earlier

  -- the object's chart isn't declared
  pub no_chart : (e : SystemFault) → found ≡ None → e ≡ fault_at NO_SUCH_NAME (Key OBJECT ∷ Pos k ∷ Key CHART ∷ []) → IsFirstFault faulty e
  unfolding placing_fault
  no_chart e none h = first-head _ _ _ (fault_if-holds _ _ _ e (ap is_none none) h)

  module _ (c : RawChart) (is : found ≡ Some c) where
    there : is_none (chart_named charts o.chart) ≡ false
    there = ap is_none is

    vars-is : not (option_map_or (λ d. has_vars d o) (chart_named charts o.chart) false) ≡ not (all_known c o)
    vars-is = ap (λ n. not (option_map_or (λ d. has_vars d o) n false)) is

    pub timers-is : timer_count_of charts o ≡ length c.timer
    timers-is = ap (λ n. option_map_or (λ (d : RawChart). length d.timer) n 0) is

    pub bad_vars : (e : SystemFault) → all_known c o ≡ false → e ≡ fault_at NO_SUCH_NAME (Key OBJECT ∷ Pos k ∷ Key VARS ∷ []) → IsFirstFault faulty e
    unfolding placing_fault
    bad_vars e fails h = first-tail _ _ _ (fault_if-fails _ _ _ there) (first-head _ _ _ (fault_if-holds _ _ _ e (vars-is ∙ ap not fails) h))

    pub bad_priority : (e : SystemFault) → all_known c o ≡ true → taken ≡ true → e ≡ fault_at DOUBLE (Key OBJECT ∷ Pos k ∷ Key PRIORITY ∷ []) → IsFirstFault faulty e
    unfolding placing_fault
    bad_priority e known twice h =
        first-tail _ _ _ (fault_if-fails _ _ _ there) (first-tail _ _ _ (fault_if-fails _ _ _ (vars-is ∙ ap not known))
        (first-head _ _ _ (fault_if-holds _ _ _ e (twice) h)))

    pub bad_threshold : (e : SystemFault) → all_known c o ≡ true → taken ≡ false → o.threshold < o.priority
        → e ≡ fault_at RANGE (Key OBJECT ∷ Pos k ∷ Key THRESHOLD ∷ []) → IsFirstFault faulty e
    unfolding placing_fault
    bad_threshold e known once low h =
        first-tail _ _ _ (fault_if-fails _ _ _ there) (first-tail _ _ _ (fault_if-fails _ _ _ (vars-is ∙ ap not known))
        (first-tail _ _ _ (fault_if-fails _ _ _ (once))
        (first-head _ _ _ (fault_if-holds _ _ _ e (lt-ltb o.threshold o.priority low) h))))

    module _ (timers : ℕ) (so_far : timers ≡ sum_by (timer_count_of charts) earlier) where
      sum-is : sum_by (timer_count_of charts) earlier + timer_count_of charts o ≡ timers + length c.timer
      sum-is = rw (timers-is, so_far) refl

      pub bad_count : (e : SystemFault) → all_known c o ≡ true → taken ≡ false → o.priority ≤ o.threshold → 64 < timers + length c.timer
          → e ≡ fault_at TOO_MANY (Key OBJECT ∷ Pos k ∷ []) → IsFirstFault faulty e
      unfolding placing_fault
      bad_count e known once high many h =
          first-tail _ _ _ (fault_if-fails _ _ _ there) (first-tail _ _ _ (fault_if-fails _ _ _ (vars-is ∙ ap not known))
          (first-tail _ _ _ (fault_if-fails _ _ _ (once))
          (first-tail _ _ _ (fault_if-fails _ _ _ (le-ltb o.threshold o.priority high))
          (first-head _ _ _ (fault_if-holds _ _ _ e (ap (nat_lt 64) sum-is ∙ lt-ltb 64 (timers + length c.timer) many) h)))))

      pub placed : all_known c o ≡ true → taken ≡ false → o.priority ≤ o.threshold → timers + length c.timer ≤ 64 → faulty ≡ None
      unfolding placing_fault
      placed known once high few =
          none-next _ _ (fault_if-fails _ _ _ there) (none-next _ _ (fault_if-fails _ _ _ (vars-is ∙ ap not known))
          (none-next _ _ (fault_if-fails _ _ _ (once))
          (none-next _ _ (fault_if-fails _ _ _ (le-ltb o.threshold o.priority high))
          (none-next _ _ (fault_if-fails _ _ _ (ap (nat_lt 64) sum-is ∙ le-ltb 64 (timers + length c.timer) few)) none-last))))

pub sum-more : {A : Type 0} (f : A → ℕ) (xs : List A) (i : ℕ) (x : A) (m : ℕ) → i < length xs → x ≡ get_or xs i x → m ≡ sum_by f (take i xs) → m + f x ≡ sum_by f (take (i + 1) xs)
sum-more f xs i x m inside is so_far =
    let front : take (i + 1) xs ≡ take i xs ++ x ∷ [] = take_more xs i x inside ∙ ap (λ z. take i xs ++ z ∷ []) (sym is) in
    rw (front, sum_by_push f (take i xs) x, so_far) refl
