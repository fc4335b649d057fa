-- From the tables of a file to its system.
use Rattle.std.proofs.Common.{◌≡◌, ℕ, ◌+◌, ◌<◌, false, ℤ, ◌-◌, List, [], ◌∷◌, ◌++◌, length, map, take, get_or, ◌⊎◌, inl, inr, Some, None, refl, sym, ◌∙◌, ap, arith}
use Rattle.std.specs.Prelude.{IsSome}
use Rattle.std.specs.declared.option.Option.{Option}
use Rattle.std.specs.Option.{is_none, option_map, option_map_or}
use Rattle.std.specs.List.{All, AllByRecursion, flat_map, slice_get}
use Rattle.std.specs.List.Sorted.{IsPermutation, IsNonDecreasingBy}
use Rattle.std.proofs.lemmas.List.{append-nil, length-map, take_more}
use Rattle.std.proofs.lemmas.Grind.{flat_map-append}
use Rattle.std.proofs.lemmas.Option.{slice_get_read}
use Rattle.std.proofs.lemmas.List.Elements.{recursion_from_All, All-from_recursion}
use Rattle.std.proofs.lemmas.List.Sorted.{All-permutation}
use Rattle.qp_chart.specs.declared.checked.Chart.{Chart}
use Rattle.qp_chart_names.specs.declared.raw.RawChart.{RawChart}
use Rattle.qp_chart_names.specs.Pairs.{Corresponds}
use Rattle.qp_chart_names.proofs.NumberingLemmas.{number_in-above, number_in-below}
use Rattle.qp_model.specs.declared.systems.ObjectDef.{ObjectDef}
use Rattle.qp_model.specs.declared.systems.TimerDef.{TimerDef}
use Rattle.qp_system_tables.specs.declared.fault.SystemFault.{SystemFault}
use Rattle.qp_system_tables.specs.declared.fault.SystemFault.TheVariants.{Memory, NotToml, At}
use Rattle.qp_system_tables.specs.declared.raw.RawObject.{RawObject}
use Rattle.qp_system_tables.specs.declared.raw.RawSystem.{RawSystem}
use Rattle.qp_system.specs.Checked.{HasLater, IsChecked}
use Rattle.qp_system_tables.specs.Document.{RefusesBytes}
use Rattle.qp_system.specs.Placed.{chart_place, NamesChart, HasChartAmong}
use Rattle.qp_system.specs.SystemOf.{chart_names, initial_value, first_values, IsObjectOf, AreObjectsOf, HasFault, RefusesSystem}
use Rattle.qp_model.specs.Sound.{timer_of, timers_of}
use Rattle.qp_system.proofs.BehindLemmas.{IsPlaced}
use Rattle.qp_system_tables.proofs.FewLemmas.{IsInRange}
use Rattle.qp_system.proofs.NamedLemmas.{number-none, number-position}
use Rattle.qp_system.proofs.OrderLemmas.{Ascend-sorted}
use Rattle.qp_system.proofs.PassedLemmas.{IsPassed, passed-from}
use Rattle.qp_system_tables.proofs.RangeLemmas.{ObjectInRange}
use Rattle.qp_system.proofs.SoundLemmas.{read-in_range}
use Rattle.qp_system.proofs.PairLemmas.{Corresponds-each}
use Rattle.qp_model.proofs.NumberLemmas.{every}

-- a refusal of the tables, or of the whole, is one of the system
pub refuses-system : (bytes : List ℕ) (e : SystemFault) → RefusesBytes e bytes ⊎ HasLater bytes e → RefusesSystem bytes e
unfolding HasLater HasFault
refuses-system bytes Memory h = tt
refuses-system bytes NotToml (inl h) = h
refuses-system bytes NotToml (inr h) = absurd h.2
refuses-system bytes (At code path) (inl h) = inl h
refuses-system bytes (At code path) (inr h) = inr h

none-map : {A B : Type 0} (f : A → B) (o : Option A) → is_none (option_map f o) ≡ is_none o
none-map f None = refl
none-map f (Some x) = refl

is-some : {A : Type 0} (o : Option A) → is_none o ≡ false → IsSome o
is-some None h = cc
is-some (Some x) h = refl

placed-has_chart : (charts : List RawChart) (o : RawObject) → IsPlaced charts o → NamesChart charts o
placed-has_chart charts o h =
    is-some (chart_place charts o.chart)
    (sym (none-map (λ i. 1 + i) (chart_place charts o.chart)) ∙ ap is_none (sym (number-position 1 charts o.chart)) ∙ number-none 1 charts o.chart ∙ h.chart)

-- the charts of objects that were moved are declared
pub all-have_charts : (charts : List RawChart) (raws order : List RawObject) → AllByRecursion (IsPlaced charts) raws → IsPermutation raws order → All (NamesChart charts) order
all-have_charts charts raws order h moved =
    All-permutation (NamesChart charts) raws order moved
    (All-from_recursion (NamesChart charts) raws (every (IsPlaced charts) (NamesChart charts) (placed-has_chart charts) raws h))

-- the numbers of the charts of objects are inside
pub all-within : (raws : List RawChart) (charts : List Chart) (order : List RawObject) (objects : List ObjectDef) → length raws ≡ length charts → Corresponds (IsObjectOf raws) order objects → All (HasChartAmong charts) objects
all-within raws charts order objects count pairs =
    All-from_recursion (HasChartAmong charts) objects (Corresponds-each (IsObjectOf raws) (HasChartAmong charts) step order objects pairs)
  where
    step : (o : RawObject) (d : ObjectDef) → IsObjectOf raws o d → HasChartAmong charts d
    step o d made =
        let low = number_in-above 1 (chart_names raws) o.chart d.chart made.chart in
        let high = number_in-below 1 (chart_names raws) o.chart d.chart made.chart in
        (low, omega (arith, high, count, length-map raws (λ (c : RawChart). c.name)))

-- objects that were sorted and made are those of the file
pub objects-of : (bytes : List ℕ) (raw : RawSystem) (charts : List Chart) (order : List RawObject) (objects : List ObjectDef) → IsChecked bytes raw charts
    → IsPermutation raw.objects order → IsNonDecreasingBy (λ o. o.priority) order → Corresponds (IsObjectOf raw.charts) order objects → AreObjectsOf raw.charts raw.objects objects
objects-of bytes raw charts order objects checked moved up pairs =
    let range : IsInRange raw = read-in_range bytes raw checked.read in
    let passed : IsPassed raw = passed-from raw checked.passed in
    let some : AllByRecursion (λ o. 0 < o.priority) raw.objects =
    every ObjectInRange (λ o. 0 < o.priority) (λ o h. omega (arith, h.0.0)) raw.objects (recursion_from_All ObjectInRange raw.objects range.objects) in
    record {
      order = order;
      same = moved;
      each = pairs;
      ascend = Ascend-sorted (IsObjectOf raw.charts) (λ o d made. made.priority) raw.objects order objects moved up passed.distinct some pairs;
    }

-- an object made of its table and its chart
pub object-of : (charts : List RawChart) (raw : RawObject) (place : ℕ) (chart : RawChart) (values : List ℤ) → chart_place charts raw.chart ≡ Some place → place < length charts
    → chart ≡ get_or charts place chart → values ≡ map (initial_value raw.vars) chart.vars
    → IsObjectOf charts raw (record { name = raw.name; chart = place + 1; priority = raw.priority; threshold = raw.threshold; ring = raw.queue; defer = raw.defer; vars = values })
object-of charts raw place chart values found inside is valued =
    let number : 1 + place ≡ place + 1 = omega arith in
    let back : (place + 1) - 1 ≡ place = omega arith in
    let at = slice_get_read charts (length charts) place chart refl inside is in
    record {
      name = refl;
      chart = number-position 1 charts raw.chart ∙ ap (option_map (λ i. 1 + i)) found ∙ ap (λ n. Some n) number;
      priority = refl;
      threshold = refl;
      ring = refl;
      defer = refl;
      vars = ap (λ i. first_values charts (i + 1) raw.vars) refl ∙ rw (back, at) (ap (λ v. Some v) (sym valued));
    }

-- the time events of one object more
pub timers-more : (charts : List Chart) (objects : List ObjectDef) (i : ℕ) (object : ObjectDef) (chart : Chart) (items new : List TimerDef) → i < length objects → object ≡ get_or objects i object
    → HasChartAmong charts object → chart ≡ get_or charts (object.chart - 1) chart → items ≡ flat_map (timers_of charts) (take i objects) → new ≡ items ++ map (timer_of object) chart.timer
    → new ≡ flat_map (timers_of charts) (take (i + 1) objects)
timers-more charts objects i object chart items new inside is within its so_far added =
    let front : take (i + 1) objects ≡ take i objects ++ object ∷ [] = take_more objects i object inside ∙ ap (λ z. take i objects ++ z ∷ []) (sym is) in
    let at : slice_get charts (object.chart - 1) ≡ Some chart = slice_get_read charts (length charts) (object.chart - 1) chart refl (omega (arith, within.0, within.1)) its in
    let own : timers_of charts object ≡ map (timer_of object) chart.timer = ap (λ c. option_map_or (λ (chart : Chart). map (timer_of object) chart.timer) c []) at in
    added ∙ ap (λ l. l ++ map (timer_of object) chart.timer) so_far ∙ ap (λ l. flat_map (timers_of charts) (take i objects) ++ l) (sym own ∙ sym (append-nil (timers_of charts object)))
    ∙ sym (flat_map-append (timers_of charts) (take i objects) (object ∷ [])) ∙ ap (flat_map (timers_of charts)) (sym front)
