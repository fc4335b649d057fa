-- The bytes of a file are one system.
use Rattle.std.proofs.Common.{◌≡◌, ℕ, ◌<◌, List, [], ◌∷◌, sym, ◌∙◌, ap, subst, arith}
use Rattle.std.specs.List.{AllByRecursion, flat_map}
use Rattle.std.proofs.lemmas.List.Sorted.{Contains-permutation, IsPermutation-sym}
use Rattle.std.proofs.lemmas.Option.{same_Some}
use Rattle.qp_chart_names.specs.declared.raw.RawChart.{RawChart}
use Rattle.qp_chart_names.specs.Pairs.{Corresponds}
use Rattle.qp_chart.specs.ChartOf.{IsChartOf}
use Rattle.qp_model.specs.declared.systems.ObjectDef.{ObjectDef}
use Rattle.qp_model.specs.Laws.{Ascend}
use Rattle.qp_model.specs.Sound.{timers_of}
use Rattle.qp_system_tables.specs.declared.raw.RawObject.{RawObject}
use Rattle.qp_system.specs.SystemLaw.{SystemsAreOne}
use Rattle.qp_system.specs.SystemOf.{first_values, IsObjectOf, AreObjectsOf}
use Rattle.qp_system.specs.Within.{outer_names}
use Rattle.qp_system.proofs.LawLemmas.{raws-one}
use Rattle.qp_system.proofs.OnceLemmas.{Rising, rising-one}
use Rattle.qp_system.proofs.OneChart.{chart-one, corresponds-one}

module _ (charts : List RawChart) where
  object-one : (raw : RawObject) (d e : ObjectDef) → IsObjectOf charts raw d → IsObjectOf charts raw e → d ≡ e
  object-one raw d e h k =
      let chart : d.chart ≡ e.chart = same_Some d.chart e.chart (sym h.chart ∙ k.chart) in
      λ i. record {
        name = (h.name ∙ sym k.name) i;
        chart = chart i;
        priority = (h.priority ∙ sym k.priority) i;
        threshold = (h.threshold ∙ sym k.threshold) i;
        ring = (h.ring ∙ sym k.ring) i;
        defer = (h.defer ∙ sym k.defer) i;
        vars = same_Some d.vars e.vars (sym h.vars ∙ ap (λ n. first_values charts n raw.vars) chart ∙ k.vars) i;
      }

  -- the tables of ascending objects ascend
  above : (low : ℕ) (os : List RawObject) (ds : List ObjectDef) → Corresponds (IsObjectOf charts) os ds → AllByRecursion (λ x. low < x.priority) ds
      → AllByRecursion (λ o. low < o.priority) os
  unfolding Corresponds
  above low [] ds pairs h = tt
  above low (o ∷ os) [] pairs h = absurd pairs
  above low (o ∷ os) (d ∷ ds) pairs h =
      let same = pairs.0.priority in
      let here = h.0 in
      (omega (arith, same, here), above low os ds pairs.1 h.1)

  rising : (os : List RawObject) (ds : List ObjectDef) → Corresponds (IsObjectOf charts) os ds → Ascend ds → Rising (λ o. o.priority) os
  unfolding Corresponds
  rising [] ds pairs h = tt
  rising (o ∷ os) [] pairs h = absurd pairs
  rising (o ∷ os) (d ∷ ds) pairs h = (subst (λ low. AllByRecursion (λ x. low < x.priority) os) pairs.0.priority (above d.priority os ds pairs.1 h.1), rising os ds pairs.1 h.2)

  -- the objects of a file are those of its tables in one order
  objects-one : (raws : List RawObject) (ds es : List ObjectDef) → AreObjectsOf charts raws ds → AreObjectsOf charts raws es → ds ≡ es
  objects-one raws ds es h k =
      let order : h.order ≡ k.order =
      rising-one (λ o. o.priority) h.order k.order (rising h.order ds h.each h.ascend) (rising k.order es k.each k.ascend)
      (λ z c. Contains-permutation raws k.order z k.same (Contains-permutation h.order raws z (IsPermutation-sym _ _ h.same) c))
      (λ z c. Contains-permutation raws h.order z h.same (Contains-permutation k.order raws z (IsPermutation-sym _ _ k.same) c)) in
      corresponds-one (IsObjectOf charts) object-one k.order ds es (subst (λ os. Corresponds (IsObjectOf charts) os ds) order h.each) k.each

pub systems_are_one : SystemsAreOne
systems_are_one bytes a b h k =
    let raws : h.raw ≡ k.raw = raws-one bytes h.raw k.raw h.read k.read in
    let names = outer_names k.raw.signals k.raw.objects in
    let charts : a.charts ≡ b.charts =
    corresponds-one (IsChartOf names) (chart-one names) k.raw.charts a.charts b.charts
    (subst (λ r. Corresponds (IsChartOf (outer_names r.signals r.objects)) r.charts a.charts) raws h.charts) k.charts in
    let objects : a.objects ≡ b.objects =
    objects-one k.raw.charts k.raw.objects a.objects b.objects (subst (λ r. AreObjectsOf r.charts r.objects a.objects) raws h.objects) k.objects in
    λ i. record {
      pools = (h.pools ∙ ap (λ r. r.pools) raws ∙ sym k.pools) i;
      signals = (h.signals ∙ ap (λ r. r.signals) raws ∙ sym k.signals) i;
      charts = charts i;
      objects = objects i;
      timers = (h.timers ∙ (λ j. flat_map (timers_of (charts j)) (objects j)) ∙ sym k.timers) i;
    }
