-- What a sound system says of its objects.
use Rattle.std.proofs.Common.{◌≡◌, ℕ, ◌-◌, ◌<◌, ◌==◌, true, false, List, [], ◌∷◌, ◌++◌, append_assoc, refl, sym, ◌∙◌, Some, arith}
use Rattle.std.specs.Prelude.{IsTrue}
use Rattle.std.specs.List.{AllByRecursion, find}
use Rattle.std.proofs.lemmas.Bool.Decides.{nat_tests}
use Rattle.qp_chart.specs.declared.checked.Chart.{Chart}
use Rattle.qp_model.specs.declared.systems.System.{System}
use Rattle.qp_model.specs.declared.systems.ObjectDef.{ObjectDef}
use Rattle.qp_model.specs.Sound.{IsSound, IsSoundObject}
use Rattle.qp_model.specs.Laws.{Ascend}
use Rattle.qp_model.specs.Sites.{object_at}
use Rattle.qp_model.specs.Course.{chart_at}
use Rattle.qp_model.specs.WordLaw.{is_object}
use Rattle.qp_model.proofs.NumberLemmas.{number-owned}
use Rattle.qp_model.proofs.ObjectLemmas.{found-passes}
use Rattle.qp_model.proofs.ListLemmas.{every-at}
use Rattle.qp_dispatch.specs.SoundFor.{IsObjectWithTimers}
use Rattle.qp_dispatch.specs.Resume.{CanTakeSteps}
use Rattle.qp_dispatch.proofs.SoundAble.{sound-able, sound-ready}
use Rattle.qp_kernel.specs.Turning.{AreAble, AreNumbered}
use Rattle.qp_kernel_turns.specs.Knowing.{IsObjectWithChart}

pub found-self : (front : List ObjectDef) (d : ObjectDef) (ds : List ObjectDef) → AllByRecursion (λ x. x.priority < d.priority) front → find (λ x. x.priority == d.priority) (front ++ d ∷ ds) ≡ Some d
found-self [] d ds all = let self : (d.priority == d.priority) ≡ true = grind (arith, nat_tests) in rw self refl
found-self (x ∷ xs) d ds all = let lt = all.0 in let other : (x.priority == d.priority) ≡ false = grind (arith, nat_tests) in rw other (found-self xs d ds all.1)

module _ (sys : System) (sound : IsSound sys) where
  pub sound-object : (o : ℕ) (d : ObjectDef) → object_at sys o ≡ Some d → IsSoundObject sys.charts d
  unfolding object_at
  sound-object o d h = found-passes (IsSoundObject sys.charts) o sys.objects d sound.objects h

  pub numbered : AreNumbered sys
  numbered d found = let is = sound-object d.priority d found in omega (arith, is.some_priority)

  pub able : AreAble sys
  able d chart found its = sound-able sys sound chart (every-at _ sys.charts sound.charts (d.chart - 1) chart its)

  pub is-object : (d : ObjectDef) → object_at sys d.priority ≡ Some d → IsTrue (is_object sys d.priority)
  unfolding is_object
  is-object d found = rw found refl

  pub home : (d : ObjectDef) (chart : Chart) → object_at sys d.priority ≡ Some d → chart_at sys d.chart ≡ Some chart → IsObjectWithTimers sys d.priority chart
  home d chart found its = record {
    sound = sound;
    some = numbered d found;
    object = is-object d found;
    timers = λ place some few.
        let n = number-owned sys sound d.priority place d chart found its some few in
        record { some = n.some; few = let most = sound.few_timers in omega (arith, n.few, most); timer = n.timer; there = n.there; owner = n.owner };
  }

  pub ready : (d : ObjectDef) (chart : Chart) → object_at sys d.priority ≡ Some d → chart_at sys d.chart ≡ Some chart → CanTakeSteps sys d.priority chart
  ready d chart found its = sound-ready sys d.priority chart (d.chart - 1) (home d chart found its) its

  -- each object is the one of its priority, with its chart
  named-one : (front : List ObjectDef) (d : ObjectDef) (ds : List ObjectDef) → front ++ d ∷ ds ≡ sys.objects → AllByRecursion (λ x. x.priority < d.priority) front → IsSoundObject sys.charts d → IsObjectWithChart sys d.priority
  unfolding object_at
  named-one front d ds is below o = record {
    object = d;
    chart = o.its;
    is = refl;
    found = rw (sym is) (found-self front d ds below);
    its = o.is_its;
  }

  named-from : (front ds : List ObjectDef) → front ++ ds ≡ sys.objects → AllByRecursion (λ d. AllByRecursion (λ x. x.priority < d.priority) front) ds → AllByRecursion (IsSoundObject sys.charts) ds → Ascend ds
      → AllByRecursion (λ d. IsObjectWithChart sys d.priority) ds
  named-from front [] is below objects ascend = tt
  named-from front (d ∷ ds) is below objects ascend = (
    named-one front d ds is below.0 objects.0,
    named-from (front ++ d ∷ []) ds (append_assoc front (d ∷ []) ds ∙ is) (more ds below.1 ascend.1) objects.1 ascend.2,
  )
    where
      snoc : (x : ObjectDef) (fs : List ObjectDef) → AllByRecursion (λ y. y.priority < x.priority) fs → d.priority < x.priority → AllByRecursion (λ y. y.priority < x.priority) (fs ++ d ∷ [])
      snoc x [] all lt = (lt, tt)
      snoc x (f ∷ fs) all lt = (all.0, snoc x fs all.1 lt)

      more : (xs : List ObjectDef) → AllByRecursion (λ x. AllByRecursion (λ y. y.priority < x.priority) front) xs → AllByRecursion (λ x. d.priority < x.priority) xs
          → AllByRecursion (λ x. AllByRecursion (λ y. y.priority < x.priority) (front ++ d ∷ [])) xs
      more [] all lt = tt
      more (x ∷ xs) all lt = (snoc x front all.0 lt.0, more xs all.1 lt.1)

  none-before : (ds : List ObjectDef) → AllByRecursion (λ (d : ObjectDef). AllByRecursion (λ (x : ObjectDef). x.priority < d.priority) []) ds
  none-before [] = tt
  none-before (d ∷ ds) = (tt, none-before ds)

  pub named : AllByRecursion (λ d. IsObjectWithChart sys d.priority) sys.objects
  named = named-from [] sys.objects refl (none-before sys.objects) sound.objects sound.ascend
