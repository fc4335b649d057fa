-- Where objects rest, by the lanes that were sealed.
use Rattle.std.proofs.Common.{◌≡◌, ℕ, ◌+◌, ◌<◌, ◌==◌, false, List, [], ◌∷◌, ◌++◌, length, refl, sym, ◌∙◌, ap, subst, arith, append_assoc}
use Rattle.std.specs.List.{AllByRecursion}
use Rattle.std.proofs.lemmas.List.{length-append}
use Rattle.qp_model.specs.declared.systems.System.{System}
use Rattle.qp_model.specs.declared.systems.ObjectDef.{ObjectDef}
use Rattle.qp_model.specs.declared.journals.Journal.{Journal}
use Rattle.qp_model.specs.History.{lane_items}
use Rattle.qp_model.specs.Home.{lane_at, home_of, by_object}
use Rattle.qp_model.specs.Kernels.{port}
use Rattle.qp_model.specs.Knowing.{records_of}
use Rattle.qp_model.specs.Laws.{Ascend}
use Rattle.qp_model.specs.Lawful.{facts_of}
use Rattle.qp_model.proofs.HomeLemmas.{AreBelow, below-next}
use Rattle.qp_model.proofs.KnowingLemmas.{records_of-told}
use Rattle.qp_calls.specs.LaneView.{LaneView}
use Rattle.qp_kernel.specs.ZeroEnds.{own_told}
use Rattle.qp_port_law.specs.Sealed.{SealsLanes}
use Rattle.qp_port_law.proofs.HomePlaces.{home-at}
use Rattle.qp_model.proofs.MeaningLemmas.{none_below}
use Rattle.qp_kernel_end.specs.declared.rest.Rest.{Rest}
use Rattle.qp_kernel_end.specs.Rests.{IsRestOf}
use Rattle.qp_port_law.specs.Rests.{AreTold}
use Rattle.qp_port_law.specs.SealedLaws.{PortRestsAreTold, QkRestsAreTold}
use Rattle.qp_port_law.proofs.LaneLemmas.{at-place, next-front}

module _ (sys : System) (budget : ℕ) (vs : List LaneView) (j : Journal) (rests : List Rest) (seals : SealsLanes sys port budget vs j) where
  -- the records of an object are those that its lane tells
  own-is : (before : List ObjectDef) (d : ObjectDef) (ds : List ObjectDef) (front : List LaneView) (v : LaneView) (back : List LaneView) → before ++ d ∷ ds ≡ sys.objects
      → AllByRecursion (λ x. x.priority < d.priority) before → vs ≡ front ++ v ∷ back → length front ≡ length before + 1 → by_object (facts_of sys j) j d.priority ≡ own_told d.priority v.told
  unfolding by_object facts_of
  own-is before d ds front v back at below is here =
      ap (λ n. records_of (facts_of sys j) d.priority 0 (lane_items (lane_at j n))) (home-at sys j seals.kernel_is before d ds at below ∙ sym here)
      ∙ records_of-told (facts_of sys j) d.priority 0 (lane_items (lane_at j (length front))) ∙ ap (own_told d.priority) (at-place sys port budget vs j seals front v back is)

  told-from : (before ds : List ObjectDef) (front homes back : List LaneView) → before ++ ds ≡ sys.objects → AreBelow before ds → Ascend ds → vs ≡ front ++ (homes ++ back)
      → length front ≡ length before + 1 → AreTold sys rests ds homes → AllByRecursion (λ d. AllByRecursion (IsRestOf sys d (by_object (facts_of sys j) j d.priority)) rests) ds
  told-from before [] front [] back at below rise is here h = tt
  told-from before (d ∷ ds) front (v ∷ homes) back at below rise is here h = (
    subst (λ ts. AllByRecursion (IsRestOf sys d ts) rests) (sym (own-is before d ds front v (homes ++ back) at below.0 is here)) h.0,
    told-from (before ++ d ∷ []) ds (front ++ v ∷ []) homes back (append_assoc before (d ∷ []) ds ∙ at) (below-next before d ds below.1 rise.1) rise.2
        (next-front sys port budget vs j seals front v (homes ++ back) is) next h.1,
  )
    where
      next : length (front ++ v ∷ []) ≡ length (before ++ d ∷ []) + 1
      next =
          let a : length (front ++ v ∷ []) ≡ length front + 1 = length-append front (v ∷ []) in
          let b : length (before ++ d ∷ []) ≡ length before + 1 = length-append before (d ∷ []) in
          omega (arith, a, b, here)
  told-from before [] front (v ∷ homes) back at below rise is here h = absurd h
  told-from before (d ∷ ds) front [] back at below rise is here h = absurd h

pub port-rests : PortRestsAreTold
port-rests sys budget first homes sources j rests sound seals told =
    told-from sys budget (first ∷ homes ++ sources) j rests seals [] sys.objects (first ∷ []) homes sources refl (none_below sys.objects) sound.ascend refl refl told

pub qk-rests : QkRestsAreTold
unfolding by_object home_of facts_of
qk-rests sys budget first sources j rests seals told = go sys.objects told
  where
    other : (j.kernel == port) ≡ false
    other = rw seals.kernel_is refl

    own : (o : ℕ) → by_object (facts_of sys j) j o ≡ own_told o first.told
    own o =
        let home : home_of sys j o ≡ 0 = rw other refl in
        ap (λ n. records_of (facts_of sys j) o 0 (lane_items (lane_at j n))) home ∙ records_of-told (facts_of sys j) o 0 (lane_items (lane_at j 0)) ∙ ap (own_told o) (seals.told 0 first refl)

    go : (ds : List ObjectDef) → AllByRecursion (λ d. AllByRecursion (IsRestOf sys d (own_told d.priority first.told)) rests) ds
        → AllByRecursion (λ d. AllByRecursion (IsRestOf sys d (by_object (facts_of sys j) j d.priority)) rests) ds
    go [] h = tt
    go (d ∷ ds) h = (subst (λ ts. AllByRecursion (IsRestOf sys d ts) rests) (sym (own d.priority)) h.0, go ds h.1)
