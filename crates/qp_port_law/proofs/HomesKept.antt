-- The deferred entries of objects that rest, each in its lane.
use Rattle.std.proofs.Common.{◌≡◌, ℕ, ◌+◌, ◌<◌, not, List, [], ◌∷◌, ◌++◌, length, refl, sym, ◌∙◌, ap, subst, Some, append_assoc}
use Rattle.std.specs.List.{AllByRecursion}
use Rattle.std.proofs.lemmas.Bool.{not-false}
use Rattle.qp_model.specs.declared.systems.System.{System}
use Rattle.qp_model.specs.declared.systems.ObjectDef.{ObjectDef}
use Rattle.qp_model.specs.declared.journals.Journal.{Journal}
use Rattle.qp_model.specs.History.{lane_items}
use Rattle.qp_model.specs.Home.{lane_at, by_object}
use Rattle.qp_model.specs.Knowing.{told_lane, records_of}
use Rattle.qp_model.specs.Kernels.{port}
use Rattle.qp_model.specs.Laws.{Ascend}
use Rattle.qp_model.specs.Sound.{IsSoundObject}
use Rattle.qp_model.specs.Ends.{is_turn_mark}
use Rattle.qp_model.specs.Deferral.{kept_after}
use Rattle.qp_model.specs.Acts.{Config}
use Rattle.qp_model.specs.Lawful.{facts_of, dispatched}
use Rattle.qp_model.proofs.DeferralLemmas.{kept-filter}
use Rattle.qp_model.proofs.HomeLemmas.{AreBelow, below-next}
use Rattle.qp_model.proofs.KnowingLemmas.{records_of-told}
use Rattle.qp_kernel.specs.Stages as stage
use Rattle.qp_kernel.specs.ZeroEnds.{own_told}
use Rattle.qp_kernel.proofs.DeferredLemmas.{kept-all, resting-kept}
use Rattle.qp_kernel.proofs.ZeroLawful.{mark-other}
use Rattle.qp_port_law.specs.HomesRest.{HomesRest, RestsWith}
use Rattle.qp_port_law.specs.Laws.{HomesKeepDeferred}
use Rattle.qp_port_law.proofs.HomePlaces.{home-at, next-count}
use Rattle.qp_model.proofs.MeaningLemmas.{none_below}

module _ (sys : System) (j : Journal) (keeps : ℕ → Config) (is_port : j.kernel ≡ port) where
  -- one object, with its lane
  home-kept : (front : List ObjectDef) (d : ObjectDef) (ds : List ObjectDef) → front ++ d ∷ ds ≡ sys.objects → AllByRecursion (λ x. x.priority < d.priority) front
      → IsSoundObject sys.charts d → RestsWith sys d (keeps d.priority) (told_lane (facts_of sys j) 0 (lane_items (lane_at j (length front + 1))))
      → kept_after d.defer [] (by_object (facts_of sys j) j d.priority) ≡ Some (keeps d.priority).kept
  unfolding by_object facts_of
  home-kept front d ds at below its rests =
      let lane = lane_items (lane_at j (length front + 1)) in
      let own : by_object (facts_of sys j) j d.priority ≡ own_told d.priority (told_lane (facts_of sys j) 0 lane) =
      ap (λ n. records_of (facts_of sys j) d.priority 0 (lane_items (lane_at j n))) (home-at sys j is_port front d ds at below) ∙ records_of-told (facts_of sys j) d.priority 0 lane in
      sym (kept-filter d.defer (λ t. not (is_turn_mark t.body)) (λ t h. mark-other t.body (not-false (is_turn_mark t.body) h)) [] (by_object (facts_of sys j) j d.priority))
      ∙ ap (λ g. kept_after d.defer [] (dispatched g)) own
      ∙ ap (kept_after d.defer []) (sym rests.bare_is)
      ∙ resting-kept sys d its.its rests.es rests.ps (stage.Resting (keeps d.priority)) (keeps d.priority) refl (rests.comes its.its its.is_its)

  homes-from : (front ds : List ObjectDef) (n : ℕ) → front ++ ds ≡ sys.objects → n ≡ length front + 1 → AreBelow front ds → Ascend ds → AllByRecursion (IsSoundObject sys.charts) ds
      → HomesRest sys j keeps n ds → AllByRecursion (λ d. kept_after d.defer [] (by_object (facts_of sys j) j d.priority) ≡ Some (keeps d.priority).kept) ds
  unfolding HomesRest
  homes-from front [] n at here below rise sound rest = tt
  homes-from front (d ∷ ds) n at here below rise sound rest = (
    home-kept front d ds at below.0 sound.0 (subst (λ k. RestsWith sys d (keeps d.priority) (told_lane (facts_of sys j) 0 (lane_items (lane_at j k)))) here rest.0),
    homes-from (front ++ d ∷ []) ds (n + 1) (append_assoc front (d ∷ []) ds ∙ at) (next-count front d n here) (below-next front d ds below.1 rise.1) rise.2 sound.1 rest.1,
  )

pub homes-kept : HomesKeepDeferred
homes-kept sys j keeps sound is_port rest =
    kept-all sys j keeps sys.objects (homes-from sys j keeps is_port [] sys.objects 1 refl refl (none_below sys.objects) sound.ascend sound.objects rest)
