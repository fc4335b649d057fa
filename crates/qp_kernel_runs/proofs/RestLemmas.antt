-- What objects show that rest is what their courses leave.
use Rattle.std.proofs.Common.{◌≡◌, ℕ, Bool, true, false, cond, List, [], ◌∷◌, refl, sym, ◌∙◌, ap, subst, Some, None}
use Rattle.std.specs.Prelude.{slice_get}
use Rattle.std.specs.List.{AllByRecursion}
use Rattle.qp_chart.specs.StateTree.{has}
use Rattle.qp_model.specs.declared.journals.Journal.{Journal}
use Rattle.qp_model.specs.declared.record.Rec.{Rec}
use Rattle.qp_model.specs.declared.stimulus.Stim.{Stim}
use Rattle.qp_model.specs.declared.systems.System.{System}
use Rattle.qp_model.specs.declared.systems.ObjectDef.{ObjectDef}
use Rattle.qp_model.specs.History.{lane_items}
use Rattle.qp_model.specs.Home.{by_object, home_of, lane_at}
use Rattle.qp_model.specs.Knowing.{records_of}
use Rattle.qp_model.specs.Lawful.{facts_of}
use Rattle.qp_model.specs.Sites.{object_at}
use Rattle.qp_model.specs.Sound.{IsSound}
use Rattle.qp_model.specs.Told.{Told}
use Rattle.qp_model.proofs.KnowingLemmas.{records_of-told}
use Rattle.qp_calls.specs.LaneView.{LaneView}
use Rattle.qp_dispatch.specs.Lasts.{config_of}
use Rattle.qp_dispatch.specs.declared.objects.Turn.{Turn}
use Rattle.qp_dispatch.specs.declared.objects.Turn.TheVariants as turn
use Rattle.qp_kernel.specs.Turning.{Terms, kernel_in}
use Rattle.qp_kernel.specs.ZeroEnds.{own_told}
use Rattle.qp_kernel.proofs.ZeroLawful.{IsFound, all-found}
use Rattle.qp_kernel.proofs.DeferredLemmas.{no-port}
use Rattle.qp_kernel_end.specs.declared.rest.Rest.{Rest}
use Rattle.qp_kernel_end.specs.Rests.{AreRests, AreRestsIn, IsRestOf}
use Rattle.qp_kernel_turns.specs.declared.objects.Slot.{Slot}
use Rattle.qp_kernel_turns.specs.AtRest.{OthersRest, StopsAtRest}
use Rattle.qp_kernel_turns.specs.Objects.{leaf_there, vars_there}
use Rattle.qp_kernel_turns.specs.Turning.{Idled, Stand, TurnsTo}
use Rattle.qp_kernel_turns.proofs.Resting.{rests-still}
use Rattle.qp_kernel_runs.specs.Left.{IsLeft}
use Rattle.qp_kernel_runs.specs.Resting.{ObjectsShow, IsShown, RestsAfter}
use Rattle.qp_kernel_runs.proofs.LeftLemmas.{zero-told}
use Rattle.qp_model.proofs.AbleLemmas.{some-same}

leaf-shown : (slot : Slot) (n : ℕ) → leaf_there (Some (Some slot)) ≡ Some n → n ≡ slot.object.lasting.leaf
leaf-shown slot n h = by slot.object.started h
  where
    by : (b : Bool) → cond b (Some slot.object.lasting.leaf) None ≡ Some n → n ≡ slot.object.lasting.leaf
    by true h = sym (some-same h)
    by false h = absurd (cc)

module _ (sys : System) (sound : IsSound sys) (s : Stand) (rest : OthersRest sys s) where
  shown-rest : (d : ObjectDef) → object_at sys d.priority ≡ Some d → (x : Rest) → IsShown s.objects s.stack x → IsRestOf sys d (own_told d.priority s.lane.told) x
  unfolding IsRestOf
  shown-rest d found x is same chart its =
      let free : has s.stack d.priority ≡ false = ap (has s.stack) (sym same) ∙ is.free in
      let r = rest d chart found its free in
      let there : slice_get s.objects.slots.items x.priority ≡ Some (Some r.slot) = ap (slice_get s.objects.slots.items) same ∙ r.there in (
        config_of r.slot.object.lasting,
        r.leaves,
        record {
          leaf = leaf-shown r.slot x.leaf (sym (ap leaf_there there) ∙ is.leaf);
          vars = is.vars ∙ ap vars_there there;
        },
      )

  all-shown : (d : ObjectDef) → object_at sys d.priority ≡ Some d → (xs : List Rest) → ObjectsShow s.objects s.stack xs → AllByRecursion (IsRestOf sys d (own_told d.priority s.lane.told)) xs
  all-shown d found [] h = tt
  all-shown d found (x ∷ xs) h = (shown-rest d found x h.0, all-shown d found xs h.1)

  pub shown-rests : (xs : List Rest) → ObjectsShow s.objects s.stack xs → AreRests sys (λ o. own_told o s.lane.told) xs
  unfolding object_at
  shown-rests xs shown = go sys.objects (all-found sys.objects sound.ascend)
    where
      go : (ds : List ObjectDef) → AllByRecursion (IsFound sys.objects) ds → AllByRecursion (λ d. AllByRecursion (IsRestOf sys d (own_told d.priority s.lane.told)) xs) ds
      go [] h = tt
      go (d ∷ ds) h = (all-shown d h.0.0 xs shown, go ds h.1)

-- a turn that came to its end left all objects at rest
idled-rest : (sys : System) (sound : IsSound sys) (terms : Terms) (a b : Stand) → Idled sys terms a b → OthersRest sys b
idled-rest sys sound terms a b idled = rests-still sys sound terms b.looks b.stack b.objects b.lane idled.knows.knows [] idled.knows.at.stack b.looks b.lane refl

pub rests-after : (sys : System) (sound : IsSound sys) (terms : Terms) (a b : Stand) (t : Turn) (xs : List Rest) → TurnsTo sys terms a b t → StopsAtRest sys b t → ObjectsShow b.objects b.stack xs → RestsAfter sys b.lane.told t xs
rests-after sys sound terms a b turn.Idle xs goes stops shown = shown-rests sys sound b (idled-rest sys sound terms a b goes) xs shown
rests-after sys sound terms a b turn.Stopped xs goes stops shown = shown-rests sys sound b stops xs shown
rests-after sys sound terms a b turn.Memory xs goes stops shown = tt

pub no-rests : (sys : System) (records : ℕ → List Told) → AreRests sys records []
no-rests sys records = go sys.objects
  where
    go : (ds : List ObjectDef) → AllByRecursion (λ d. AllByRecursion (IsRestOf sys d (records d.priority)) []) ds
    go [] = tt
    go (d ∷ ds) = (tt, go ds)

-- the same of the journal
pub rests-in : (sys : System) (stimuli : List (List Stim)) (lanes : List (List Rec)) (v : LaneView) (left : IsLeft sys stimuli lanes v) (j : Journal) (at : j.lanes ≡ lanes) (terms : Terms) → j.kernel ≡ kernel_in terms
    → (xs : List Rest) → AreRests sys (λ o. own_told o v.told) xs → AreRestsIn sys j xs
unfolding by_object home_of facts_of
rests-in sys stimuli lanes v left j at terms kernel xs rests = go sys.objects rests
  where
    home : (o : ℕ) → home_of sys j o ≡ 0
    home o = let other = no-port terms j.kernel kernel in rw other refl

    own : (o : ℕ) → by_object (facts_of sys j) j o ≡ own_told o v.told
    own o =
        ap (λ n. records_of (facts_of sys j) o 0 (lane_items (lane_at j n))) (home o) ∙ records_of-told (facts_of sys j) o 0 (lane_items (lane_at j 0))
        ∙ ap (own_told o) (zero-told sys stimuli lanes v left j at)

    go : (ds : List ObjectDef) → AllByRecursion (λ d. AllByRecursion (IsRestOf sys d (own_told d.priority v.told)) xs) ds
        → AllByRecursion (λ d. AllByRecursion (IsRestOf sys d (by_object (facts_of sys j) j d.priority)) xs) ds
    go [] h = tt
    go (d ∷ ds) h = (subst (λ ts. AllByRecursion (IsRestOf sys d ts) xs) (sym (own d.priority)) h.0, go ds h.1)
