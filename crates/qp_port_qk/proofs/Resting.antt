-- What objects show that rest is what their courses leave.
use Rattle.std.proofs.Common.{◌≡◌, ℕ, Bool, true, false, cond, List, [], ◌∷◌, refl, sym, ◌∙◌, ap, Some, None}
use Rattle.std.specs.Prelude.{slice_get}
use Rattle.std.specs.List.{AllByRecursion}
use Rattle.qp_chart.specs.StateTree.{has}
use Rattle.qp_model.specs.declared.systems.System.{System}
use Rattle.qp_model.specs.declared.systems.ObjectDef.{ObjectDef}
use Rattle.qp_model.specs.Sites.{object_at}
use Rattle.qp_model.specs.Sound.{IsSound}
use Rattle.qp_model.specs.Told.{Told}
use Rattle.qp_model.proofs.AbleLemmas.{some-same}
use Rattle.qp_calls.specs.LaneView.{LaneView}
use Rattle.qp_dispatch.specs.Lasts.{config_of}
use Rattle.qp_kernel.specs.declared.kernel.Kernel.{Kernel}
use Rattle.qp_kernel.specs.Turning.{under_qk}
use Rattle.qp_kernel.specs.ZeroEnds.{own_told}
use Rattle.qp_kernel.proofs.ZeroLawful.{IsFound, all-found}
use Rattle.qp_kernel_end.specs.declared.rest.Rest.{Rest}
use Rattle.qp_kernel_end.specs.Rests.{AreRests, IsRestOf}
use Rattle.qp_kernel_turns.specs.declared.objects.Objects.{Objects}
use Rattle.qp_kernel_turns.specs.declared.objects.Slot.{Slot}
use Rattle.qp_kernel_turns.specs.AtRest.{OthersRest}
use Rattle.qp_kernel_turns.specs.Objects.{leaf_there, vars_there}
use Rattle.qp_kernel_turns.specs.Turning.{Stand, stand_of}
use Rattle.qp_kernel_turns.proofs.Resting.{rests-still}
use Rattle.qp_port_qk.specs.KernelRests.{KernelRests}
use Rattle.qp_port_qk.specs.Resting.{KernelShows, KernelShowsOne}

leaf-shown : (slot : Slot) (n : ℕ) → leaf_there (Some (Some slot)) ≡ Some n → n ≡ slot.object.lasting.leaf
leaf-shown slot n h = by slot.object.started h
  where
    by : (b : Bool) → cond b (Some slot.object.lasting.leaf) None ≡ Some n → n ≡ slot.object.lasting.leaf
    by true h = sym (some-same h)
    by false h = absurd (cc)

module _ (sys : System) (sound : IsSound sys) (s : Stand) (rest : OthersRest sys s) where
  shown-rest : (d : ObjectDef) → object_at sys d.priority ≡ Some d → (x : Rest) → KernelShowsOne s.objects s.stack x → IsRestOf sys d (own_told d.priority s.lane.told) x
  unfolding IsRestOf
  shown-rest d found x is same chart its =
      let free : has s.stack d.priority ≡ false = ap (has s.stack) (sym same) ∙ is.free in
      let r = rest d chart found its free in
      let there : slice_get s.objects.slots.items x.priority ≡ Some (Some r.slot) = ap (slice_get s.objects.slots.items) same ∙ r.there in (
        config_of r.slot.object.lasting,
        r.leaves,
        record {
          leaf = leaf-shown r.slot x.leaf (sym (ap leaf_there there) ∙ is.leaf);
          vars = is.vars ∙ ap vars_there there;
        },
      )

  all-shown : (d : ObjectDef) → object_at sys d.priority ≡ Some d → (xs : List Rest) → KernelShows s.objects s.stack xs → AllByRecursion (IsRestOf sys d (own_told d.priority s.lane.told)) xs
  all-shown d found [] h = tt
  all-shown d found (x ∷ xs) h = (shown-rest d found x h.0, all-shown d found xs h.1)

  pub shown-rests : (xs : List Rest) → KernelShows s.objects s.stack xs → AreRests sys (λ o. own_told o s.lane.told) xs
  unfolding object_at
  shown-rests xs shown = go sys.objects (all-found sys.objects sound.ascend)
    where
      go : (ds : List ObjectDef) → AllByRecursion (IsFound sys.objects) ds → AllByRecursion (λ d. AllByRecursion (IsRestOf sys d (own_told d.priority s.lane.told)) xs) ds
      go [] h = tt
      go (d ∷ ds) h = (all-shown d h.0.0 xs shown, go ds h.1)

-- a kernel at the base left all objects at rest
pub based-rest : (sys : System) (budget : ℕ) (sound : IsSound sys) (xs : Objects) (k : Kernel) (v : LaneView) → KernelRests sys budget xs k v → OthersRest sys (stand_of k xs v)
based-rest sys budget sound xs k v h = rests-still sys sound (under_qk budget) k.looks k.stack.items xs v h.rests.knows [] h.rests.at.stack k.looks v refl

pub no-rests : (sys : System) (records : ℕ → List Told) → AreRests sys records []
no-rests sys records = go sys.objects
  where
    go : (ds : List ObjectDef) → AllByRecursion (λ d. AllByRecursion (IsRestOf sys d (records d.priority)) []) ds
    go [] = tt
    go (d ∷ ds) = (tt, go ds)
