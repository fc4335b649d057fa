-- What a world of `sim` leaves.
use Rattle.std.proofs.Common.{◌≡◌, List, sym, ◌∙◌, ap, subst, refl}
use Rattle.std.specs.List.{count_by}
use Rattle.qp_model.specs.declared.record.Rec.{Rec}
use Rattle.qp_model.specs.declared.stimulus.Stim.{Stim}
use Rattle.qp_model.specs.declared.systems.System.{System}
use Rattle.qp_model.specs.OneOrder.{Placed, enters, leaves}
use Rattle.qp_plain_sound.proofs.EntryCounts.{entered-counts, left-counts}
use Rattle.qp_kernel_runs.specs.declared.world.SimWorld.{SimWorld}
use Rattle.qp_kernel_runs.specs.SimView.{sim_view}
use Rattle.qp_kernel_runs.specs.SimEnded.{IsSimEnded}
use Rattle.qp_kernel_runs.specs.Left.{IsLeft}

left-by : (w : SimWorld) (lanes : List (List Rec)) → IsSimEnded w lanes → IsLeft (sim_view w).sys (sim_view w).plan lanes (sim_view w)
left-by w lanes ended = record {
  of = refl;
  plan = refl;
  order = ended.order;
  world = ended.world;
  count = ended.count;
  zero = ended.zero;
  sources = ended.sources;
  log = ended.log;
  shown = ended.shown;
  hands = ended.hands;
  entered = λ a h.
      ap (λ (xs : List Placed). count_by (λ x. enters a x.item) xs) (sym ended.log) ∙ entered-counts (sim_view w).sys lanes ended.order ended.world a h;
  left = λ a h.
      ap (λ (xs : List Placed). count_by (λ x. leaves a x.item) xs) (sym ended.log) ∙ left-counts (sim_view w).sys lanes ended.order ended.world a h;
  room = ended.room;
}

pub left-of : (w : SimWorld) (lanes : List (List Rec)) (sys : System) (stimuli : List (List Stim)) → (sim_view w).sys ≡ sys → (sim_view w).plan ≡ stimuli → IsSimEnded w lanes
    → IsLeft sys stimuli lanes (sim_view w)
left-of w lanes sys stimuli of plan ended =
    subst (λ s. IsLeft s stimuli lanes (sim_view w)) of (subst (λ p. IsLeft (sim_view w).sys p lanes (sim_view w)) plan (left-by w lanes ended))
