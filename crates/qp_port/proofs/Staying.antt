-- What runs in a lane stands where it stood, where the lane has only seen more.
use Rattle.std.proofs.Common.{ℕ, refl, sym, ◌∙◌, subst}
use Rattle.qp_model.specs.declared.systems.System.{System}
use Rattle.qp_model.specs.OutputSummary.{CourseLeaves}
use Rattle.qp_model.specs.Sound.{IsSound}
use Rattle.qp_calls.specs.LaneView.{LaneView}
use Rattle.qp_dispatch.specs.Lasts.{config_of}
use Rattle.qp_dispatch.specs.declared.objects.Turn.{Turn}
use Rattle.qp_dispatch.specs.declared.objects.Turn.TheVariants as turn
use Rattle.qp_kernel.specs.ZeroEnds.{own_told}
use Rattle.qp_port_law.specs.Homes.{HomeEnds}
use Rattle.qp_port_law.specs.SourcesLeft.{SourceLeaves}
use Rattle.qp_port_lanes.proofs.Resting.{resting-same}
use Rattle.qp_port_lanes.specs.CursorAt.{mine}
use Rattle.qp_port_lanes.proofs.Feeding.{fed-seen}
use Rattle.qp_port_lanes.proofs.Hearing.{hears-seen, starved-seen, stopped-seen}
use Rattle.qp_port_lanes.proofs.Seeing.{SeenMore}
use Rattle.qp_port_lanes.proofs.Standing.{stay}
use Rattle.qp_port.specs.declared.job.Job.{Job}
use Rattle.qp_port.specs.declared.job.Job.TheVariants as job
use Rattle.qp_port.specs.Jobs.{IsSameJob, JobRests, JobStands, JobStops}
use Rattle.qp_port.specs.Workers.{IsSameWorker, MayTurn}

module _ (sys : System) (sound : IsSound sys) (budget : ℕ) (v w : LaneView) (more : SeenMore v w) where
  rests-stay : (x : Job) → JobRests sys budget x v → JobRests sys budget x w
  rests-stay job.Nothing h = record { told = more.sees.told ∙ h.told; hands = more.sees.hands ∙ h.hands }
  rests-stay (job.Home x) h = resting-same sys sound budget x v h w more.sees.sys more.sees.told more.same.serves (more.own h.d.priority) more.sees.hands more.sees.asked
  rests-stay (job.Source x) h = stay sys x v w h more.sees

  stops-stay : (x : Job) → JobStops sys budget x v → JobStops sys budget x w
  stops-stay job.Nothing h = record { told = more.sees.told ∙ h.told; hands = more.sees.hands ∙ h.hands }
  stops-stay (job.Home x) h = record {
    ends = λ d found end early. subst (HomeEnds sys d budget end) (sym more.sees.told) (h.ends d found end early);
    rests = λ d chart found is started calm.
        subst (λ ts. CourseLeaves sys d chart (own_told d.priority ts) (config_of x.object.lasting)) (sym more.sees.told) (h.rests d chart found is started calm);
  }
  stops-stay (job.Source x) h = λ kernel end may early. subst (SourceLeaves sys kernel end (mine x)) (sym more.sees.told) (h kernel end may early)

  pub stands-stay : (t : Turn) (x : Job) → JobStands sys budget t x v → JobStands sys budget t x w
  stands-stay turn.Idle x h = rests-stay x h
  stands-stay turn.Stopped x h = (stops-stay x h.0, stopped-seen v w more h.1)
  stands-stay turn.Memory x h = starved-seen v w more h

pub may-turn_still : (sys : System) (budget : ℕ) (t : Turn) (x : Job) (v w : LaneView) → SeenMore v w → MayTurn sys budget t x v → MayTurn sys budget t x w
may-turn_still sys budget t x v w more h = record {
  sound = h.sound;
  few = h.few;
  stands = stands-stay sys h.sound budget v w more t x h.stands;
  fed = λ long. fed-seen v w more (h.fed long);
}

pub same-job : (x : Job) → IsSameJob x x
same-job job.Nothing = tt
same-job (job.Home x) = refl
same-job (job.Source x) = refl

pub same-worker : (s : System) (b : ℕ) (x : Job) (v w : LaneView) → SeenMore v w → IsSameWorker s s b b x x v w
same-worker s b x v w more = record { sys = refl; budget = refl; job = same-job x; lane = more.same; hears = hears-seen v w more }
