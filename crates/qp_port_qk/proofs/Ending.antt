-- What runs in a lane may end there, where the run stops early.
use Rattle.std.proofs.Common.{◌≡◌, ◌++◌, ℕ, Bool, false, [], length, refl, sym, ◌∙◌, ap, subst, ◌⊎◌, inl, inr, arith}
use Rattle.qp_model.specs.declared.systems.System.{System}
use Rattle.qp_model.specs.KernelLane.{is_over}
use Rattle.qp_model.specs.Kernels.{qk}
use Rattle.qp_model.specs.Sound.{IsSound}
use Rattle.qp_calls.specs.LaneView.{LaneView}
use Rattle.qp_dispatch.specs.declared.objects.Turn.{Turn}
use Rattle.qp_dispatch.specs.declared.objects.Turn.TheVariants as turn
use Rattle.qp_dispatch.specs.declared.steps.Step.{Step}
use Rattle.qp_dispatch.specs.declared.steps.Step.TheVariants as step
use Rattle.qp_kernel.specs.declared.kernel.Kernel.{Kernel}
use Rattle.qp_kernel.specs.Turning.{under_qk}
use Rattle.qp_kernel_turns.specs.declared.objects.Objects.{Objects}
use Rattle.qp_kernel_turns.specs.Knowing.{KnowsAt}
use Rattle.qp_model_order.specs.SourceRun.{untold_all}
use Rattle.qp_kernel.specs.Starts.{AreStarts, IsStartAlone}
use Rattle.qp_kernel_turns.specs.Lanes.{KeepsLane, LaneStarts, SameLane}
use Rattle.qp_kernel_turns.specs.Starting.{AllStarted, HasBegun, StartStopped}
use Rattle.qp_kernel_turns.specs.Turning.{stand_of}
use Rattle.qp_kernel_turns.specs.TurnRows.{idle_rows}
use Rattle.qp_kernel_turns.proofs.BaseRows.{idle-is}
use Rattle.qp_port_qk.specs.RestLaws.{HasTurned, IsAtBase}
use Rattle.qp_port_qk.proofs.Turned.{turned_kernels_end}
use Rattle.qp_port_lanes.proofs.Standing.{may-stop}
use Rattle.qp_port_qk.specs.declared.job.QkJob.{QkJob}
use Rattle.qp_port_qk.specs.declared.job.QkJob.TheVariants as job
use Rattle.qp_port_qk.specs.Jobs.{QkJobEnds, JobMayEnd, QkJobRests, QkJobStands, JobStarts, QkJobStops}
use Rattle.qp_port_qk.specs.KernelRests.{KernelBegins, KernelEnds, KernelRests}
use Rattle.qp_port_qk.specs.Workers.{QkMayEnd, QkMayTurn}

pub has-turned : (sys : System) (budget : ℕ) (sound : IsSound sys) (xs : Objects) (k : Kernel) (v : LaneView) (h : KernelRests sys budget xs k v) → HasTurned sys budget h.first h.start (stand_of k xs v)
has-turned sys budget sound xs k v h = record { sound = sound; made = h.made; none = h.none; follows = h.follows; rests = h.rests }

pub kernel-ends : (sys : System) (budget : ℕ) (sound : IsSound sys) (xs : Objects) (k : Kernel) (v : LaneView) → KernelRests sys budget xs k v → KernelEnds sys budget v
kernel-ends sys budget sound xs k v h end early = turned_kernels_end sys budget h.first h.start (stand_of k xs v) end (has-turned sys budget sound xs k v h) (inr early)

rests-end : (sys : System) (budget : ℕ) (sound : IsSound sys) (x : QkJob) (v : LaneView) → QkJobRests sys budget x v → JobMayEnd sys budget x v
rests-end sys budget sound (job.Kernel xs k) v h = kernel-ends sys budget sound xs k v h
rests-end sys budget sound (job.Source x) v h = λ kernel end may early. may-stop sys x v kernel end h may early

stops-end : (sys : System) (budget : ℕ) (x : QkJob) (v : LaneView) → QkJobStops sys budget x v → JobMayEnd sys budget x v
stops-end sys budget (job.Kernel xs k) v h = h.ends
stops-end sys budget (job.Source x) v h = h

pub turns-end : (acts : Bool) (sys : System) (budget : ℕ) (t : Turn) (x : QkJob) (v : LaneView) → QkMayTurn acts sys budget t x v → QkMayEnd sys budget t x v
turns-end acts sys budget t x v h = record { sound = h.sound; ends = by t h.stands; fed = h.fed }
  where
    by : (t : Turn) → QkJobStands sys budget t x v → QkJobEnds sys budget t x v
    by turn.Idle k = rests-end sys budget h.sound x v k
    by turn.Stopped k = (stops-end sys budget x v k.0, k.1)
    by turn.Memory k = k

-- one that may take turns, or has ended
pub either-end : (acts : Bool) (sys : System) (budget : ℕ) (t : Turn) (x : QkJob) (v : LaneView) → QkMayTurn acts sys budget t x v ⊎ QkMayEnd sys budget t x v → QkMayEnd sys budget t x v
either-end acts sys budget t x v (inl h) = turns-end acts sys budget t x v h
either-end acts sys budget t x v (inr h) = h

pub starts-end : (sys : System) (budget : ℕ) (sound : IsSound sys) (t : Turn) (x : QkJob) (v : LaneView) → JobStarts sys budget t x v → QkJobEnds sys budget t x v
starts-end sys budget sound turn.Idle x v h = rests-end sys budget sound x v h
starts-end sys budget sound turn.Stopped x v h = h
starts-end sys budget sound turn.Memory x v h = h

-- Starts.

begun-based : (sys : System) (budget : ℕ) (xs : Objects) (v : LaneView) → KnowsAt (HasBegun sys []) sys (under_qk budget) 0 [] xs v → KnowsAt (IsAtBase sys) sys (under_qk budget) 0 [] xs v
begun-based sys budget xs v k = record {
  knows = k.knows;
  at = record {
    stack = record {
      started = k.at.unstarted;
      named = rw k.at.base tt;
      descends = rw k.at.base tt;
      rests = λ d found none. k.at.rests d found refl;
      waits = λ o is. absurd (cc);
    };
    owed = k.at.owed;
    base = k.at.base;
    whole = ap (is_over qk) k.at.place;
  };
}

pub kernel-started : (sys : System) (budget : ℕ) (xs ys : Objects) (k : Kernel) (v w : LaneView) → KernelBegins sys xs k v → SameLane v w → AllStarted sys xs ys v w → KernelRests sys budget ys k w
kernel-started sys budget xs ys k v w h same all = record {
  first = xs;
  start = v;
  made = h.made;
  none = h.fresh.new.hands;
  follows = all.grows.hands;
  rests = subst (λ n. KnowsAt (IsAtBase sys) sys (under_qk budget) n k.stack.items ys w) (sym h.looks) (subst (λ l. KnowsAt (IsAtBase sys) sys (under_qk budget) 0 l ys w) (sym h.stack) (begun-based sys budget ys w (all.base (under_qk budget))));
  no_stim = all.no_stim;
  counted = let a = h.steps in omega (arith, a);
  plan = same.plan ∙ h.plan;
}

pub started-none : (sys : System) (budget : ℕ) (xs ys : Objects) (v w : LaneView) → AllStarted sys xs ys v w → idle_rows sys (under_qk budget) w ≡ 0
started-none sys budget xs ys v w all = let b = all.base (under_qk budget) in idle-is sys (under_qk budget) w b.knows.state b.knows.stands b.knows.told b.knows.now ∙ b.at.idle

keeps-same : (v w : LaneView) → KeepsLane false v w → SameLane v w
keeps-same v w k = record { sys = k.same.sys; lane = k.same.lane; world = k.same.world; plan = k.same.plan; happened = k.still refl; serves = k.same.serves; advances = k.same.advances }

pub starts-same : (v w : LaneView) (s : Step) → LaneStarts v w s → SameLane v w
starts-same v w step.Point h = absurd h
starts-same v w step.Done h = keeps-same v w h.keeps
starts-same v w step.Stopped h = keeps-same v w h.keeps
starts-same v w step.Memory h = keeps-same v w h.keeps

pub stopped-ends : (sys : System) (budget : ℕ) (v w : LaneView) → StartStopped sys v w → KernelEnds sys budget w
stopped-ends sys budget v w h end early = (h.turn (under_qk budget)).zero end early

pub stopped-none : (sys : System) (budget : ℕ) (v w : LaneView) → StartStopped sys v w → idle_rows sys (under_qk budget) w ≡ 0
stopped-none sys budget v w h = let few = h.none (under_qk budget) refl in omega (arith, few)

-- Nothing but starts stands in the lane.

pub kernel-alone : (sys : System) (xs ys : Objects) (k : Kernel) (v w : LaneView) → KernelBegins sys xs k v → AllStarted sys xs ys v w → AreStarts (length sys.objects) (untold_all w.told)
kernel-alone sys xs ys k v w h all = subst (λ ts. AreStarts (length sys.objects) (untold_all ts)) (sym (all.grows.gains.told ∙ ap (λ ts. ts ++ all.grows.ts) h.fresh.new.told)) all.grows.are

pub stopped-alone : (sys : System) (xs : Objects) (k : Kernel) (v w : LaneView) → KernelBegins sys xs k v → StartStopped sys v w → IsStartAlone (length sys.objects) (untold_all w.told)
stopped-alone sys xs k v w h s =
    subst (λ ts. IsStartAlone (length sys.objects) (untold_all ts)) (sym (ap (λ u. u.told) s.grows.stops ∙ s.grows.gains.told ∙ ap (λ ts. ts ++ s.grows.ts) h.fresh.new.told))
    (s.alone (length sys.objects) s.left)
