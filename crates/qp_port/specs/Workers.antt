-- A worker: a lane with what runs in it.
use Rattle.std.proofs.Common.{◌∙◌}
use Rattle.std.specs.Prelude.{◌≡◌, ℕ, ◌≤◌, [], false, refl}
use Rattle.qp_port_phases.specs.Stopping.{Hears}
use Rattle.qp_port_lanes.specs.Answers.{IsFed, is_short}
use Rattle.qp_port_lanes.proofs.Hearing.{hears-itself, hears-then}
use Rattle.qp_model.specs.declared.systems.System.{System}
use Rattle.qp_model.specs.Sound.{IsSound}
use Rattle.qp_model.specs.Limits.{budget_limit}
use Rattle.qp_calls.specs.LaneView.{LaneView}
use Rattle.qp_calls.proofs.Advancing.{advances-none, advances-then}
use Rattle.qp_calls_log.specs.Meeting.{IsTogether}
use Rattle.qp_dispatch.specs.declared.objects.Turn.{Turn}
use Rattle.qp_dispatch.specs.declared.objects.Turn.TheVariants as turn
use Rattle.qp_kernel_turns.specs.Lanes.{SameLane}
use Rattle.qp_port.specs.declared.job.Job.{Job}
use Rattle.qp_port.specs.declared.job.Job.TheVariants as job
use Rattle.qp_port.specs.Jobs.{IsSameJob, JobBegins, JobEnds, JobStands}

-- it hasn't started
pub record MayBegin (sys : System) (budget : ℕ) (t : Turn) (x : Job) (v : LaneView) : Type 0 where
  pub sound : IsSound sys
  pub few : budget ≤ budget_limit
  pub idle : t ≡ turn.Idle
  pub begins : JobBegins sys x v
  pub none : v.told ≡ []
  pub fed : IsFed v

-- It may take a turn, or be met and looked at like another. Where its last turn stopped, it does nothing more. It has handed in 7 for want of memory
-- alone.
pub record MayTurn (sys : System) (budget : ℕ) (t : Turn) (x : Job) (v : LaneView) : Type 0 where
  pub sound : IsSound sys
  pub few : budget ≤ budget_limit
  pub stands : JobStands sys budget t x v
  pub fed : is_short t ≡ false → IsFed v

-- the run has ended
pub record MayEnd (sys : System) (budget : ℕ) (t : Turn) (x : Job) (v : LaneView) : Type 0 where
  pub sound : IsSound sys
  pub ends : JobEnds sys budget t x v

-- the same worker, with the same lane, which forgets no code that it heard of
pub record IsSameWorker (s t : System) (b c : ℕ) (i j : Job) (v w : LaneView) : Type 0 where
  pub sys : t ≡ s
  pub budget : c ≡ b
  pub job : IsSameJob i j
  pub lane : SameLane v w
  pub hears : Hears v w

same-job : (x : Job) → IsSameJob x x
same-job job.Nothing = tt
same-job (job.Home x) = refl
same-job (job.Source x) = refl

job-still : (x y z : Job) → IsSameJob x y → IsSameJob y z → IsSameJob x z
job-still job.Nothing job.Nothing job.Nothing h k = tt
job-still (job.Home x) (job.Home y) (job.Home z) h k = k ∙ h
job-still (job.Source x) (job.Source y) (job.Source z) h k = k ∙ h
job-still job.Nothing (job.Home y) z h k = absurd h
job-still job.Nothing (job.Source y) z h k = absurd h
job-still (job.Home x) job.Nothing z h k = absurd h
job-still (job.Home x) (job.Source y) z h k = absurd h
job-still (job.Source x) job.Nothing z h k = absurd h
job-still (job.Source x) (job.Home y) z h k = absurd h
job-still job.Nothing job.Nothing (job.Home z) h k = absurd k
job-still job.Nothing job.Nothing (job.Source z) h k = absurd k
job-still (job.Home x) (job.Home y) job.Nothing h k = absurd k
job-still (job.Home x) (job.Home y) (job.Source z) h k = absurd k
job-still (job.Source x) (job.Source y) job.Nothing h k = absurd k
job-still (job.Source x) (job.Source y) (job.Home z) h k = absurd k

pub same-itself : (s : System) (b : ℕ) (x : Job) (v : LaneView) → IsSameWorker s s b b x x v v
same-itself s b x v = record {
  sys = refl;
  budget = refl;
  job = same-job x;
  lane = record { sys = refl; lane = refl; world = refl; plan = refl; happened = refl; serves = λ o. refl; advances = advances-none v };
  hears = hears-itself v;
}

pub same-still : (s t u : System) (b c d : ℕ) (x y z : Job) (v w m : LaneView) → IsSameWorker s t b c x y v w → IsSameWorker t u c d y z w m → IsSameWorker s u b d x z v m
same-still s t u b c d x y z v w m h k = record {
  sys = k.sys ∙ h.sys;
  budget = k.budget ∙ h.budget;
  job = job-still x y z h.job k.job;
  lane = record {
    sys = k.lane.sys ∙ h.lane.sys;
    lane = k.lane.lane ∙ h.lane.lane;
    world = k.lane.world ∙ h.lane.world;
    plan = k.lane.plan ∙ h.lane.plan;
    happened = k.lane.happened ∙ h.lane.happened;
    serves = λ o. k.lane.serves o ∙ h.lane.serves o;
    advances = advances-then v w m h.lane.advances k.lane.advances;
  };
  hears = hears-then v w m h.hears k.hears;
}

pub same-table : (s t : System) (b c : ℕ) (x y : Job) (v w : LaneView) → IsSameWorker s t b c x y v w → IsTogether v w
same-table s t b c x y v w h = record { world = h.lane.world; sys = h.lane.sys }
