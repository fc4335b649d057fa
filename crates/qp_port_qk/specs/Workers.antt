-- A worker: a lane with what runs in it.
use Rattle.std.proofs.Common.{◌∙◌}
use Rattle.std.specs.Prelude.{◌≡◌, ℕ, ◌≤◌, Bool, false, List, [], ◌∷◌, ⊤, refl}
use Rattle.qp_model.specs.declared.systems.System.{System}
use Rattle.qp_model.specs.Sound.{IsSound}
use Rattle.qp_model.specs.Limits.{budget_limit}
use Rattle.qp_calls.specs.LaneView.{LaneView}
use Rattle.qp_calls.proofs.Advancing.{advances-none, advances-then}
use Rattle.qp_calls_log.specs.Meeting.{IsTogether}
use Rattle.qp_dispatch.specs.declared.objects.Turn.{Turn}
use Rattle.qp_kernel_turns.specs.Lanes.{SameLane}
use Rattle.qp_port_phases.specs.Turns.{AreReady}
use Rattle.qp_port_phases.specs.Stopping.{Hears}
use Rattle.qp_port_lanes.specs.Answers.{IsFed, is_short}
use Rattle.qp_port_lanes.proofs.Hearing.{hears-itself, hears-then}
use Rattle.qp_port_qk.specs.declared.job.QkJob.{QkJob}
use Rattle.qp_port_qk.specs.declared.job.QkJob.TheVariants as job
use Rattle.qp_dispatch.specs.declared.objects.Turn.TheVariants as turn
use Rattle.qp_port_qk.specs.Jobs.{IsSameQkJob, QkJobBegins, QkJobEnds, QkJobStands, qk_starts_of}

-- It may take a turn, or be met and looked at like another. Where its last turn stopped, it does nothing more. It has handed in 7 for want of memory
-- alone. In the looks of its world nothing happens.
pub record QkMayTurn (acts : Bool) (sys : System) (budget : ℕ) (t : Turn) (x : QkJob) (v : LaneView) : Type 0 where
  pub alone : acts ≡ false
  pub sound : IsSound sys
  pub few : budget ≤ budget_limit
  pub stands : QkJobStands sys budget t x v
  pub fed : is_short t ≡ false → IsFed v

-- it hasn't started
pub record QkMayBegin (acts : Bool) (sys : System) (budget : ℕ) (t : Turn) (x : QkJob) (v : LaneView) : Type 0 where
  pub alone : acts ≡ false
  pub sound : IsSound sys
  pub few : budget ≤ budget_limit
  pub idle : t ≡ turn.Idle
  pub begins : QkJobBegins sys x v
  pub none : v.told ≡ []
  pub fed : IsFed v

-- the run has ended
pub record QkMayEnd (sys : System) (budget : ℕ) (t : Turn) (x : QkJob) (v : LaneView) : Type 0 where
  pub sound : IsSound sys
  pub ends : QkJobEnds sys budget t x v
  pub fed : is_short t ≡ false → IsFed v

-- the same worker, with the same lane, which forgets no code that it heard of
pub record IsSameQkWorker (s t : System) (b c : ℕ) (i j : QkJob) (v w : LaneView) : Type 0 where
  pub sys : t ≡ s
  pub budget : c ≡ b
  pub job : IsSameQkJob i j
  pub lane : SameLane v w
  pub hears : Hears v w

same-job : (x : QkJob) → IsSameQkJob x x
same-job (job.Kernel xs k) = tt
same-job (job.Source x) = refl

job-still : (x y z : QkJob) → IsSameQkJob x y → IsSameQkJob y z → IsSameQkJob x z
job-still (job.Kernel xs k) (job.Kernel ys l) (job.Kernel zs m) h i = tt
job-still (job.Source x) (job.Source y) (job.Source z) h i = i ∙ h
job-still (job.Kernel xs k) (job.Source y) z h i = absurd h
job-still (job.Source x) (job.Kernel ys l) z h i = absurd h
job-still (job.Kernel xs k) (job.Kernel ys l) (job.Source z) h i = absurd i
job-still (job.Source x) (job.Source y) (job.Kernel zs m) h i = absurd i

pub qk-same-itself : (s : System) (b : ℕ) (x : QkJob) (v : LaneView) → IsSameQkWorker s s b b x x v v
qk-same-itself s b x v = record {
  sys = refl;
  budget = refl;
  job = same-job x;
  lane = record { sys = refl; lane = refl; world = refl; plan = refl; happened = refl; serves = λ o. refl; advances = advances-none v };
  hears = hears-itself v;
}

pub qk-same-still : (s t u : System) (b c d : ℕ) (x y z : QkJob) (v w m : LaneView) → IsSameQkWorker s t b c x y v w → IsSameQkWorker t u c d y z w m → IsSameQkWorker s u b d x z v m
qk-same-still s t u b c d x y z v w m h k = record {
  sys = k.sys ∙ h.sys;
  budget = k.budget ∙ h.budget;
  job = job-still x y z h.job k.job;
  lane = record {
    sys = k.lane.sys ∙ h.lane.sys;
    lane = k.lane.lane ∙ h.lane.lane;
    world = k.lane.world ∙ h.lane.world;
    plan = k.lane.plan ∙ h.lane.plan;
    happened = k.lane.happened ∙ h.lane.happened;
    serves = λ o. k.lane.serves o ∙ h.lane.serves o;
    advances = advances-then v w m h.lane.advances k.lane.advances;
  };
  hears = hears-then v w m h.hears k.hears;
}

pub qk-same-table : (s t : System) (b c : ℕ) (x y : QkJob) (v w : LaneView) → IsSameQkWorker s t b c x y v w → IsTogether v w
qk-same-table s t b c x y v w h = record { world = h.lane.world; sys = h.lane.sys }

-- nothing starts in its lane, and nothing stands there
pub record IsBlank (sys : System) (x : QkJob) (v : LaneView) : Type 0 where
  pub starts : qk_starts_of sys x ≡ 0
  pub none : v.told ≡ []

-- but for the first, these are so
abbrev pub OthersAre : {T : Type 0} → (T → Type 0) → List T → Type 0
OthersAre P [] = ⊤
OthersAre P (w ∷ ws) = AreReady P ws

-- the first hasn't started, and the others may take turns
abbrev pub FirstBegins : {T : Type 0} → (T → Type 0) → (T → Type 0) → List T → Type 0
FirstBegins Begins Rests [] = ⊥
FirstBegins Begins Rests (w ∷ ws) = Begins w × AreReady Rests ws
