-- What runs in a lane stands where it stood, where the lane has only seen more.
use Rattle.std.proofs.Common.{◌≡◌, ℕ, Bool, List, refl, sym, ◌∙◌, ap, subst}
use Rattle.qp_model.specs.declared.systems.System.{System}
use Rattle.qp_model_order.specs.RunOrder.{has_stim}
use Rattle.qp_calls.specs.LaneView.{LaneView, ceiling_in}
use Rattle.qp_calls.specs.Notes.{spills_told}
use Rattle.qp_dispatch.specs.declared.objects.Turn.{Turn}
use Rattle.qp_dispatch.specs.declared.objects.Turn.TheVariants as turn
use Rattle.qp_kernel.specs.declared.kernel.Kernel.{Kernel}
use Rattle.qp_kernel.specs.Happenings.{has_no_stim, lanes_of}
use Rattle.qp_kernel.specs.Turning.{Terms, under_qk}
use Rattle.qp_kernel_turns.specs.declared.objects.Objects.{Objects}
use Rattle.qp_kernel_turns.specs.AtRest.{RestsAt}
use Rattle.qp_kernel_turns.specs.Knowing.{HandsCover, HasStack, KnowsAt}
use Rattle.qp_kernel_turns.specs.Turning.{EndsSo, idle_in}
use Rattle.qp_kernel_turns.specs.TurnRows.{idle_rows}
use Rattle.qp_kernel_turns.proofs.Halted.{same-lanes}
use Rattle.qp_kernel_turns.proofs.Places.{follow-none, follow-then}
use Rattle.qp_kernel_turns.proofs.Staying.{all-still, all-wait}
use Rattle.qp_port_law.specs.SourcesLeft.{SourceLeaves}
use Rattle.qp_port_lanes.specs.CursorAt.{mine}
use Rattle.qp_port_lanes.specs.Passing.{settles_of}
use Rattle.qp_port_lanes.proofs.Feeding.{fed-seen}
use Rattle.qp_port_lanes.proofs.Hearing.{hears-seen, starved-seen, stopped-seen}
use Rattle.qp_port_lanes.proofs.Seeing.{SeenMore}
use Rattle.qp_port_lanes.proofs.Standing.{stay}
use Rattle.qp_port_qk.specs.RestLaws.{IsAtBase}
use Rattle.qp_port_qk.specs.declared.job.QkJob.{QkJob}
use Rattle.qp_port_qk.specs.declared.job.QkJob.TheVariants as job
use Rattle.qp_port_qk.specs.Jobs.{IsSameQkJob, QkJobRests, QkJobStands, QkJobStops}
use Rattle.qp_port_qk.specs.KernelRests.{KernelRests, KernelStops}
use Rattle.qp_port_qk.specs.Numbers.{job_rows, numbers_of}
use Rattle.qp_port_qk.specs.Workers.{IsSameQkWorker, QkMayTurn}

module _ (v w : LaneView) (more : SeenMore v w) where
  lanes : lanes_of w ≡ lanes_of v
  lanes = same-lanes v w more.same.plan more.same.happened

  -- the kernel's lane
  based-seen : (sys : System) (budget looks : ℕ) (stack : List ℕ) (xs : Objects) → KnowsAt (IsAtBase sys) sys (under_qk budget) looks stack xs v → KnowsAt (IsAtBase sys) sys (under_qk budget) looks stack xs w
  based-seen sys budget looks stack xs b =
      let k = b.knows in
      let has : HasStack sys k.state.reading.running k.state = subst (λ ps. HasStack sys ps k.state) (sym b.at.base) b.at.stack in
      let cover : HandsCover xs w = λ t. rw more.sees.hands (k.hands t) in
      record {
        knows = record {
          state = k.state;
          told = k.told ∙ sym more.sees.told;
          stands = k.stands;
          counted = k.counted;
          ceiling = k.ceiling;
          lane = record {
            of = more.sees.sys ∙ k.lane.of;
            told = k.lane.told ∙ ap (ceiling_in 0) (sym more.sees.told);
            spills = ap spills_told more.sees.told ∙ k.lane.spills;
            serves = λ d found. more.same.serves d.priority ∙ k.lane.serves d found;
          };
          running = k.running;
          settled = k.settled;
          now = k.now ∙ ap has_stim (sym lanes);
          later = λ n lt. ap (λ x. has_stim x n) lanes ∙ k.later n lt;
          objects = all-still sys xs v w k.state.stages k.state.entries more.sees.sys k.lane.of cover (all-wait sys k.state has) k.objects;
          hands = cover;
        };
        at = b.at;
      }

  kernel-rests : (sys : System) (budget : ℕ) (xs : Objects) (k : Kernel) → KernelRests sys budget xs k v → KernelRests sys budget xs k w
  kernel-rests sys budget xs k h = record {
    first = h.first;
    start = h.start;
    made = h.made;
    none = h.none;
    follows = follow-then h.first h.start xs v xs w h.follows (follow-none xs v w more.sees.hands);
    rests = based-seen sys budget k.looks k.stack.items xs h.rests;
    no_stim = subst (λ ts. has_no_stim (record v { told = ts })) (sym more.sees.told) h.no_stim;
    counted = h.counted;
    plan = more.same.plan ∙ h.plan;
  }

  kernel-stops : (sys : System) (budget : ℕ) (xs : Objects) (k : Kernel) → KernelStops sys budget xs k v → KernelStops sys budget xs k w
  kernel-stops sys budget xs k h = record {
    ends = λ end cut.
        subst (λ ts. EndsSo sys (under_qk budget) end ts (has_stim (lanes_of w))) (sym more.sees.told)
        (subst (λ l. EndsSo sys (under_qk budget) end v.told (has_stim l)) (sym lanes) (h.ends end cut));
    others = λ d chart found its apart.
        let r = h.others d chart found its apart in
        subst (λ ts. RestsAt sys d chart xs ts) (sym more.sees.told) r;
  }

  job-rests : (sys : System) (budget : ℕ) (x : QkJob) → QkJobRests sys budget x v → QkJobRests sys budget x w
  job-rests sys budget (job.Kernel xs k) h = kernel-rests sys budget xs k h
  job-rests sys budget (job.Source x) h = stay sys x v w h more.sees

  job-stops : (sys : System) (budget : ℕ) (x : QkJob) → QkJobStops sys budget x v → QkJobStops sys budget x w
  job-stops sys budget (job.Kernel xs k) h = kernel-stops sys budget xs k h
  job-stops sys budget (job.Source x) h = λ kernel end may early. subst (SourceLeaves sys kernel end (mine x)) (sym more.sees.told) (h kernel end may early)

  job-stands : (sys : System) (budget : ℕ) (t : Turn) (x : QkJob) → QkJobStands sys budget t x v → QkJobStands sys budget t x w
  job-stands sys budget turn.Idle x h = job-rests sys budget x h
  job-stands sys budget turn.Stopped x h = (job-stops sys budget x h.0, stopped-seen v w more h.1)
  job-stands sys budget turn.Memory x h = starved-seen v w more h

  pub may-turn_still : (acts : Bool) (sys : System) (budget : ℕ) (t : Turn) (x : QkJob) → QkMayTurn acts sys budget t x v → QkMayTurn acts sys budget t x w
  may-turn_still acts sys budget t x h = record {
    alone = h.alone;
    sound = h.sound;
    few = h.few;
    stands = job-stands sys budget t x h.stands;
    fed = λ long. fed-seen v w more (h.fed long);
  }

  rows-still : (sys : System) (terms : Terms) → idle_rows sys terms w ≡ idle_rows sys terms v
  rows-still sys terms = ap (λ ts. idle_in sys terms ts (has_stim (lanes_of w))) more.sees.told ∙ ap (λ l. idle_in sys terms v.told (has_stim l)) lanes

  pub numbers-still : (sys : System) (budget : ℕ) (t : Turn) (x : QkJob) → numbers_of sys budget t x w ≡ numbers_of sys budget t x v
  numbers-still sys budget t x = rw (job-still x, ap settles_of more.sees.told) refl
    where
      job-still : (x : QkJob) → job_rows sys budget x w ≡ job_rows sys budget x v
      job-still (job.Kernel xs k) = rows-still sys (under_qk budget)
      job-still (job.Source y) = refl

pub same-job : (x : QkJob) → IsSameQkJob x x
same-job (job.Kernel xs k) = tt
same-job (job.Source x) = refl

pub same-worker : (s : System) (b : ℕ) (x : QkJob) (v w : LaneView) → SeenMore v w → IsSameQkWorker s s b b x x v w
same-worker s b x v w more = record { sys = refl; budget = refl; job = same-job x; lane = more.same; hears = hears-seen v w more }
