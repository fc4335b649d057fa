-- A lane without records has no more than its start.
use Rattle.std.proofs.Common.{◌≡◌, ℕ, zero, suc, true, List, [], refl, sym, ap, subst}
use Rattle.qp_model.specs.Record.{Item}
use Rattle.qp_model_order.specs.SourceRun.{untold_all}
use Rattle.qp_kernel.specs.Starts.{AreStarts, IsStartAlone}
use Rattle.qp_kernel.proofs.StartsLemmas.{starts-alone}
use Rattle.qp_calls.specs.LaneView.{LaneView}
use Rattle.qp_dispatch.specs.declared.objects.Turn.{Turn}
use Rattle.qp_dispatch.specs.declared.objects.Turn.TheVariants as turn
use Rattle.qp_port_lanes.specs.Answers.{is_idle}
use Rattle.qp_port.specs.declared.job.Job.{Job}
use Rattle.qp_port.specs.declared.job.Job.TheVariants as job
use Rattle.qp_port.specs.Jobs.{IsSameJob, JobIsAlone, JobStartsAlone, starts_of}

nothing-alone : (n : ℕ) → IsStartAlone n []
nothing-alone zero = λ w. refl
nothing-alone (suc n) = λ w. refl

pub none-alone : (t : Turn) (x : Job) (v : LaneView) → v.told ≡ [] → JobIsAlone t x v
none-alone t x v none long = subst (λ ts. IsStartAlone (starts_of x) (untold_all ts)) (sym none) (nothing-alone (starts_of x))

-- the same objects and sources start
pub same-starts : (x y : Job) → IsSameJob x y → starts_of x ≡ starts_of y
same-starts job.Nothing job.Nothing h = refl
same-starts (job.Home x) (job.Home y) h = refl
same-starts (job.Source x) (job.Source y) h = refl
same-starts job.Nothing (job.Home y) h = absurd h
same-starts job.Nothing (job.Source y) h = absurd h
same-starts (job.Home x) job.Nothing h = absurd h
same-starts (job.Home x) (job.Source y) h = absurd h
same-starts (job.Source x) job.Nothing h = absurd h
same-starts (job.Source x) (job.Home y) h = absurd h

-- what a start answers
pub start-alone : (t : Turn) (x : Job) (v : LaneView) → JobStartsAlone t x v → JobIsAlone t x v
start-alone turn.Idle x v h long = starts-alone (starts_of x) (untold_all v.told) h
start-alone turn.Stopped x v h long = h
start-alone turn.Memory x v h long = absurd (cc)

pub idle-started : (t : Turn) (x : Job) (v : LaneView) → JobStartsAlone t x v → is_idle t ≡ true → AreStarts (starts_of x) (untold_all v.told)
idle-started turn.Idle x v h idle = h
idle-started turn.Stopped x v h idle = absurd (cc)
idle-started turn.Memory x v h idle = absurd (cc)

-- where nothing starts
nothing-starts : (n : ℕ) (is : List Item) → n ≡ 0 → is ≡ [] → AreStarts n is
nothing-starts n is noughts none = subst (λ k. AreStarts k is) (sym noughts) (subst (AreStarts 0) (sym none) (refl, refl))

pub none-starts : (x : Job) (v : LaneView) → starts_of x ≡ 0 → v.told ≡ [] → JobStartsAlone turn.Idle x v
none-starts x v noughts none = nothing-starts (starts_of x) (untold_all v.told) noughts (ap untold_all none)
