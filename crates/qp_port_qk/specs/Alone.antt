-- Lanes that have no more than their starts.
use Rattle.std.proofs.Common.{◌≡◌, ℕ, true, length, List, [], refl, sym, ap, subst}
use Rattle.qp_model.specs.declared.systems.System.{System}
use Rattle.qp_model.specs.Record.{Item}
use Rattle.qp_model_order.specs.SourceRun.{untold_all}
use Rattle.qp_kernel.specs.Starts.{AreStarts}
use Rattle.qp_kernel.proofs.StartsLemmas.{starts-alone}
use Rattle.qp_calls.specs.LaneView.{LaneView}
use Rattle.qp_dispatch.specs.declared.objects.Turn.{Turn}
use Rattle.qp_dispatch.specs.declared.objects.Turn.TheVariants as turn
use Rattle.qp_port_lanes.specs.Answers.{is_idle}
use Rattle.qp_port_qk.specs.declared.job.QkJob.{QkJob}
use Rattle.qp_port_qk.specs.declared.job.QkJob.TheVariants as job
use Rattle.qp_port_qk.specs.Jobs.{IsSameQkJob, QkJobIsAlone, QkJobStartsAlone, qk_starts_of}
use Rattle.qp_port_qk.specs.Workers.{IsBlank}

-- the same objects start
pub qk-same-starts : (s t : System) (x y : QkJob) → t ≡ s → IsSameQkJob x y → qk_starts_of s x ≡ qk_starts_of t y
qk-same-starts s t (job.Kernel xs k) (job.Kernel ys l) same h = ap (λ (u : System). length u.objects) (sym same)
qk-same-starts s t (job.Source x) (job.Source y) same h = refl
qk-same-starts s t (job.Kernel xs k) (job.Source y) same h = absurd h
qk-same-starts s t (job.Source x) (job.Kernel ys l) same h = absurd h

-- what a start answers
pub qk-start-alone : (sys : System) (t : Turn) (x : QkJob) (v : LaneView) → QkJobStartsAlone sys t x v → QkJobIsAlone sys t x v
qk-start-alone sys turn.Idle x v h long = starts-alone (qk_starts_of sys x) (untold_all v.told) h
qk-start-alone sys turn.Stopped x v h long = h
qk-start-alone sys turn.Memory x v h long = absurd (cc)

pub qk-idle-started : (sys : System) (t : Turn) (x : QkJob) (v : LaneView) → QkJobStartsAlone sys t x v → is_idle t ≡ true → AreStarts (qk_starts_of sys x) (untold_all v.told)
qk-idle-started sys turn.Idle x v h idle = h
qk-idle-started sys turn.Stopped x v h idle = absurd (cc)
qk-idle-started sys turn.Memory x v h idle = absurd (cc)

-- where nothing starts
nothing-starts : (n : ℕ) (is : List Item) → n ≡ 0 → is ≡ [] → AreStarts n is
nothing-starts n is noughts none = subst (λ k. AreStarts k is) (sym noughts) (subst (AreStarts 0) (sym none) (refl, refl))

pub qk-none-starts : (sys : System) (x : QkJob) (v : LaneView) → qk_starts_of sys x ≡ 0 → v.told ≡ [] → QkJobStartsAlone sys turn.Idle x v
qk-none-starts sys x v noughts none = nothing-starts (qk_starts_of sys x) (untold_all v.told) noughts (ap untold_all none)

pub blank-started : (sys : System) (x : QkJob) (v : LaneView) → IsBlank sys x v → AreStarts (qk_starts_of sys x) (untold_all v.told)
blank-started sys x v blank = qk-none-starts sys x v blank.starts blank.none

pub blank-alone : (sys : System) (t : Turn) (x : QkJob) (v : LaneView) → IsBlank sys x v → QkJobIsAlone sys t x v
blank-alone sys t x v blank long = starts-alone (qk_starts_of sys x) (untold_all v.told) (blank-started sys x v blank)
