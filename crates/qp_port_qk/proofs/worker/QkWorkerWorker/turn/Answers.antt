use Rattle.std.proofs.Common.{◌≡◌, ℕ, Bool, false, arith, refl, sym, ◌∙◌}
use Rattle.qp_model.specs.declared.systems.System.{System}
use Rattle.qp_calls.specs.LaneView.{LaneView}
use Rattle.qp_dispatch.specs.declared.objects.Turn.{Turn}
use Rattle.qp_dispatch.specs.declared.objects.Turn.TheVariants as turn
use Rattle.qp_port_phases.specs.Rows.{CountsOn, Numbers}
use Rattle.qp_port_lanes.specs.Answers.{is_idle}
use Rattle.qp_port_qk.specs.declared.job.QkJob.{QkJob}
use Rattle.qp_port_qk.specs.Jobs.{QkTurnsFrom}
use Rattle.qp_port_qk.specs.Numbers.{numbers_of}
use Rattle.qp_port_qk.specs.Workers.{qk-same-itself}
use Rattle.qp_port_qk.proofs.worker.QkWorkerWorker.turn.Goals as goal

-- it did nothing
counts-still : (v : LaneView) (n : Numbers) → CountsOn v n n
counts-still v n = record { lost = λ e. e; settles = λ e. omega arith; rows = λ e. omega arith; pending = λ e p is sees. omega arith }

turns-still : (acts : Bool) (sys : System) (budget : ℕ) (t : Turn) (x : QkJob) (v : LaneView) → is_idle t ≡ false → QkTurnsFrom acts sys budget t x v t x v
turns-still acts sys budget turn.Idle x v e = absurd (cc)
turns-still acts sys budget turn.Stopped x v e = (refl, refl, refl)
turns-still acts sys budget turn.Memory x v e = (refl, refl, refl)

pub returns-else-is_idle : goal.returns-else-is_idle
returns-else-is_idle g c =
    let x = c.args.self.now in
    let v : LaneView = g.W.Ops.lane x.lane in (
      c.requires,
      qk-same-itself x.sys.now x.budget x.job v,
      counts-still v (numbers_of x.sys.now x.budget x.turn x.job v),
      turns-still g.W.World.acts x.sys.now x.budget x.turn x.job v (sym c.is_idle.ensures ∙ c.if-is_idle.false),
    )
