use Rattle.std.proofs.Common.{sym, subst}
use Rattle.qp_port.specs.Jobs.{LaneEndsBehind, TurnsFrom}
use Rattle.qp_port.specs.Workers.{IsSameWorker, MayTurn}
use Rattle.qp_port.proofs.worker.PortWorkerWorker.turn.Goals as goal

pub returns : goal.returns
returns g c =
    let lane = g.O.Ops.lane in
    let x = c.args.self.now in
    let y = c.take_turn.new.self in
    let went = c.take_turn.ensures in
    let ended : LaneEndsBehind lane g.T.Turns.over y.job y.turn c.end_turn.new.ops = record { before = y.lane; still = c.end_turn.ensures.still; over = c.end_turn.ensures.over } in
    subst (λ v. MayTurn y.sys.now y.budget y.turn y.job v × IsSameWorker x.sys.now y.sys.now x.budget y.budget x.job y.job (lane x.lane) v
    × TurnsFrom x.sys.now x.budget x.turn x.job (lane x.lane) y.turn y.job v × LaneEndsBehind lane g.T.Turns.over y.job y.turn c.end_turn.new.ops)
    (sym c.end_turn.ensures.still) (went.ready, went.same, went.turns, ended)
