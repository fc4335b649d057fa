use Rattle.qp_port_phases.proofs.GoingOn.{goes-kept, goes-then, goes-turn}
use Rattle.qp_port_phases.proofs.staying.go.Goals as goal

pub returns-then-may_go : goal.returns-then-may_go
returns-then-may_go g c =
    let laws = g.met.T.PhaseLane in
    let Ready = g.T.Worker.ready in
    let Same = g.T.PhaseLane.same in
    let numbers = g.T.PhaseLane.numbers in
    let y = c.may_go.new.lane in
    let z = c.turn.new.self in
    let went = laws.went y z c.turn.ensures in
    goes-then Ready Same numbers laws.same_still c.args.lane.now y z (goes-kept Ready Same numbers g.T.PhaseLane.waits g.T.PhaseLane.remains c.args.lane.now y c.may_go.ensures.kept)
    (goes-turn Ready Same numbers g.T.PhaseLane.view g.T.PhaseLane.rowless y z (c.may_go.ensures.cause c.if-may_go.true) went.0 went.1 (laws.went_on y z c.turn.ensures) (laws.went_rowless y z c.turn.ensures))
