use Rattle.qp_port_lanes.proofs.Lanes.{started}
use Rattle.qp_port_lanes.proofs.Starting.{after-start, alone-start, may-start}
use Rattle.qp_port_lanes.proofs.home.Home.start.Goals as goal

pub start-requires : goal.start-requires
start-requires g c = may-start c.args.sys.now c.requires.sound c.args.self.now (g.O.Ops.lane c.args.ops.now) c.requires.made c.requires.empty

pub returns-clause-goes : goal.returns-clause-goes
returns-clause-goes g c =
    after-start c.args.sys.now c.requires.sound c.args.self.now (g.O.Ops.lane c.args.ops.now) c.requires.made c.requires.empty c.start.new.ceiling c.start.new.self (g.O.Ops.lane c.start.new.ops) c.start.result c.start.ensures

pub returns-clause-lane : goal.returns-clause-lane
returns-clause-lane g c = started c.args.sys.now c.start.new.ceiling c.args.self.now.object c.start.new.self (g.O.Ops.lane c.args.ops.now) (g.O.Ops.lane c.start.new.ops) c.start.result c.start.ensures

pub returns-clause-alone : goal.returns-clause-alone
returns-clause-alone g c =
    alone-start c.args.sys.now c.requires.sound c.args.self.now (g.O.Ops.lane c.args.ops.now) c.requires.made c.requires.empty c.start.new.ceiling c.start.new.self (g.O.Ops.lane c.start.new.ops) c.start.result c.start.ensures
