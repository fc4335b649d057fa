use Rattle.std.proofs.Common.{refl}
use Rattle.qp_plain_tests.proofs.ActorLemmas.{may-start, started}
use Rattle.qp_plain_tests.proofs.step_trial.start.Goals as goal

pub start-requires : goal.start-requires
start-requires g c = may-start c.args.sys.now c.args.actor.now (g.O.Ops.lane c.args.ops.now) c.requires.new c.requires.base

pub returns : goal.returns
returns g c =
    started c.args.sys.now c.args.actor.now (record (c.args.actor.now) { object = c.start.new.self; ceiling = c.start.new.ceiling }) (g.O.Ops.lane c.args.ops.now) (g.O.Ops.lane c.start.new.ops) c.start.result c.requires.new c.requires.base refl
    c.start.ensures
