use Rattle.std.proofs.Common.{refl}
use Rattle.qp_plain_tests.proofs.ActorLemmas.{may-resume, resumed}
use Rattle.qp_plain_tests.proofs.step_trial.resume.Goals as goal

pub resume-requires : goal.resume-requires
resume-requires g c = may-resume c.args.sys.now c.args.actor.now (g.O.Ops.lane c.args.ops.now) c.requires

pub returns : goal.returns
returns g c =
    resumed c.args.sys.now c.args.actor.now (record (c.args.actor.now) { object = c.resume.new.self; ceiling = c.resume.new.ceiling }) (g.O.Ops.lane c.args.ops.now) (g.O.Ops.lane c.resume.new.ops) c.resume.result c.requires refl c.resume.ensures
