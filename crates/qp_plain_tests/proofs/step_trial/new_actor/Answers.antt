use Rattle.std.proofs.Common.{refl, rules}
use Rattle.qp_plain_tests.proofs.ActorLemmas.{new-unstarted}
use Rattle.qp_plain_tests.proofs.step_trial.new_actor.Goals as goal

pub returns-in-Ok : goal.returns-in-Ok
returns-in-Ok c = (new-unstarted c.args.sys.now (record { me = c.args.me; object = c.in-Ok.object; ceiling = c.args.ceiling; points = 0 }) c.requires (search rules) c.in-Ok.ensures, refl)
