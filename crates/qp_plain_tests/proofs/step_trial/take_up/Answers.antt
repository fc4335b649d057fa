use Rattle.qp_plain_tests.proofs.ActorLemmas.{taken-up}
use Rattle.qp_plain_tests.proofs.step_trial.take_up.Goals as goal

pub returns-in-Taken : goal.returns-in-Taken
returns-in-Taken g c = taken-up c.args.sys.now c.args.actor.now c.begin.new.self c.in-Taken.e _ _ _ c.requires c.room.ensures.stays c.in-Taken.ensures c.begin.ensures
