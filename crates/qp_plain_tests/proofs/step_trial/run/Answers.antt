use Rattle.qp_plain_tests.proofs.StepLanes.{new-base}
use Rattle.qp_plain_tests.proofs.step_trial.run.Goals as goal

pub play-requires-clause-base : goal.play-requires-clause-base
play-requires-clause-base g c = new-base c.args.sys.now 1 c.in-Ok.world c.requires c.in-Ok.ensures
