use Rattle.qp_plain_tests.proofs.StimulusLanes.{new-base}
use Rattle.qp_plain_tests.proofs.stimulus_trial.run.Goals as goal

pub notes-requires : goal.notes-requires
notes-requires g c = new-base c.args.sys.now 1 c.in-Ok.world c.requires.sound c.in-Ok.ensures
