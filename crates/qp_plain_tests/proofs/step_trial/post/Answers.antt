use Rattle.qp_plain_tests.proofs.StepLanes.{base-post}
use Rattle.qp_plain_tests.proofs.step_trial.post.Goals as goal

pub returns-in-Ok-Value : goal.returns-in-Ok-Value
returns-in-Ok-Value g c = base-post c.args.sys.now c.args.to c.args.sig c.in-Ok-Value.field-0 _ _ c.in-Ok-Value.ensures c.requires
