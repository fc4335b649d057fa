use Rattle.qp_core_steps.proofs.StepLemmas.{step-kept}
use Rattle.qp_core_steps.proofs.steps.step.Goals as goal

pub returns-clause-kept : goal.returns-clause-kept
returns-clause-kept c = step-kept c.args.sys.now c.args.lanes c.args.words.now c.args.seat.now c.step_of.new.words c.step_of.new.seat c.args.op.now c.step_of.result c.step_of.ensures
