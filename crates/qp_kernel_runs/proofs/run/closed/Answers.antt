use Rattle.std.proofs.Common.{ap}
use Rattle.qp_kernel_end.specs.Outcome.{end_by}
use Rattle.qp_kernel.specs.Turning.{under}
use Rattle.qp_kernel_runs.proofs.Ends.{closed-is}
use Rattle.qp_kernel_runs.proofs.run.closed.Goals as goal

pub returns-in-Quiet : goal.returns-in-Quiet
returns-in-Quiet c = closed-is c.args.lanes (under c.args.cooperative c.args.budget) c.kernel_number.result 0 c.outcome_of.result c.kernel_number.ensures c.outcome_of.ensures (ap end_by c.in-Quiet.is)

pub returns-in-Asserted : goal.returns-in-Asserted
returns-in-Asserted c = closed-is c.args.lanes (under c.args.cooperative c.args.budget) c.kernel_number.result 3 c.outcome_of.result c.kernel_number.ensures c.outcome_of.ensures (ap end_by c.in-Asserted.is)

pub returns-in-Spent : goal.returns-in-Spent
returns-in-Spent c = closed-is c.args.lanes (under c.args.cooperative c.args.budget) c.kernel_number.result 4 c.outcome_of.result c.kernel_number.ensures c.outcome_of.ensures (ap end_by c.in-Spent.is)
