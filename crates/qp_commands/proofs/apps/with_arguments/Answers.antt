use Rattle.std.proofs.Common.{[]}
use Rattle.qp_commands.specs.declared.apps.Argument.TheVariants as argument
use Rattle.qp_commands.proofs.WordApps.{arguments-end, arguments-next}
use Rattle.qp_commands.proofs.apps.with_arguments.Goals as goal

pub loop-a-preserved : goal.loop-a-preserved
loop-a-preserved c =
    arguments-next c.args.arguments.now c.loop-a.a-index (argument.Option (record { ref_ptr = (0, 0); now = [] })) c.loop-a.command c.in_ok-command.command
    c.arg_of.result _ c.loop-a-test.true c.in_ok-command.ensures c.arg_of.ensures.local c.arg_of.ensures.rule c.loop-a.invariant

pub returns : goal.returns
returns c = arguments-end c.args.arguments.now c.loop-a.a-index c.loop-a.command _ c.loop-a-test.false c.loop-a.invariant
