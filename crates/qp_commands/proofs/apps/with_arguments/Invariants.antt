use Rattle.std.proofs.Common.{◌≡◌, drop}
use Rattle.clap.specs.Words.{app_of}
use Rattle.qp_commands.specs.ByWord.{with_arguments}
use Rattle.qp_commands.proofs.apps.with_arguments.Given as goal

abbrev pub invariant-loop-a : goal.invariant-loop-a
invariant-loop-a l = with_arguments (app_of l.command) (drop l.a-index l.arguments) ≡ with_arguments (app_of l.fn.command) l.arguments
