use Rattle.std.proofs.Common.{arith}
use Rattle.qp_shared_tests.proofs.KernelLemmas.{in-order, same-turned}
use Rattle.qp_shared_tests.proofs.kernel.turn.Goals as goal

pub kernel_turn-requires-clause-fit : goal.kernel_turn-requires-clause-fit
kernel_turn-requires-clause-fit g c = rw c.requires.plan (record { few = omega arith; stimuli = tt })

pub kernel_turn-requires-clause-order : goal.kernel_turn-requires-clause-order
kernel_turn-requires-clause-order g c = in-order g.W.World.acts c.args.sys.now _ (g.W.Ops.lane c.args.world.now) c.requires.alone c.requires.none

pub returns : goal.returns
returns g c = same-turned g.W.World.acts _ _ c.kernel_turn.result c.kernel_turn.ensures.lane
