use Rattle.qp_plain_tests.proofs.NewWorlds.{fit-world, fresh-world}
use Rattle.qp_plain_tests.proofs.playing.play.Goals as goal

pub run-turn-requires-clause-fresh : goal.run-turn-requires-clause-fresh
run-turn-requires-clause-fresh g c κs within = fresh-world c.args.sys.now c.args.stim.now _ c.in_ok-plain.plain c.in_ok-world.world c.in_ok-plain.ensures c.in_ok-world.ensures

pub run-turn-requires-clause-fit : goal.run-turn-requires-clause-fit
run-turn-requires-clause-fit g c κs within = fit-world c.args.sys.now c.args.stim.now _ c.in_ok-plain.plain c.in_ok-world.world c.in_ok-plain.ensures c.in_ok-world.ensures c.requires.fit
