use Rattle.qp_plain_tests.proofs.DeskLemmas.{new-goes}
use Rattle.qp_plain_tests.proofs.bench.played.Goals as goal

pub play-requires-clause-may : goal.play-requires-clause-may
play-requires-clause-may g c = new-goes c.args.sys.now c.args.lanes _ c.in-Ok.world c.requires.sound c.in-Ok.ensures c.in-Ok-new.ensures.0
