use Rattle.qp_shared_tests.proofs.SameLanes.{plays-on}
use Rattle.qp_shared_tests.proofs.players.play.Goals as goal

pub round-requires : goal.round-requires
round-requires g c = plays-on c.args.at.now.sys.now c.args.at.now.ev.now c.args.at.now.me c.args.at.now.to _ _ c.loop-round.invariant.same c.requires.player
