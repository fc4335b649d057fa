use Rattle.qp_shared_tests.proofs.SameLanes.{plays-on}
use Rattle.qp_shared_tests.proofs.players.drain.Goals as goal

pub take_one-requires : goal.take_one-requires
take_one-requires g c = plays-on c.args.at.now.sys.now c.args.at.now.ev.now c.args.at.now.me c.args.at.now.to _ _ c.loop-entry.invariant.same c.requires
