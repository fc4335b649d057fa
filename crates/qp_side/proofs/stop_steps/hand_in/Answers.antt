use Rattle.std.proofs.Common.{arith}
use Rattle.qp_side.proofs.StopLemmas.{hands}
use Rattle.qp_side.proofs.stop_steps.hand_in.Goals as goal

pub exchange-requires-clause-own : goal.exchange-requires-clause-own
exchange-requires-clause-own c = let w = c.requires.wide in (c.requires.own, omega arith)

pub exchange-requires-clause-keeps : goal.exchange-requires-clause-keeps
exchange-requires-clause-keeps c = hands c.args.words.now.shared.key c.args.seat.now.id c.args.seat.now.me.0 c.args.code c.requires.log c.requires.some c.requires.most
