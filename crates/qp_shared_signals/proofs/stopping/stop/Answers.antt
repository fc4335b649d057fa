use Rattle.qp_shared_signals.proofs.Codes.{within, caused, handed}
use Rattle.qp_shared_signals.proofs.stopping.stop.Goals as goal

pub stop-requires-clause-most : goal.stop-requires-clause-most
stop-requires-clause-most c = (within c.args.lane.now c.args.code c.requires).1

pub hand-requires : goal.hand-requires
hand-requires c = caused c.args.lane.now c.args.code c.requires

pub returns : goal.returns
returns c = (handed c.args.lane.now c.stop.new.self.seat.me.0 c.hand.new.self c.hand.ensures.recs c.hand.ensures.spare c.stop.new.self.words.now.shared.table_id (λ i. (c.stop.ensures.same.0 i).now.shared.table_id) c.args.code c.stop.ensures.hands c.hand.ensures.handed c.hand.ensures.answered).1
