use Rattle.std.proofs.Common.{refl, ap, arith}
use Rattle.qp_model.specs.Record.{item_of}
use Rattle.qp_calls_log.specs.Lane.{is_plain}
use Rattle.qp_plain.proofs.Calling.{stop-stays, queue-at}
use Rattle.qp_plain.proofs.QueueTable.{there, few}
use Rattle.qp_plain.proofs.RepeatFacts.{lifo-may, entry-fits, room-now}
use Rattle.qp_plain.proofs.RepeatHolds.{lifo-again}
use Rattle.qp_plain.proofs.world.PlainWorld.lifo_again.Goals as goal

pub index_mut-requires : goal.index_mut-requires
unfolding item_of
index_mut-requires c =
    let w = c.args.self.now in
    let lt = there w c.args.rec.of c.from.result (lifo-may w c.args.rec c.requires.next c.requires.says.0 c.requires.says.1 c.requires.says.2 c.args.entry c.requires.says.3).2.queue.object c.from.ensures in
    omega (arith, lt, w.queues.ok.0)

pub token_of-requires : goal.token_of-requires
unfolding item_of
token_of-requires c = let w = c.args.self.now in entry-fits w c.args.entry c.requires.sound (lifo-may w c.args.rec c.requires.next c.requires.says.0 c.requires.says.1 c.requires.says.2 c.args.entry c.requires.says.3).2.owned.good

pub post_front-requires-clause-room : goal.post_front-requires-clause-room
unfolding item_of
post_front-requires-clause-room c = let w = c.args.self.now in let now = queue-at w c.args.rec.of c.from.result c.index_mut.result.now (lifo-may w c.args.rec c.requires.next c.requires.says.0 c.requires.says.1 c.requires.says.2 c.args.entry c.requires.says.3).2.queue.object c.from.ensures c.index_mut.ensures.value in room-now w c.args.rec.of c.index_mut.result.now now (lifo-may w c.args.rec c.requires.next c.requires.says.0 c.requires.says.1 c.requires.says.2 c.args.entry c.requires.says.3).2.room

pub post_front-requires-clause-few : goal.post_front-requires-clause-few
unfolding item_of
post_front-requires-clause-few c = let w = c.args.self.now in let now = queue-at w c.args.rec.of c.from.result c.index_mut.result.now (lifo-may w c.args.rec c.requires.next c.requires.says.0 c.requires.says.1 c.requires.says.2 c.args.entry c.requires.says.3).2.queue.object c.from.ensures c.index_mut.ensures.value in let le = few w c.args.rec.of c.index_mut.result.now (lifo-may w c.args.rec c.requires.next c.requires.says.0 c.requires.says.1 c.requires.says.2 c.args.entry c.requires.says.3).2.queue.object now in omega (arith, le)

pub post_front-requires-clause-token : goal.post_front-requires-clause-token
post_front-requires-clause-token c = c.token_of.ensures.token

pub add-requires-clause-plain : goal.add-requires-clause-plain
add-requires-clause-plain c = ap is_plain c.requires.says.3

pub invariant_of-self : goal.invariant_of-self
unfolding item_of
invariant_of-self c =
    let w = c.args.self.now in
    record {
      holds = (let now = queue-at w c.args.rec.of c.from.result c.index_mut.result.now (lifo-may w c.args.rec c.requires.next c.requires.says.0 c.requires.says.1 c.requires.says.2 c.args.entry c.requires.says.3).2.queue.object c.from.ensures c.index_mut.ensures.value in
          lifo-again w c.add.new.self c.args.rec c.add.ensures.gains c.requires.next c.requires.says.0 c.requires.says.1 c.requires.says.2 c.args.entry c.token_of.result c.from.result c.index_mut.result.now c.post_front.new.self c.requires.says.3 c.from.ensures now c.token_of.ensures.entry c.post_front.ensures.ring c.post_front.ensures.line);
      stops = stop-stays w.stop w.book c.add.new.self c.add.ensures.gains.stays w.stops;
    }

pub returns : goal.returns
returns c = record { sys_is = refl; by_is = refl; stop_is = refl; gains = c.add.ensures.gains }
