use Rattle.std.proofs.Common.{refl, ap, arith}
use Rattle.qp_calls_log.specs.Lane.{is_plain}
use Rattle.qp_plain.proofs.Calling.{stop-stays, queue-at}
use Rattle.qp_plain.proofs.QueueTable.{there, few}
use Rattle.qp_plain.proofs.RepeatFacts.{post-may, entry-fits, room-now}
use Rattle.qp_plain.proofs.RepeatHolds.{post-again}
use Rattle.qp_plain.proofs.world.PlainWorld.post_again.Goals as goal

pub index_mut-requires : goal.index_mut-requires
index_mut-requires c =
    let w = c.args.self.now in
    let lt = there w c.args.a c.args.a (post-may w c.args.rec c.requires.next c.args.a c.requires.says.0 c.requires.says.1 c.requires.says.2 c.args.entry c.requires.says.3).2.queue.object refl in
    omega (arith, lt, w.queues.ok.0)

pub token_of-requires : goal.token_of-requires
token_of-requires c = let w = c.args.self.now in entry-fits w c.args.entry c.requires.sound (post-may w c.args.rec c.requires.next c.args.a c.requires.says.0 c.requires.says.1 c.requires.says.2 c.args.entry c.requires.says.3).2.owned.good

pub post-requires-clause-room : goal.post-requires-clause-room
post-requires-clause-room c = let w = c.args.self.now in let now = queue-at w c.args.a c.args.a c.index_mut.result.now (post-may w c.args.rec c.requires.next c.args.a c.requires.says.0 c.requires.says.1 c.requires.says.2 c.args.entry c.requires.says.3).2.queue.object refl c.index_mut.ensures.value in room-now w c.args.a c.index_mut.result.now now (post-may w c.args.rec c.requires.next c.args.a c.requires.says.0 c.requires.says.1 c.requires.says.2 c.args.entry c.requires.says.3).2.room

pub post-requires-clause-few : goal.post-requires-clause-few
post-requires-clause-few c = let w = c.args.self.now in let now = queue-at w c.args.a c.args.a c.index_mut.result.now (post-may w c.args.rec c.requires.next c.args.a c.requires.says.0 c.requires.says.1 c.requires.says.2 c.args.entry c.requires.says.3).2.queue.object refl c.index_mut.ensures.value in let le = few w c.args.a c.index_mut.result.now (post-may w c.args.rec c.requires.next c.args.a c.requires.says.0 c.requires.says.1 c.requires.says.2 c.args.entry c.requires.says.3).2.queue.object now in omega (arith, le)

pub post-requires-clause-token : goal.post-requires-clause-token
post-requires-clause-token c = c.token_of.ensures.token

pub add-requires-clause-plain : goal.add-requires-clause-plain
add-requires-clause-plain c = ap is_plain c.requires.says.3

pub invariant_of-self : goal.invariant_of-self
invariant_of-self c =
    let w = c.args.self.now in
    record {
      holds = (let now = queue-at w c.args.a c.args.a c.index_mut.result.now (post-may w c.args.rec c.requires.next c.args.a c.requires.says.0 c.requires.says.1 c.requires.says.2 c.args.entry c.requires.says.3).2.queue.object refl c.index_mut.ensures.value in
          post-again w c.add.new.self c.args.rec c.add.ensures.gains c.requires.next c.args.a c.requires.says.0 c.requires.says.1 c.requires.says.2 c.args.entry c.token_of.result c.args.a c.index_mut.result.now c.post.new.self c.requires.says.3 refl now c.token_of.ensures.entry c.post.ensures.ring c.post.ensures.line);
      stops = stop-stays w.stop w.book c.add.new.self c.add.ensures.gains.stays w.stops;
    }

pub returns : goal.returns
returns c = record { sys_is = refl; by_is = refl; stop_is = refl; gains = c.add.ensures.gains }
