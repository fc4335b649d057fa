use Rattle.std.proofs.Common.{refl, ap, arith}
use Rattle.qp_model.specs.Record.{item_of}
use Rattle.qp_calls_log.specs.Lane.{is_plain}
use Rattle.qp_plain.proofs.Calling.{stop-stays, queue-at}
use Rattle.qp_plain.proofs.QueueTable.{there, few}
use Rattle.qp_plain.proofs.RepeatFacts.{take-may}
use Rattle.qp_plain.proofs.RepeatHolds.{take-again}
use Rattle.qp_plain.proofs.world.PlainWorld.take_again.Goals as goal

pub index_mut-requires : goal.index_mut-requires
unfolding item_of
index_mut-requires c =
    let w = c.args.self.now in
    let lt = there w c.args.rec.of c.from.result (take-may w c.args.rec c.requires.next c.requires.says.0 c.requires.says.1 c.requires.says.2 c.requires.says.3 c.requires.says.4).2.queue.object c.from.ensures in
    omega (arith, lt, w.queues.ok.0)

pub take-requires : goal.take-requires
unfolding item_of
take-requires c = let w = c.args.self.now in let now = queue-at w c.args.rec.of c.from.result c.index_mut.result.now (take-may w c.args.rec c.requires.next c.requires.says.0 c.requires.says.1 c.requires.says.2 c.requires.says.3 c.requires.says.4).2.queue.object c.from.ensures c.index_mut.ensures.value in let le = few w c.args.rec.of c.index_mut.result.now (take-may w c.args.rec c.requires.next c.requires.says.0 c.requires.says.1 c.requires.says.2 c.requires.says.3 c.requires.says.4).2.queue.object now in record { few = omega (arith, le) }

pub add-requires-clause-plain : goal.add-requires-clause-plain
add-requires-clause-plain c = ap is_plain c.requires.says.4

pub invariant_of-self : goal.invariant_of-self
unfolding item_of
invariant_of-self c =
    let w = c.args.self.now in
    record {
      holds = (let now = queue-at w c.args.rec.of c.from.result c.index_mut.result.now (take-may w c.args.rec c.requires.next c.requires.says.0 c.requires.says.1 c.requires.says.2 c.requires.says.3 c.requires.says.4).2.queue.object c.from.ensures c.index_mut.ensures.value in
          take-again w c.add.new.self c.args.rec c.add.ensures.gains c.requires.next c.requires.says.0 c.requires.says.1 c.requires.says.2 c.requires.says.3 c.take.result c.from.result c.index_mut.result.now c.take.new.self c.requires.says.4 c.from.ensures now c.take.ensures.ring c.take.ensures.takes);
      stops = stop-stays w.stop w.book c.add.new.self c.add.ensures.gains.stays w.stops;
    }

pub returns : goal.returns
returns c = record { sys_is = refl; by_is = refl; stop_is = refl; gains = c.add.ensures.gains }
