use Rattle.std.proofs.Common.{refl, ap, arith}
use Rattle.qp_model.specs.Record.{item_of}
use Rattle.qp_calls_log.specs.Lane.{is_plain}
use Rattle.qp_plain.proofs.Calling.{stop-stays, signal-at}
use Rattle.qp_plain.proofs.Holding.{signal-in}
use Rattle.qp_plain.proofs.RepeatFacts.{unsub-may, unsub-bit, unsub-in}
use Rattle.qp_plain.proofs.RepeatHolds.{unsub-again}
use Rattle.qp_plain.proofs.SignalTable.{there, few}
use Rattle.qp_plain.proofs.world.PlainWorld.unsubscribe_again.Goals as goal

pub overflow_sub-sig : goal.overflow_sub-sig
overflow_sub-sig c =
    let w = c.args.self.now in
    let some = signal-in w.sys.now c.args.sig (unsub-may w c.args.rec c.requires.next c.args.sig c.requires.says.0 c.requires.says.1).0.signal in
    omega (arith, some.0)

pub index_mut-requires : goal.index_mut-requires
index_mut-requires c =
    let w = c.args.self.now in
    let lt = there w c.args.sig c.args.sig (unsub-may w c.args.rec c.requires.next c.args.sig c.requires.says.0 c.requires.says.1).0.signal refl in
    omega (arith, lt, w.signals.ok.0)

pub take-requires-clause-some : goal.take-requires-clause-some
unfolding item_of
take-requires-clause-some c = let w = c.args.self.now in let may = unsub-may w c.args.rec c.requires.next c.args.sig c.requires.says.0 c.requires.says.1 in (unsub-in w c.args.sig _ may.0.signal may.1).0

pub take-requires-clause-within : goal.take-requires-clause-within
unfolding item_of
take-requires-clause-within c = let w = c.args.self.now in let may = unsub-may w c.args.rec c.requires.next c.args.sig c.requires.says.0 c.requires.says.1 in (unsub-in w c.args.sig _ may.0.signal may.1).1

pub take-requires-clause-present : goal.take-requires-clause-present
unfolding item_of
take-requires-clause-present c =
    let w = c.args.self.now in
    let may = unsub-may w c.args.rec c.requires.next c.args.sig c.requires.says.0 c.requires.says.1 in
    unsub-bit w c.args.sig _ c.index_mut.result.now may.0.signal may.1 (signal-at w c.args.sig c.args.sig c.index_mut.result.now may.0.signal refl c.index_mut.ensures.value)

pub take-requires-clause-few : goal.take-requires-clause-few
take-requires-clause-few c =
    let w = c.args.self.now in
    let h = (unsub-may w c.args.rec c.requires.next c.args.sig c.requires.says.0 c.requires.says.1).0.signal in
    few w c.args.sig c.index_mut.result.now h (signal-at w c.args.sig c.args.sig c.index_mut.result.now h refl c.index_mut.ensures.value)

pub add-requires-clause-plain : goal.add-requires-clause-plain
add-requires-clause-plain c = ap is_plain c.requires.says.1

pub invariant_of-self : goal.invariant_of-self
unfolding item_of
invariant_of-self c =
    let w = c.args.self.now in
    record {
      holds = (let now = signal-at w c.args.sig c.args.sig c.index_mut.result.now (unsub-may w c.args.rec c.requires.next c.args.sig c.requires.says.0 c.requires.says.1).0.signal refl c.index_mut.ensures.value in
          unsub-again w c.add.new.self c.args.rec c.add.ensures.gains c.requires.next c.args.sig c.requires.says.0 c.args.sig c.index_mut.result.now c.take.new.self c.requires.says.1 refl now c.take.ensures.ops c.take.ensures.set);
      stops = stop-stays w.stop w.book c.add.new.self c.add.ensures.gains.stays w.stops;
    }

pub returns : goal.returns
returns c = record { sys_is = refl; by_is = refl; stop_is = refl; gains = c.add.ensures.gains }
