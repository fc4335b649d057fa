use Rattle.std.proofs.Common.{refl, ap, arith}
use Rattle.qp_model.specs.Record.{item_of}
use Rattle.qp_calls_log.specs.Lane.{is_plain}
use Rattle.qp_plain.proofs.Calling.{stop-stays, signal-at}
use Rattle.qp_plain.proofs.Holding.{signal-in}
use Rattle.qp_plain.proofs.RepeatFacts.{sub-may, sub-bit}
use Rattle.qp_plain.proofs.RepeatHolds.{sub-again}
use Rattle.qp_plain.proofs.SignalTable.{there, few}
use Rattle.qp_plain.proofs.world.PlainWorld.subscribe_again.Goals as goal

pub overflow_sub-sig : goal.overflow_sub-sig
overflow_sub-sig c =
    let w = c.args.self.now in
    let some = signal-in w.sys.now c.args.sig (sub-may w c.args.rec c.requires.next c.args.sig c.requires.says.0 c.requires.says.1).0.signal in
    omega (arith, some.0)

pub index_mut-requires : goal.index_mut-requires
index_mut-requires c =
    let w = c.args.self.now in
    let lt = there w c.args.sig c.args.sig (sub-may w c.args.rec c.requires.next c.args.sig c.requires.says.0 c.requires.says.1).0.signal refl in
    omega (arith, lt, w.signals.ok.0)

pub put-requires-clause-some : goal.put-requires-clause-some
unfolding item_of
put-requires-clause-some c = let w = c.args.self.now in (w.holds.limits.objects _ (sub-may w c.args.rec c.requires.next c.args.sig c.requires.says.0 c.requires.says.1).2).0

pub put-requires-clause-within : goal.put-requires-clause-within
unfolding item_of
put-requires-clause-within c = let w = c.args.self.now in (w.holds.limits.objects _ (sub-may w c.args.rec c.requires.next c.args.sig c.requires.says.0 c.requires.says.1).2).1

pub put-requires-clause-out : goal.put-requires-clause-out
unfolding item_of
put-requires-clause-out c =
    let w = c.args.self.now in
    let may = sub-may w c.args.rec c.requires.next c.args.sig c.requires.says.0 c.requires.says.1 in
    sub-bit w c.args.sig _ c.index_mut.result.now may.2 may.1 (signal-at w c.args.sig c.args.sig c.index_mut.result.now may.0.signal refl c.index_mut.ensures.value)

pub put-requires-clause-few : goal.put-requires-clause-few
put-requires-clause-few c =
    let w = c.args.self.now in
    let h = (sub-may w c.args.rec c.requires.next c.args.sig c.requires.says.0 c.requires.says.1).0.signal in
    few w c.args.sig c.index_mut.result.now h (signal-at w c.args.sig c.args.sig c.index_mut.result.now h refl c.index_mut.ensures.value)

pub add-requires-clause-plain : goal.add-requires-clause-plain
add-requires-clause-plain c = ap is_plain c.requires.says.1

pub invariant_of-self : goal.invariant_of-self
unfolding item_of
invariant_of-self c =
    let w = c.args.self.now in
    record {
      holds = (let now = signal-at w c.args.sig c.args.sig c.index_mut.result.now (sub-may w c.args.rec c.requires.next c.args.sig c.requires.says.0 c.requires.says.1).0.signal refl c.index_mut.ensures.value in
          sub-again w c.add.new.self c.args.rec c.add.ensures.gains c.requires.next c.args.sig c.requires.says.0 c.args.sig c.index_mut.result.now c.put.new.self c.requires.says.1 refl now c.put.ensures.ops c.put.ensures.set);
      stops = stop-stays w.stop w.book c.add.new.self c.add.ensures.gains.stays w.stops;
    }

pub returns : goal.returns
returns c = record { sys_is = refl; by_is = refl; stop_is = refl; gains = c.add.ensures.gains }
