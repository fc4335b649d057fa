use Rattle.std.proofs.Common.{refl, arith}
use Rattle.qp_plain.proofs.Calling.{stop-stays, timer-at}
use Rattle.qp_plain.proofs.Holding.{timer-in}
use Rattle.qp_plain.proofs.RepeatFacts.{tick-on, tick-next, tick-plain}
use Rattle.qp_plain.proofs.RepeatHolds.{timer-again}
use Rattle.qp_plain.proofs.TimerTable.{there, few}
use Rattle.qp_plain.proofs.world.PlainWorld.tick_again.Goals as goal

pub overflow_sub-t : goal.overflow_sub-t
overflow_sub-t c =
    let w = c.args.self.now in
    let some = timer-in w.sys.now c.args.t (tick-on w _ c.args.t _ c.requires.says c.requires.next.may).timer in
    omega (arith, some.0)

pub index_mut-requires : goal.index_mut-requires
index_mut-requires c =
    let w = c.args.self.now in
    let lt = there w c.args.t c.args.t (tick-on w _ c.args.t _ c.requires.says c.requires.next.may).timer refl in
    omega (arith, lt, w.timers.ok.0)

pub tick-requires : goal.tick-requires
tick-requires c =
    let w = c.args.self.now in
    let on = tick-on w _ c.args.t _ c.requires.says c.requires.next.may in
    few w c.args.t c.index_mut.result.now on.timer (timer-at w c.args.t c.args.t c.index_mut.result.now on.timer refl c.index_mut.ensures.value)

pub add-requires-clause-plain : goal.add-requires-clause-plain
add-requires-clause-plain c = tick-plain c.args.t _ c.requires.says

pub invariant_of-self : goal.invariant_of-self
invariant_of-self c =
    let w = c.args.self.now in
    record {
      holds = (let on = tick-on w _ c.args.t _ c.requires.says c.requires.next.may in
          let now = timer-at w c.args.t c.args.t c.index_mut.result.now on.timer refl c.index_mut.ensures.value in
          timer-again w c.add.new.self c.args.rec c.add.ensures.gains c.requires.next c.args.t c.args.t on c.index_mut.result.now c.tick.new.self refl now
          (tick-next w _ c.args.t _ c.index_mut.result.now c.tick.new.self c.tick.result c.requires.says c.requires.next.may now c.tick.ensures));
      stops = stop-stays w.stop w.book c.add.new.self c.add.ensures.gains.stays w.stops;
    }

pub returns : goal.returns
returns c = record { sys_is = refl; by_is = refl; stop_is = refl; gains = c.add.ensures.gains }
