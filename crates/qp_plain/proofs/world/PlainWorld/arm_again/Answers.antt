use Rattle.std.proofs.Common.{refl, ◌∙◌, ap, subst, arith}
use Rattle.qp_calls_log.specs.Lane.{is_plain}
use Rattle.qp_plain.specs.Repeat.{FitsTimer}
use Rattle.qp_plain.proofs.Calling.{stop-stays, timer-at}
use Rattle.qp_plain.proofs.Holding.{timer-in}
use Rattle.qp_plain.proofs.RepeatFacts.{arm-on, arm-next}
use Rattle.qp_plain.proofs.RepeatHolds.{timer-again}
use Rattle.qp_plain.proofs.TimerTable.{there, few}
use Rattle.qp_plain.proofs.world.PlainWorld.arm_again.Goals as goal

pub overflow_sub-t : goal.overflow_sub-t
overflow_sub-t c =
    let w = c.args.self.now in
    let some = timer-in w.sys.now c.args.t (arm-on w c.args.rec c.requires.next c.args.t c.requires.says.0 c.args.ticks c.args.interval c.requires.says.1).timer in
    omega (arith, some.0)

pub overflow_cast-ticks : goal.overflow_cast-ticks
overflow_cast-ticks c = record { fits = (subst FitsTimer c.requires.says.1 c.requires.next.fits).0 }

pub overflow_cast-interval : goal.overflow_cast-interval
overflow_cast-interval c = record { fits = (subst FitsTimer c.requires.says.1 c.requires.next.fits).1 }

pub index_mut-requires : goal.index_mut-requires
index_mut-requires c =
    let w = c.args.self.now in
    let lt = there w c.args.t c.args.t (arm-on w c.args.rec c.requires.next c.args.t c.requires.says.0 c.args.ticks c.args.interval c.requires.says.1).timer refl in
    omega (arith, lt, w.timers.ok.0)

pub arm-requires : goal.arm-requires
arm-requires c =
    let w = c.args.self.now in
    let on = arm-on w c.args.rec c.requires.next c.args.t c.requires.says.0 c.args.ticks c.args.interval c.requires.says.1 in
    few w c.args.t c.index_mut.result.now on.timer (timer-at w c.args.t c.args.t c.index_mut.result.now on.timer refl c.index_mut.ensures.value)

pub add-requires-clause-plain : goal.add-requires-clause-plain
add-requires-clause-plain c = ap is_plain c.requires.says.1

pub invariant_of-self : goal.invariant_of-self
invariant_of-self c =
    let w = c.args.self.now in
    record {
      holds = (let on = arm-on w c.args.rec c.requires.next c.args.t c.requires.says.0 c.args.ticks c.args.interval c.requires.says.1 in
          let now = timer-at w c.args.t c.args.t c.index_mut.result.now on.timer refl c.index_mut.ensures.value in
          timer-again w c.add.new.self c.args.rec c.add.ensures.gains c.requires.next c.args.t c.args.t on c.index_mut.result.now c.arm.new.self refl now
          (c.arm.ensures ∙ arm-next c.index_mut.result.now _ c.args.t c.requires.says.0 c.args.ticks c.args.interval c.requires.says.1));
      stops = stop-stays w.stop w.book c.add.new.self c.add.ensures.gains.stays w.stops;
    }

pub returns : goal.returns
returns c = record { sys_is = refl; by_is = refl; stop_is = refl; gains = c.add.ensures.gains }
