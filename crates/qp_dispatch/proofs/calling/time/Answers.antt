use Rattle.std.proofs.Common.{subst}
use Rattle.qp_calls.specs.Groups.{CallReturns}
use Rattle.std.proofs.Common.{None}
use Rattle.qp_dispatch.specs.Lasts.{names_at}
use Rattle.qp_dispatch.proofs.Naming.{arm-timer, disarm-timer, owns-timer, rearm-timer}
use Rattle.qp_dispatch.proofs.CallLemmas.{arm-call, disarm-call, rearm-call, other-timing}
use Rattle.qp_dispatch.proofs.calling.time.Goals as goal

pub timer-requires : goal.timer-requires
timer-requires g c = (arm-timer c.args.sys.now c.args.me c.args.work.now.entry c.args.plain.now c.requires.may c.in-Arm.place c.in-Arm.ticks c.in-Arm.interval c.in-Arm.is).few

pub arm-requires-clause-owns : goal.arm-requires-clause-owns
arm-requires-clause-owns g c =
    owns-timer c.args.sys.now c.args.me c.timer.result c.in-Arm.place _ c.requires.of c.requires.mine c.timer.ensures
    (arm-timer c.args.sys.now c.args.me c.args.work.now.entry c.args.plain.now c.requires.may c.in-Arm.place c.in-Arm.ticks c.in-Arm.interval c.in-Arm.is)

pub timer-requires-in-Rearm : goal.timer-requires-in-Rearm
timer-requires-in-Rearm g c = (rearm-timer c.args.sys.now c.args.me c.args.work.now.entry c.args.plain.now c.requires.may c.in-Rearm.place c.in-Rearm.ticks c.in-Rearm.is).few

pub rearm-requires-clause-owns : goal.rearm-requires-clause-owns
rearm-requires-clause-owns g c =
    owns-timer c.args.sys.now c.args.me c.timer-in-Rearm.result c.in-Rearm.place _ c.requires.of c.requires.mine c.timer-in-Rearm.ensures
    (rearm-timer c.args.sys.now c.args.me c.args.work.now.entry c.args.plain.now c.requires.may c.in-Rearm.place c.in-Rearm.ticks c.in-Rearm.is)

pub timer-requires-in-Disarm : goal.timer-requires-in-Disarm
timer-requires-in-Disarm g c = (disarm-timer c.args.sys.now c.args.me c.args.work.now.entry c.args.plain.now c.requires.may c.in-Disarm.place c.in-Disarm.is).few

pub disarm-requires-clause-owns : goal.disarm-requires-clause-owns
disarm-requires-clause-owns g c =
    owns-timer c.args.sys.now c.args.me c.timer-in-Disarm.result c.in-Disarm.place _ c.requires.of c.requires.mine c.timer-in-Disarm.ensures
    (disarm-timer c.args.sys.now c.args.me c.args.work.now.entry c.args.plain.now c.requires.may c.in-Disarm.place c.in-Disarm.is)

pub returns-in-Arm : goal.returns-in-Arm
returns-in-Arm g c = λ x deed timing.
    let lane = g.O.Ops.lane in
    subst (λ y. CallReturns None y (lane c.args.ops.now) (lane c.arm.new.ops) c.arm.result)
    (arm-call (names_at c.args.me c.args.lasting.now c.args.work.now) c.args.plain.now c.in-Arm.place c.in-Arm.ticks c.in-Arm.interval c.bits-n.result c.bits-i.result _ x c.in-Arm.is
    c.surroundings-env.ensures c.bits-n.ensures c.bits-i.ensures deed) c.arm.ensures

pub returns-in-Rearm : goal.returns-in-Rearm
returns-in-Rearm g c = λ x deed timing.
    let lane = g.O.Ops.lane in
    subst (λ y. CallReturns None y (lane c.args.ops.now) (lane c.rearm.new.ops) c.rearm.result)
    (rearm-call (names_at c.args.me c.args.lasting.now c.args.work.now) c.args.plain.now c.in-Rearm.place c.in-Rearm.ticks c.bits-n-in-Rearm.result _ x c.in-Rearm.is
    c.surroundings.ensures c.bits-n-in-Rearm.ensures deed) c.rearm.ensures

pub returns-in-Disarm : goal.returns-in-Disarm
returns-in-Disarm g c = λ x deed timing.
    let lane = g.O.Ops.lane in
    subst (λ y. CallReturns None y (lane c.args.ops.now) (lane c.disarm.new.ops) c.disarm.result)
    (disarm-call (names_at c.args.me c.args.lasting.now c.args.work.now) c.args.plain.now c.in-Disarm.place x c.in-Disarm.is deed) c.disarm.ensures

pub returns-in_default : goal.returns-in_default
returns-in_default g c = λ x deed timing. other-timing _ c.args.plain.now x deed timing c.in_default.not-Arm c.in_default.not-Rearm c.in_default.not-Disarm
