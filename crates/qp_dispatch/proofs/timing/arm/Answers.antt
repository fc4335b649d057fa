use Rattle.std.proofs.Common.{rules, ◌<◌, sym, ◌∙◌}
use Rattle.qp_dispatch.proofs.Singles.{arm-armed, arm-done, arm-refused, fit-parts, number-mine}
use Rattle.qp_dispatch.proofs.timing.arm.Goals as goal

pub returns-then-not-fits : goal.returns-then-not-fits
returns-then-not-fits g c =
    let lane = g.O.Ops.lane in
    arm-refused c.args.t c.args.place (lane c.args.ops.now) (lane c.room.new.self) (lane c.refuse.new.ops) (number-mine c.args.t c.args.me c.args.place (lane c.args.ops.now) c.requires.mine c.requires.number) c.room.ensures.stays
    c.args.ticks c.args.interval (sym c.fits.ensures ∙ c.if-not-fits.true) c.refuse.ensures

pub overflow_cast-ticks : goal.overflow_cast-ticks
overflow_cast-ticks g c = let lt : c.args.ticks < 65536 = (fit-parts c.args.ticks c.args.interval (sym c.fits.ensures ∙ c.if-not-fits.false)).ticks_few in search (rules, lt)

pub overflow_cast-interval : goal.overflow_cast-interval
overflow_cast-interval g c = let lt : c.args.interval < 65536 = (fit-parts c.args.ticks c.args.interval (sym c.fits.ensures ∙ c.if-not-fits.false)).interval_few in search (rules, lt)

pub arm-requires-clause-some : goal.arm-requires-clause-some
arm-requires-clause-some g c = (fit-parts c.args.ticks c.args.interval (sym c.fits.ensures ∙ c.if-not-fits.false)).some

pub returns-in-Done : goal.returns-in-Done
returns-in-Done g c =
    let lane = g.O.Ops.lane in
    arm-done c.args.t c.args.place (lane c.args.ops.now) (lane c.room.new.self) (lane c.arm.new.self) (number-mine c.args.t c.args.me c.args.place (lane c.args.ops.now) c.requires.mine c.requires.number) c.room.ensures.stays
    c.args.ticks c.args.interval (sym c.fits.ensures ∙ c.if-not-fits.false) c.in-Done.ensures.arms

pub returns-in-Armed : goal.returns-in-Armed
returns-in-Armed g c =
    let lane = g.O.Ops.lane in
    arm-armed c.args.t c.args.place (lane c.args.ops.now) (lane c.room.new.self) (lane c.arm.new.self) (number-mine c.args.t c.args.me c.args.place (lane c.args.ops.now) c.requires.mine c.requires.number) c.room.ensures.stays
    c.args.ticks c.args.interval c.in-Armed.n c.in-Armed.c (sym c.fits.ensures ∙ c.if-not-fits.false) c.in-Armed.ensures.arms
