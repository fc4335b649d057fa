use Rattle.std.proofs.Common.{rules, ◌<◌, sym, ◌∙◌}
use Rattle.qp_dispatch.proofs.Singles.{fit-parts, number-mine, rearm-none, rearm-refused, rearm-some}
use Rattle.qp_dispatch.proofs.timing.rearm.Goals as goal

pub returns-then-not-fits : goal.returns-then-not-fits
returns-then-not-fits g c =
    let lane = g.O.Ops.lane in
    rearm-refused c.args.t c.args.place (lane c.args.ops.now) (lane c.room.new.self) (lane c.refuse.new.ops) (number-mine c.args.t c.args.me c.args.place (lane c.args.ops.now) c.requires.mine c.requires.number) c.room.ensures.stays
    c.args.ticks (sym c.fits.ensures ∙ c.if-not-fits.true) c.refuse.ensures

pub overflow_cast-ticks : goal.overflow_cast-ticks
overflow_cast-ticks g c = let lt : c.args.ticks < 65536 = (fit-parts c.args.ticks 0 (sym c.fits.ensures ∙ c.if-not-fits.false)).ticks_few in search (rules, lt)

pub rearm-requires-clause-some : goal.rearm-requires-clause-some
rearm-requires-clause-some g c = (fit-parts c.args.ticks 0 (sym c.fits.ensures ∙ c.if-not-fits.false)).some

pub returns-then-rearm-eq0 : goal.returns-then-rearm-eq0
returns-then-rearm-eq0 g c =
    let lane = g.O.Ops.lane in
    rearm-none c.args.t c.args.place (lane c.args.ops.now) (lane c.room.new.self) (lane c.rearm.new.self) (number-mine c.args.t c.args.me c.args.place (lane c.args.ops.now) c.requires.mine c.requires.number) c.room.ensures.stays
    c.args.ticks c.rearm.result (sym c.fits.ensures ∙ c.if-not-fits.false) c.if-rearm-eq0.true c.rearm.ensures.rearms

pub returns : goal.returns
returns g c =
    let lane = g.O.Ops.lane in
    rearm-some c.args.t c.args.place (lane c.args.ops.now) (lane c.room.new.self) (lane c.rearm.new.self) (number-mine c.args.t c.args.me c.args.place (lane c.args.ops.now) c.requires.mine c.requires.number) c.room.ensures.stays
    c.args.ticks c.rearm.result (sym c.fits.ensures ∙ c.if-not-fits.false) c.if-rearm-eq0.false c.rearm.ensures.rearms
