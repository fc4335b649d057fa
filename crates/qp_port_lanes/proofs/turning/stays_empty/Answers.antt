use Rattle.std.proofs.Common.{◌≡◌, ◌+◌, false, true, nat_le, refl}
use Rattle.qp_kernel_turns.proofs.Lanes.{goes-none}
use Rattle.qp_port_lanes.proofs.Resting.{object-in, stays}
use Rattle.qp_port_lanes.proofs.turning.stays_empty.Goals as goal

pub counts-now-requires : goal.counts-now-requires
counts-now-requires g c =
    let h = c.requires.knows in
    record { object = object-in c.args.sys.now h.d h.chart c.args.home.now (g.O.Ops.lane c.args.ops.now) (g.O.Ops.lane c.args.ops.now) h.at refl }

pub returns : goal.returns
returns g c =
    let lane = g.O.Ops.lane in
    rw (c.from.ensures, c.from-2.ensures, c.from-3.ensures)
    (stays c.args.sys.now c.requires.sound c.args.budget c.args.home.now (lane c.args.ops.now) c.requires.knows (lane c.counts-now.new.self) c.counts-now.result c.counts-now.ensures c.if-not-home.false
    (nat_le (c.counts-now.result.f + c.counts-now.result.l) c.counts-now.result.m) refl)

pub returns-then-not-home : goal.returns-then-not-home
returns-then-not-home g c =
    record {
      home = c.requires.knows;
      goes = goes-none false (g.O.Ops.lane c.args.ops.now);
      told = refl;
      spare = refl;
      entry = λ (on : c.args.home.now.looked ≡ true). let off = c.if-not-home.true in absurd (cc);
    }
