use Rattle.std.proofs.Common.{arith}
use Rattle.qp_dispatch.proofs.Singles.{may-refuse, refused}
use Rattle.qp_dispatch.proofs.timing.refuse.Goals as goal

pub note-requires : goal.note-requires
note-requires g c = may-refuse c.args.me c.args.t c.args.ticks c.args.interval c.bad_ticks.result _ c.bad_ticks.ensures c.requires.values (omega (arith, c.requires.room))

pub returns : goal.returns
returns g c =
    refused c.args.me c.args.t c.args.ticks c.args.interval c.bad_ticks.result _ _ c.bad_ticks.ensures c.requires.mine (omega (arith, c.requires.room)) c.note.ensures.grows c.note.ensures.spare
