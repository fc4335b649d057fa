use Rattle.std.proofs.Common.{◌<◌, arith}
use Rattle.std.proofs.lemmas.Bool.Decides.{nat_tests}
use Rattle.qp_calls.specs.Clauses.{event_of}
use Rattle.qp_shared_tests.proofs.PoolLemmas.{fits-first}
use Rattle.qp_shared_tests.proofs.events.fits_first.Goals as goal

pub returns : goal.returns
returns c = λ some_is.
    let some : 0 < c.first_size-room.result = grind (arith, nat_tests) in
    let a = c.if-count-from.false in
    let b = c.from.ensures in
    let e = c.len-count.ensures.value in
    fits-first c.args.sys.now (event_of c.args.ev.now) c.first_size-room.result c.requires c.first_size-room.ensures (omega (arith, a, b, e)) some
