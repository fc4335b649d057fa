use Rattle.std.proofs.Common.{refl}
use Rattle.qp_calls.specs.Clauses.{event_of}
use Rattle.qp_calls.proofs.FirstPool.{first_pool-here, fits_first, pool_of_sound}
use Rattle.qp_calls.proofs.Posting.{given-stands, made-given, unmade-short}
use Rattle.qp_calls.proofs.entries.make.Goals as goal

pub pool_for-pool-requires-clause-there : goal.pool_for-pool-requires-clause-there
pool_for-pool-requires-clause-there g c =
    let has = pool_of_sound c.args.sys.now (event_of c.args.ev.now) c.requires.sound c.requires.event c.requires.pooled in
    (has.number, rw c.len.ensures.value has.first)

pub give-requires-clause-fits : goal.give-requires-clause-fits
give-requires-clause-fits g c =
    rw c.requires.of
    (fits_first c.args.sys.now c.pool_for-pool.result (event_of c.args.ev.now) c.requires.event
    (first_pool-here c.args.sys.now c.args.sys.now _ _ _ refl c.len.ensures.value c.pool_for-pool.ensures))

pub first-requires-clause-stands : goal.first-requires-clause-stands
first-requires-clause-stands g c =
    let fits = fits_first c.args.sys.now c.pool_for-pool.result (event_of c.args.ev.now) c.requires.event
    (first_pool-here c.args.sys.now c.args.sys.now _ _ _ refl c.len.ensures.value c.pool_for-pool.ensures) in
    given-stands c.pool_for-pool.result c.args.reserve (event_of c.args.ev.now) c.in-Given.f _ _ fits.some c.in-Given.ensures.gives

pub returns-in-Short : goal.returns-in-Short
returns-in-Short g c =
    unmade-short c.args.reserve c.pool_for-pool.result c.in-Short.n c.in-Short.free (event_of c.args.ev.now) c.refused.result _ _
    (first_pool-here _ c.args.sys.now _ _ _ c.requires.of c.len.ensures.value c.pool_for-pool.ensures) c.in-Short.ensures.gives c.refused.ensures

pub returns-in-Given : goal.returns-in-Given
returns-in-Given g c =
    let fits = fits_first c.args.sys.now c.pool_for-pool.result (event_of c.args.ev.now) c.requires.event
    (first_pool-here c.args.sys.now c.args.sys.now _ _ _ refl c.len.ensures.value c.pool_for-pool.ensures) in
    made-given c.pool_for-pool.result c.args.reserve (event_of c.args.ev.now) c.in-Given.f c.first.result _ _ _ fits.some
    (first_pool-here _ c.args.sys.now _ _ _ c.requires.of c.len.ensures.value c.pool_for-pool.ensures) c.in-Given.ensures.gives c.first.ensures
