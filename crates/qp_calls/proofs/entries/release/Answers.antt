use Rattle.qp_calls.proofs.Releasing.{last-stands, release-kept, release-last}
use Rattle.qp_calls.proofs.entries.release.Goals as goal

pub back-requires-clause-stands : goal.back-requires-clause-stands
back-requires-clause-stands g c =
    let e = c.in-Last.ensures in
    last-stands c.args.h c.in-Last.f _ _ c.requires.stands.0 e.0 e.1 e.2 e.3

pub returns-in-Kept : goal.returns-in-Kept
returns-in-Kept g c =
    let e = c.in-Kept.ensures in
    release-kept c.args.h e.0 _ _ c.requires.stands.0 e.1

pub returns-in-Last : goal.returns-in-Last
returns-in-Last g c =
    let e = c.in-Last.ensures in
    release-last c.args.h c.in-Last.f _ _ _ c.requires.stands.0 e.0 e.1 e.2 c.back.ensures
