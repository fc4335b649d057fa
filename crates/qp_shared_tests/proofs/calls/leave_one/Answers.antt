use Rattle.std.proofs.Common.{arith}
use Rattle.qp_calls.specs.Clauses.{event_of}
use Rattle.qp_calls.proofs.Posting.{given-stands}
use Rattle.qp_shared_tests.proofs.calls.leave_one.Goals as goal

pub leave_fresh-requires : goal.leave_fresh-requires
leave_fresh-requires g c = given-stands 1 _ (event_of c.args.ev.now) c.in-Given.fresh _ _ (omega arith) c.in-Given.ensures.gives
