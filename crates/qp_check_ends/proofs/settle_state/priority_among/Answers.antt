use Rattle.qp_check_ends.proofs.PlaceLemmas.{objects-is}
use Rattle.qp_check_ends.proofs.settle_state.priority_among.Goals as goal

pub returns-in-Some-clause-first : goal.returns-in-Some-clause-first
returns-in-Some-clause-first c = objects-is c.args.objects.now c.args.at c.in-Some.d.now _ c.in-Some.ensures.lookup.0 c.in-Some.ensures.lookup.1
