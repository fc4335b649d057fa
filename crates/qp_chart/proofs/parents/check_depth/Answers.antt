use Rattle.std.proofs.Common.{◌≡◌, ◌+◌, ◌<◌, false, Some, None, length, get_or, sym, arith, lt-ltb}
use Rattle.std.proofs.lemmas.Bool.Decides.{nat_tests}
use Rattle.qp_chart.specs.Parents.{depth_at, is_deep, up_in}
use Rattle.qp_chart.proofs.ParentsLemmas.{get_or-itself}
use Rattle.qp_chart_names.proofs.FaultLemmas.{passed-one, passed-all, found-at, fault_if-true, fault_if-false}
use Rattle.qp_chart.proofs.parents.check_depth.Goals as goal

pub returns-then-depth-gt-DEPTH-clause-fault : goal.returns-then-depth-gt-DEPTH-clause-fault
unfolding depth_at
returns-then-depth-gt-DEPTH-clause-fault c =
    let parents = c.args.parents.now in
    let deep : 6 < length (up_in parents (Some (c.loop-i.i + 1))) = rw c.depth.ensures at c.if-depth-gt-DEPTH.true in
    found-at (depth_at parents) parents c.loop-i.i (get_or parents c.loop-i.i None) _ c.loop-i.invariant c.loop-i-test.true (get_or-itself parents c.loop-i.i None)
    (fault_if-true _ _ _ _ (sym (lt-ltb _ _ deep)) c.below.ensures)

pub loop-i-preserved : goal.loop-i-preserved
unfolding depth_at
loop-i-preserved c =
    let parents = c.args.parents.now in
    let flat : false ≡ is_deep parents (c.loop-i.i + 1) = grind (arith, nat_tests, c.depth.ensures) in
    passed-one (depth_at parents) parents c.loop-i.i (get_or parents c.loop-i.i None) c.loop-i.invariant c.loop-i-test.true (get_or-itself parents c.loop-i.i None)
    (fault_if-false _ _ _ flat)

pub returns-clause-ok : goal.returns-clause-ok
returns-clause-ok c = passed-all (depth_at c.args.parents.now) c.args.parents.now c.loop-i.i c.loop-i.invariant c.loop-i-test.false
