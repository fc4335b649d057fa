use Rattle.std.proofs.Common.{◌≡◌, ◌+◌, true, false, None, get_or, sym, ◌∙◌}
use Rattle.qp_chart.specs.Parents.{loop_at, is_looped}
use Rattle.qp_chart.proofs.ParentsLemmas.{get_or-itself}
use Rattle.qp_chart_names.proofs.FaultLemmas.{passed-one, passed-all, found-at, fault_if-true, fault_if-false}
use Rattle.qp_chart.proofs.parents.check_loops.Goals as goal

pub returns-then-stands_above-clause-fault : goal.returns-then-stands_above-clause-fault
unfolding loop_at
returns-then-stands_above-clause-fault c =
    let parents = c.args.parents.now in
    let looped : true ≡ is_looped parents (c.loop-i.i + 1) = rw c.parent.ensures at (sym c.if-stands_above.true ∙ c.stands_above.ensures) in
    found-at (loop_at parents) parents c.loop-i.i (get_or parents c.loop-i.i None) _ c.loop-i.invariant c.loop-i-test.true (get_or-itself parents c.loop-i.i None)
    (fault_if-true _ _ _ _ looped c.below.ensures)

pub loop-i-preserved : goal.loop-i-preserved
unfolding loop_at
loop-i-preserved c =
    let parents = c.args.parents.now in
    let fine : false ≡ is_looped parents (c.loop-i.i + 1) = rw c.parent.ensures at (sym c.if-stands_above.false ∙ c.stands_above.ensures) in
    passed-one (loop_at parents) parents c.loop-i.i (get_or parents c.loop-i.i None) c.loop-i.invariant c.loop-i-test.true (get_or-itself parents c.loop-i.i None)
    (fault_if-false _ _ _ fine)

pub returns-clause-ok : goal.returns-clause-ok
returns-clause-ok c = passed-all (loop_at c.args.parents.now) c.args.parents.now c.loop-i.i c.loop-i.invariant c.loop-i-test.false
