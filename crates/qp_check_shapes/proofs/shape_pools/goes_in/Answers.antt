use Rattle.std.proofs.Common.{◌≡◌, ◌∙◌, nat_le, true, false, map, drop, get_or, ◌+◌, sym, ap, arith}
use Rattle.std.proofs.lemmas.Bool.Decides.{nat_tests}
use Rattle.qp_model.specs.declared.systems.PoolDef.{PoolDef}
use Rattle.qp_check_shapes.specs.ShapeUnit.{goes_to}
use Rattle.qp_check_shapes.proofs.ShapePartLemmas.{goes-fits, goes-over, goes-empty, sizes-from, sizes-end}
use Rattle.qp_check_shapes.proofs.shape_pools.goes_in.Goals as goal

abbrev none : PoolDef
none = record { size = 0; blocks = 0 }

pub returns-then-n-from : goal.returns-then-n-from
returns-then-n-from c =
    let fits : nat_le c.args.n (get_or c.args.pools.now c.loop-d.d-index none).size ≡ true = grind (arith, nat_tests, c.from.ensures, c.if-n-from.true) in
    sym
    (c.loop-d.invariant ∙ ap (λ xs. goes_to xs c.args.n c.loop-d.left) (sizes-from c.args.pools.now c.loop-d.d-index none c.loop-d-test.true)
    ∙ goes-fits _ _ c.args.n c.loop-d.left fits)

pub loop-d-preserved : goal.loop-d-preserved
loop-d-preserved c =
    let over : nat_le c.args.n (get_or c.args.pools.now c.loop-d.d-index none).size ≡ false = grind (arith, nat_tests, c.from.ensures, c.if-n-from.false) in
    c.loop-d.invariant ∙ ap (λ xs. goes_to xs c.args.n c.loop-d.left) (sizes-from c.args.pools.now c.loop-d.d-index none c.loop-d-test.true)
    ∙ goes-over _ _ c.args.n c.loop-d.left over
    ∙ ap (goes_to (map (λ (x : PoolDef). x.size) (drop (c.loop-d.d-index + 1) c.args.pools.now)) c.args.n) (sym c.saturating_sub-left.ensures)

pub returns : goal.returns
returns c = sym (c.loop-d.invariant ∙ ap (λ xs. goes_to xs c.args.n c.loop-d.left) (sizes-end c.args.pools.now c.loop-d.d-index c.loop-d-test.false) ∙ goes-empty c.args.n c.loop-d.left)
