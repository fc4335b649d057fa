use Rattle.std.proofs.Common.{◌≡◌, ◌∙◌, ◌-◌, ◌==◌, ◌&&◌, nat_le, max, true, false, map, drop, get_or, ◌+◌, sym, ap, refl, arith}
use Rattle.std.proofs.lemmas.Bool.Decides.{nat_tests}
use Rattle.qp_model.specs.declared.systems.PoolDef.{PoolDef}
use Rattle.qp_check_shapes.specs.ShapeUnit.{used_on}
use Rattle.qp_check_shapes.proofs.ShapePartLemmas.{used-start, used-here, used-later, used-empty, sizes-from, sizes-end}
use Rattle.qp_check_shapes.proofs.shape_pools.used_in.Goals as goal

abbrev none : PoolDef
none = record { size = 0; blocks = 0 }

pub loop-d-init : goal.loop-d-init
loop-d-init c = used-start (map (λ (x : PoolDef). x.size) c.args.pools.now) c.args.p

pub returns-then-left-eq1 : goal.returns-then-left-eq1
returns-then-left-eq1 c =
    let one : (c.loop-d.left == 1) ≡ true = ap (λ x. x == 1) c.if-left-eq1.true in
    let test : ((c.loop-d.left == 1) && nat_le c.loop-d.low (get_or c.args.pools.now c.loop-d.d-index none).size) ≡ nat_le c.loop-d.low c.from-size.result =
    rw one (ap (nat_le c.loop-d.low) (sym c.from-size.ensures)) in
    sym
    (c.loop-d.invariant ∙ ap (λ xs. used_on c.loop-d.low xs c.loop-d.left) (sizes-from c.args.pools.now c.loop-d.d-index none c.loop-d-test.true)
    ∙ used-here c.loop-d.low _ _ c.loop-d.left c.if-left-le1.true ∙ test)

pub returns-else-left-eq1 : goal.returns-else-left-eq1
returns-else-left-eq1 c =
    let none_left : (c.loop-d.left == 1) ≡ false = grind (arith, nat_tests, c.if-left-eq1.false) in
    let test : ((c.loop-d.left == 1) && nat_le c.loop-d.low (get_or c.args.pools.now c.loop-d.d-index none).size) ≡ (c.loop-d.left == 1) = rw none_left refl in
    sym
    (c.loop-d.invariant ∙ ap (λ xs. used_on c.loop-d.low xs c.loop-d.left) (sizes-from c.args.pools.now c.loop-d.d-index none c.loop-d-test.true)
    ∙ used-here c.loop-d.low _ _ c.loop-d.left c.if-left-le1.true ∙ test)

pub loop-d-preserved : goal.loop-d-preserved
loop-d-preserved c =
    let largest : max c.loop-d.low ((get_or c.args.pools.now c.loop-d.d-index none).size + 1) ≡ c.max-low.result = grind (arith, nat_tests, c.max-low.ensures, c.from-size.ensures) in
    c.loop-d.invariant ∙ ap (λ xs. used_on c.loop-d.low xs c.loop-d.left) (sizes-from c.args.pools.now c.loop-d.d-index none c.loop-d-test.true)
    ∙ used-later c.loop-d.low _ _ c.loop-d.left c.if-left-le1.false
    ∙ ap (λ x. used_on x (map (λ (y : PoolDef). y.size) (drop (c.loop-d.d-index + 1) c.args.pools.now)) (c.loop-d.left - 1)) largest

pub returns : goal.returns
returns c =
    sym
    (c.loop-d.invariant ∙ ap (λ xs. used_on c.loop-d.low xs c.loop-d.left) (sizes-end c.args.pools.now c.loop-d.d-index c.loop-d-test.false)
    ∙ used-empty c.loop-d.low c.loop-d.left)
