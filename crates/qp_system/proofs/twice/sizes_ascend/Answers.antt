use Rattle.std.proofs.Common.{sym}
use Rattle.qp_model.specs.declared.systems.PoolDef.{PoolDef}
use Rattle.qp_system.proofs.PassLemmas.{sizes-one, sizes-at, sizes-all}
use Rattle.qp_system.proofs.twice.sizes_ascend.Goals as goal

abbrev none : PoolDef
none = record { size = 0; blocks = 0 }

pub returns-then-is_at_most : goal.returns-then-is_at_most
returns-then-is_at_most c =
    sizes-at c.args.pools.now c.loop-i.i c.loop-i.before none _ _ c.loop-i.invariant c.loop-i-test.true (sym c.if-is_at_most.ensures) c.member_fault.ensures

pub loop-i-preserved : goal.loop-i-preserved
loop-i-preserved c =
    sizes-one c.args.pools.now c.loop-i.i c.loop-i.before none _ c.loop-i.invariant c.loop-i-test.true (sym c.if-is_at_most.ensures)

pub returns : goal.returns
returns c = sizes-all c.args.pools.now c.loop-i.i c.loop-i.before _ c.loop-i.invariant c.loop-i-test.false
