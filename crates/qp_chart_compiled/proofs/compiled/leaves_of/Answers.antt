use Rattle.std.proofs.Common.{ap, length, arith}
use Rattle.qp_chart_compiled.proofs.LeafLemmas.{leaves-none, leaves-more, leaves-all}
use Rattle.qp_chart_compiled.proofs.compiled.leaves_of.Goals as goal

pub loop-leaf-init : goal.loop-leaf-init
loop-leaf-init c = leaves-none c.args.chart.now c.args.width _ _ c.new-leaves.ensures.items

pub loop-leaf-preserved : goal.loop-leaf-preserved
loop-leaf-preserved c = leaves-more c.args.chart.now c.args.width c.loop-leaf.leaf _ _ _ _ _ c.in_ok-made.made c.in_ok-made.ensures c.in_ok-push.ensures.items c.loop-leaf.invariant

pub returns : goal.returns
returns c = leaves-all c.args.chart.now c.args.width c.loop-leaf.leaf _ _ _ (omega (arith, c.loop-leaf-test.false, c.loop-leaf.auto.leaf-end, ap length c.state.ensures)) c.loop-leaf.invariant
