use Rattle.std.proofs.Common.{map, refl}
use Rattle.qp_chart.specs.Task.{Do}
use Rattle.qp_chart_compiled.proofs.PushLemmas.{within-step}
use Rattle.qp_chart_tree.proofs.PlanLemmas.{made-all}
use Rattle.qp_chart_compiled.proofs.push.push_within.Goals as goal

pub loop-place-preserved : goal.loop-place-preserved
loop-place-preserved c =
    within-step c.args.chart.now c.args.list c.args.at c.loop-place.place c.args.plains.now c.loop-place.codes.items _ _ c.requires c.loop-place-test.true
    c.in_ok-push.ensures.items c.loop-place.invariant

pub returns : goal.returns
returns c = made-all (λ xs. map Do xs) c.args.plains.now c.loop-place.place _ _ refl c.loop-place-test.false c.loop-place.invariant
