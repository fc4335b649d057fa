use Rattle.std.proofs.Common.{refl, get_or}
use Rattle.qp_chart_compiled.proofs.PushLemmas.{exits-step, exits-end}
use Rattle.qp_chart_compiled.proofs.push.push_exits.Goals as goal

pub loop-s-preserved : goal.loop-s-preserved
loop-s-preserved c =
    exits-step c.args.chart.now c.args.path.now c.loop-s.s-index (get_or c.args.path.now c.loop-s.s-index 0) c.loop-s.codes.items _ _ _ c.loop-s-test.true refl
    c.in_ok-push.ensures.items c.in_ok-push_acts.ensures c.loop-s.invariant

pub returns : goal.returns
returns c = exits-end c.args.chart.now c.args.path.now c.loop-s.s-index _ _ c.loop-s-test.false c.loop-s.invariant
