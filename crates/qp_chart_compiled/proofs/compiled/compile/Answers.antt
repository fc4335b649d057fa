use Rattle.std.proofs.Common.{refl}
use Rattle.qp_chart_compiled.proofs.LeafLemmas.{compiled-is}
use Rattle.qp_chart_compiled.proofs.compiled.compile.Goals as goal

pub returns : goal.returns
returns c =
    compiled-is c.args.chart.now _ _ _ _ _ c.new-codes.ensures.items c.in_ok-push.ensures.items c.in_ok-push-2.ensures.items refl refl c.in_ok-start.ensures c.in_ok-leaves.ensures
    c.width_of-width.ensures
