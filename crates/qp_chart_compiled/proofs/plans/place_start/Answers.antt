use Rattle.std.proofs.Common.{arith}
use Rattle.qp_chart_compiled.proofs.PlanLemmas.{start-is}
use Rattle.qp_chart_compiled.proofs.plans.place_start.Goals as goal

pub returns : goal.returns
returns c =
    start-is c.args.chart.now _ c.args.codes.now.items _ _ _ _ _ c.len-from.result c.len.result c.in_ok-leaf.leaf c.in_ok-push.ensures.items c.in_ok-push_acts.ensures
    (rw c.init.ensures at c.in_ok-path.ensures) (rw c.deref.ensures.value at c.in_ok-push_entries.ensures) (rw c.init-2.ensures at c.in_ok-leaf.ensures)
    c.in_ok-push-2.ensures.items (omega (arith, c.len-from.ensures, c.args.codes.now.ok.0)) (omega (arith, c.len.ensures, c.push-2.new.self.ok.0))
