use Rattle.std.proofs.Common.{arith}
use Rattle.qp_chart_compiled.proofs.PlanLemmas.{step-is}
use Rattle.qp_chart_compiled.proofs.plans.place_step.Goals as goal

pub returns : goal.returns
returns c =
    step-is c.args.chart.now c.args.leaf c.args.state c.args.place c.args.row.now c.args.codes.now.items _ _ _ _ c.len-from.result c.len.result c.in_ok-after.after c.requires
    c.in_ok-push.ensures.items c.in_ok-push_acts.ensures (rw c.to.ensures at c.in_ok-after.ensures) c.in_ok-push-2.ensures.items
    (omega (arith, c.len-from.ensures, c.args.codes.now.ok.0)) (omega (arith, c.len.ensures, c.push-2.new.self.ok.0))
