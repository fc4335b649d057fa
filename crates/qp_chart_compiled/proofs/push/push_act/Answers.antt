use Rattle.qp_chart_compiled.proofs.PushLemmas.{plain-is, locked-is}
use Rattle.qp_chart_compiled.proofs.push.push_act.Goals as goal

pub returns-in_ok-push-in-Plain : goal.returns-in_ok-push-in-Plain
returns-in_ok-push-in-Plain c =
    plain-is c.args.chart.now c.args.list c.args.at _ c.args.act.now c.args.codes.now.items _ c.requires c.in-Plain.is c.in_ok-push-in-Plain.ensures.items

pub returns-in_ok-push-in-Locked-2 : goal.returns-in_ok-push-in-Locked-2
returns-in_ok-push-in-Locked-2 c =
    locked-is c.args.chart.now c.in-Locked.ceiling c.in-Locked.acts c.args.act.now c.args.codes.now.items _ _ _ c.in-Locked.is c.in_ok-push-in-Locked.ensures.items
    (rw (c.as_slice.ensures.value, c.acts.view_is) at c.in_ok-push_within-in-Locked.ensures) c.in_ok-push-in-Locked-2.ensures.items
