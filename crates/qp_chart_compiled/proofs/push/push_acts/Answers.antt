use Rattle.std.proofs.Common.{refl, ap, ◌∙◌, sym, ◌++◌}
use Rattle.std.specs.List.{slice_get}
use Rattle.std.proofs.lemmas.Option.{slice_get_read}
use Rattle.qp_chart.specs.Task.{tasks_of}
use Rattle.qp_chart_compiled.specs.Codes.{tasks_at}
use Rattle.qp_chart_compiled.proofs.PushLemmas.{acts-end}
use Rattle.qp_chart_tree.proofs.PlanLemmas.{acts-step}
use Rattle.qp_chart_compiled.proofs.push.push_acts.Goals as goal

pub push_act-requires : goal.push_act-requires
push_act-requires c =
    ap (λ acts. slice_get acts c.loop-at.at) (sym c.acts_in-acts.ensures)
    ∙ slice_get_read c.acts_in-acts.result.now _ c.loop-at.at c.index-acts-at.result refl c.loop-at-test.true c.index-acts-at.is

pub loop-at-preserved : goal.loop-at-preserved
loop-at-preserved c =
    acts-step c.acts_in-acts.result.now c.loop-at.at c.index-acts-at.result c.index-acts-at.result _ _ _ c.loop-at-test.true c.index-acts-at.is
    c.in_ok-push_act.ensures c.loop-at.invariant

pub returns : goal.returns
returns c =
    acts-end c.acts_in-acts.result.now c.loop-at.at _ _ c.loop-at-test.false c.loop-at.invariant
    ∙ ap (λ acts. tasks_at c.args.chart.now c.args.codes.now.items ++ tasks_of acts) c.acts_in-acts.ensures
