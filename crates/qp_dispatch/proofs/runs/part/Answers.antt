use Rattle.std.proofs.Common.{sym, ◌∙◌}
use Rattle.qp_chart_compiled.specs.AsTask.{as_task}
use Rattle.qp_dispatch.specs.Parts.{held_by}
use Rattle.qp_dispatch.specs.Runs.{object_setting, tasks_in}
use Rattle.qp_dispatch.proofs.RunLemmas.{part-task, part-under, stand-hand, stand-list, stand-under}
use Rattle.qp_dispatch.proofs.runs.part.Goals as goal

pub go_on-requires-clause-stand : goal.go_on-requires-clause-stand
go_on-requires-clause-stand g c =
    stand-under c.args.lasting.now c.args.left.now.under c.in-Some.from c.args.work.now.entry _ (sym c.take.ensures.value ∙ c.in-Some.is) c.requires.stand

pub returns-in-Some : goal.returns-in-Some
returns-in-Some g c =
    let lane = g.O.Ops.lane in
    part-under (object_setting c.args.home.now) c.args.work.now c.args.ceiling.now c.go_on.new.ceiling c.args.lasting.now c.args.left.now.under c.in-Some.from (tasks_in (object_setting c.args.home.now) c.args.left.now) c.go_on.new.lasting
    c.go_on.new.under (lane c.args.ops.now) (lane c.go_on.new.ops) c.go_on.result (sym c.take.ensures.value ∙ c.in-Some.is) c.go_on.ensures.goes c.go_on.ensures.fewer

pub perform-requires-clause-stands : goal.perform-requires-clause-stands
perform-requires-clause-stands g c = stand-hand (held_by c.args.lasting.now c.args.left.now.under) c.args.work.now.entry _ c.requires.stand

pub perform-requires-clause-kept : goal.perform-requires-clause-kept
perform-requires-clause-kept g c = stand-list c.args.lasting.now c.args.left.now.under c.args.work.now.entry _ c.requires.stand

pub returns : goal.returns
returns g c =
    let lane = g.O.Ops.lane in
    part-task (object_setting c.args.home.now) c.args.work.now c.args.ceiling.now c.perform.new.ceiling c.args.lasting.now c.args.left.now.under (as_task c.in_ok-task.task) (tasks_in (object_setting c.args.home.now) c.args.left.now)
    (tasks_in (object_setting c.args.home.now) (record { agenda = c.advance.new.agenda; under = c.perform.new.under })) c.perform.new.lasting c.perform.new.under (lane c.args.ops.now) (lane c.perform.new.ops) c.perform.result
    (sym c.take.ensures.value ∙ c.in_default.is) c.in_ok-task.ensures (c.advance.ensures c.args.home.now.chart.now) c.perform.ensures
