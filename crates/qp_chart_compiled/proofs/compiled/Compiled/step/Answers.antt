use Rattle.qp_chart.specs.Expr.{names_in}
use Rattle.qp_chart_compiled.proofs.StepLemmas.{step-some, step-none}
use Rattle.qp_chart_compiled.proofs.compiled.Compiled.step.Goals as goal

pub returns-in-Some-clause-tasks : goal.returns-in-Some-clause-tasks
returns-in-Some-clause-tasks c =
    (step-some c.args.chart.now c.args.self.now c.requires c.args.leaf (names_in c.args.env.now) c.args.sig c.in-Some.plan c.first_open.result c.choices-choices.result.now
    (rw c.from.ensures at c.choices-choices.ensures) c.first_open.ensures c.in-Some.is).0

pub returns-in-Some-clause-leaf : goal.returns-in-Some-clause-leaf
returns-in-Some-clause-leaf c =
    (step-some c.args.chart.now c.args.self.now c.requires c.args.leaf (names_in c.args.env.now) c.args.sig c.in-Some.plan c.first_open.result c.choices-choices.result.now
    (rw c.from.ensures at c.choices-choices.ensures) c.first_open.ensures c.in-Some.is).1

pub returns-in-None-clause-tasks : goal.returns-in-None-clause-tasks
returns-in-None-clause-tasks c =
    (step-none c.args.chart.now c.args.self.now c.requires c.args.leaf (names_in c.args.env.now) c.args.sig c.first_open.result c.choices-choices.result.now
    (rw c.from.ensures at c.choices-choices.ensures) c.first_open.ensures c.in-None.is).0

pub returns-in-None-clause-leaf : goal.returns-in-None-clause-leaf
returns-in-None-clause-leaf c =
    (step-none c.args.chart.now c.args.self.now c.requires c.args.leaf (names_in c.args.env.now) c.args.sig c.first_open.result c.choices-choices.result.now
    (rw c.from.ensures at c.choices-choices.ensures) c.first_open.ensures c.in-None.is).1
