use Rattle.std.proofs.Common.{sym, ◌∙◌}
use Rattle.qp_chart_compiled.proofs.StepLemmas.{next-none, next-past, next-some}
use Rattle.qp_chart_compiled.proofs.compiled.Compiled.next.Goals as goal

pub returns-then-agenda : goal.returns-then-agenda
returns-then-agenda c = next-none c.args.chart.now c.args.self.now c.args.agenda.now c.if-agenda.true

pub returns-in-Some : goal.returns-in-Some
returns-in-Some c =
    next-some c.args.chart.now c.args.self.now c.args.agenda.now _ _ c.if-agenda.false (rw c.as_slice.ensures.value at (sym c.code_at.ensures ∙ c.in-Some.is)) c.task_at.ensures

pub returns-in-None : goal.returns-in-None
returns-in-None c = next-past c.args.chart.now c.args.self.now c.args.agenda.now (rw c.as_slice.ensures.value at (sym c.code_at.ensures ∙ c.in-None.is))
