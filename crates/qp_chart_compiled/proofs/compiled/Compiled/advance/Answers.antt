use Rattle.qp_chart_compiled.proofs.StepLemmas.{advance-one, advance-none}
use Rattle.qp_chart_compiled.proofs.compiled.Compiled.advance.Goals as goal

pub returns-then-agenda : goal.returns-then-agenda
returns-then-agenda c = λ chart. advance-one chart c.args.self.now c.args.agenda.now c.if-agenda.true

pub returns-else-agenda : goal.returns-else-agenda
returns-else-agenda c = λ chart. advance-none chart c.args.self.now c.args.agenda.now c.if-agenda.false
