use Rattle.qp_chart_text.proofs.GrammarLemmas.{found_expr, no_expr}
use Rattle.qp_chart_text.proofs.parser.read_expr.Goals as goal

pub returns-clause-found : goal.returns-clause-found
returns-clause-found c = found_expr c.args.text.now c.read_whole.result c.read_whole.ensures.exact

pub returns-clause-bad : goal.returns-clause-bad
returns-clause-bad c = no_expr c.args.text.now c.read_whole.result c.read_whole.ensures.exact
