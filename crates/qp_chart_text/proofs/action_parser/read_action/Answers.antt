use Rattle.qp_chart_text.proofs.ActionText.{found_action, no_action}
use Rattle.qp_chart_text.proofs.action_parser.read_action.Goals as goal

pub returns-clause-found : goal.returns-clause-found
returns-clause-found c = found_action c.args.text.now c.read_whole.result c.read_whole.ensures.exact

pub returns-clause-bad : goal.returns-clause-bad
returns-clause-bad c = no_action c.args.text.now c.read_whole.result c.read_whole.ensures.exact
