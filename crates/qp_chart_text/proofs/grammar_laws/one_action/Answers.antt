use Rattle.std.proofs.Common.{◌∙◌, sym}
use Rattle.qp_chart_text.proofs.GrammarLemmas.{some_of}
use Rattle.qp_chart_text.proofs.ActionText.{action_complete}
use Rattle.qp_chart_text.proofs.grammar_laws.one_action.Goals as goal

pub returns : goal.returns
returns c text x y a b = some_of x y (sym (action_complete text x a) ∙ action_complete text y b)
