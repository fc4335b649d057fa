use Rattle.std.proofs.Common.{◌∙◌, sym}
use Rattle.qp_chart_text.proofs.GrammarLemmas.{some_of, text_complete}
use Rattle.qp_chart_text.proofs.grammar_laws.one_expression.Goals as goal

pub returns : goal.returns
returns c text x y a b = some_of x y (sym (text_complete text x a) ∙ text_complete text y b)
