use Rattle.std.proofs.Common.{map, length}
use Rattle.qp_chart_text.specs.Tokens.{tok_of, tokens_of_text}
use Rattle.qp_chart_text.proofs.TokenLemmas.{ThenRest}
use Rattle.qp_chart_text.proofs.tokens.read_tokens.Given as goal

abbrev pub invariant-loop-rest : goal.invariant-loop-rest
invariant-loop-rest l = ThenRest (tokens_of_text l.text) (map tok_of l.tokens.items) l.rest

abbrev pub decreases-loop-rest : goal.decreases-loop-rest
decreases-loop-rest l = length l.rest
