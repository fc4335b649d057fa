use Rattle.std.proofs.Common.{◌≤◌, length, map, ℕ}
use Rattle.qp_chart_text.specs.Terms.{term_of}
use Rattle.qp_chart_text.specs.Tokens.{tok_of}
use Rattle.qp_chart_text.specs.ReadingActions.{more_terms}
use Rattle.qp_chart_text.proofs.ActionLemmas.{ThenTerms}
use Rattle.qp_chart_text.proofs.action_parser.more_terms.Given as goal

abbrev pub invariant-loop-behind : goal.invariant-loop-behind
invariant-loop-behind l = record {
  no_longer : length l.rest ≤ length l.tokens;
  follows : (n : ℕ) → length l.tokens ≤ n → ThenTerms (more_terms n (map term_of l.initial.items.items) (map tok_of l.tokens)) (map term_of l.items.items) (map tok_of l.rest);
}

abbrev pub decreases-loop-behind : goal.decreases-loop-behind
decreases-loop-behind l = length l.rest
