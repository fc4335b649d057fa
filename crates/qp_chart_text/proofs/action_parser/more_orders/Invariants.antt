use Rattle.std.proofs.Common.{◌≤◌, length, map, ℕ}
use Rattle.qp_chart_text.specs.Terms.{order_of}
use Rattle.qp_chart_text.specs.Tokens.{tok_of}
use Rattle.qp_chart_text.specs.ReadingActions.{more_orders}
use Rattle.qp_chart_text.proofs.ActionLemmas.{ThenOrders}
use Rattle.qp_chart_text.proofs.action_parser.more_orders.Given as goal

abbrev pub invariant-loop-behind : goal.invariant-loop-behind
invariant-loop-behind l = record {
  no_longer : length l.rest ≤ length l.tokens;
  follows : (n : ℕ) → length l.tokens ≤ n → ThenOrders (more_orders n (map order_of l.initial.items.items) (map tok_of l.tokens)) (map order_of l.items.items) (map tok_of l.rest);
}

abbrev pub decreases-loop-behind : goal.decreases-loop-behind
decreases-loop-behind l = length l.rest
