use Rattle.std.proofs.Common.{◌<◌, length, map, ◌+◌, ◌-◌, ◌*◌}
use Rattle.qp_chart_text.specs.Terms.{term_of}
use Rattle.qp_chart_text.specs.Tokens.{tok_of}
use Rattle.qp_chart_text.specs.Reading.{level_at, unary_at}
use Rattle.qp_chart_text.proofs.ParserLemmas.{MoreFrom}
use Rattle.qp_chart_text.proofs.parser.+expression.Given as goal

abbrev pub decreases-level : goal.decreases-level
decreases-level l = 257 * length l.tokens.now + 1 + l.rank

abbrev pub decreases-unary : goal.decreases-unary
decreases-unary l = 257 * length l.tokens.now

abbrev pub decreases-nested : goal.decreases-nested
decreases-nested l = 257 * length l.tokens.now + 7

abbrev pub invariant-level-loop-op : goal.invariant-level-loop-op
invariant-level-loop-op l = record {
  some_rank : 0 < l.rank;
  shorter : length l.rest < length l.tokens;
  follows : MoreFrom (level_at (unary_at l.depth) l.rank (map tok_of l.tokens)) (level_at (unary_at l.depth) (l.rank - 1)) l.rank (term_of l.left) (map tok_of l.rest);
}

abbrev pub decreases-level-loop-op : goal.decreases-level-loop-op
decreases-level-loop-op l = length l.rest
