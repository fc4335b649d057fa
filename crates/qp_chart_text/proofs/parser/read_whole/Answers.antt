use Rattle.std.proofs.Common.{◌≡◌, sym, ap, ◌∙◌, arith, map, length}
use Rattle.qp_chart_text.specs.Terms.{term_of}
use Rattle.qp_chart_text.specs.Tokens.{tok_of, ◌>>=◌}
use Rattle.qp_chart_text.specs.Reading.{term_of_text, expr_at, all_of}
use Rattle.qp_chart_text.proofs.ParserLemmas.{more_left}
use Rattle.qp_chart_text.proofs.parser.read_whole.Goals as goal

pub returns : goal.returns
unfolding term_of_text
returns c = record {
  exact =
      ap (λ o. o >>= (λ ts. expr_at ts >>= all_of)) c.in_ok-tokens.ensures
      ∙ ap (λ items. expr_at (map tok_of items) >>= all_of) (sym c.deref.ensures.value)
      ∙ ap (λ o. o >>= all_of) c.in_ok-expr.ensures.exact
      ∙ more_left (term_of c.in_ok-expr.expr) c.in_ok-expr.rest.now (let some : length c.in_ok-expr.rest.now ≡ 0 → ⊥ = grind arith in some);
}
