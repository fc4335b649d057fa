use Rattle.std.proofs.Common.{List, [], ◌∷◌, map, sym, ap, ◌∙◌, arith, subst}
use Rattle.std.proofs.lemmas.List.{map-append, length-map}
use Rattle.qp_chart_text.specs.Terms.{Term, term_of}
use Rattle.qp_chart_text.specs.Tokens.{tok_of}
use Rattle.qp_chart_text.specs.ReadingActions.{more_terms}
use Rattle.qp_chart_text.proofs.ParserLemmas.{passes_on}
use Rattle.qp_chart_text.proofs.ActionLemmas.{ThenTerms, terms_end, terms_fail, terms_go_on}
use Rattle.qp_chart_text.proofs.action_parser.more_terms.Goals as goal

pub returns-in_err-next-clause-exact : goal.returns-in_err-next-clause-exact
returns-in_err-next-clause-exact c n h =
    passes_on _ c.from_residual.result c.in_err-next.field-0.0 _ c.from_residual.ensures.1
    (terms_fail _ _ _ _ _ (c.loop-behind.invariant.follows n h) (sym c.in-Some.ensures.exact) c.in_err-next.ensures.exact)

pub loop-behind-preserved : goal.loop-behind-preserved
loop-behind-preserved c = record {
  no_longer = omega (arith, c.in_ok-next.ensures.shorter, c.in-Some.ensures.shorter);
  follows = λ n h.
      let P : List Term → Type 0 = λ done. ThenTerms (more_terms n (map term_of c.args.items.items) (map tok_of c.args.tokens.now)) done (map tok_of c.in_ok-next.after.now) in
      subst P (sym (ap (map term_of) c.in_ok-push.ensures.items ∙ map-append term_of c.loop-behind.items.items (c.in_ok-next.next ∷ [])))
      (terms_go_on _ _ _ _ _ _ (c.loop-behind.invariant.follows n h) (sym c.in-Some.ensures.exact) c.in_ok-next.ensures.exact
      (simp length-map (omega (arith, c.in_ok-next.ensures.shorter))));
}

pub returns-clause-exact : goal.returns-clause-exact
returns-clause-exact c n h = terms_end _ _ _ (c.loop-behind.invariant.follows n h) (sym c.in_default.ensures.exact)
