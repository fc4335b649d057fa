use Rattle.std.proofs.Common.{length, map, sym, arith, refl}
use Rattle.std.proofs.lemmas.List.{length-map}
use Rattle.qp_chart_text.specs.Terms.{term_of}
use Rattle.qp_chart_text.specs.Tokens.{tok_of}
use Rattle.qp_chart_text.specs.Reading.{unary_at}
use Rattle.qp_chart_text.proofs.ParserLemmas.{fails_on, passes_on, level_zero, level_up, more_ends, more_fails, more_compares, more_goes_on, unary_zero, unary_up}
use Rattle.qp_chart_text.proofs.parser.+expression.Goals as goal

pub level-returns-then-rank-eq0-clause-exact : goal.level-returns-then-rank-eq0-clause-exact
level-returns-then-rank-eq0-clause-exact t c =
    rw (level_zero (unary_at c.args.depth) c.args.rank (map tok_of c.args.tokens.now) c.if-rank-eq0.true) c.unary.ensures.exact

pub level-returns-in_err-left-clause-exact : goal.level-returns-in_err-left-clause-exact
level-returns-in_err-left-clause-exact t c =
    passes_on _ c.from_residual.result c.in_err-left.field-0.0 _ c.from_residual.ensures.1
    (rw (level_up (unary_at c.args.depth) c.args.rank (map tok_of c.args.tokens.now) (omega arith)) (fails_on c.in_err-left.field-0.0 _ _ c.in_err-left.ensures.exact))

pub level-loop-op-init : goal.level-loop-op-init
level-loop-op-init t c = record {
  some_rank = omega arith;
  shorter = c.in_ok-left.ensures.shorter;
  follows = record {
    fuel = length (map tok_of c.in_ok-left.rest.now);
    enough = omega arith;
    is = rw (level_up (unary_at c.args.depth) c.args.rank (map tok_of c.args.tokens.now) (omega arith)) (rw c.in_ok-left.ensures.exact refl);
  };
}

pub level-returns-in_err-right-clause-exact : goal.level-returns-in_err-right-clause-exact
level-returns-in_err-right-clause-exact t c =
    passes_on _ c.from_residual-in_err-right.result c.in_err-right.field-0.0 _ c.from_residual-in_err-right.ensures.1
    (more_fails _ _ _ _ _ _ _ _ (sym c.in-Some.ensures.exact) c.loop-op.invariant.follows c.in_err-right.ensures.exact)

pub level-returns-then-rank-eq-COMPARISON-clause-exact : goal.level-returns-then-rank-eq-COMPARISON-clause-exact
unfolding term_of
level-returns-then-rank-eq-COMPARISON-clause-exact t c =
    rw (c.in_ok-new.ensures.ok, c.in_ok-new-2.ensures.ok)
    (more_compares _ _ _ _ _ _ _ _ _ (sym c.in-Some.ensures.exact) c.loop-op.invariant.follows c.in_ok-right.ensures.exact c.if-rank-eq-COMPARISON.true)

pub level-loop-op-preserved : goal.level-loop-op-preserved
unfolding term_of
level-loop-op-preserved t c = record {
  some_rank = c.loop-op.invariant.some_rank;
  shorter = omega (arith, c.in_ok-right.ensures.shorter, c.in-Some.ensures.shorter);
  follows =
      rw (c.in_ok-new.ensures.ok, c.in_ok-new-2.ensures.ok)
      (more_goes_on _ _ _ _ _ _ _ _ _ (sym c.in-Some.ensures.exact) c.loop-op.invariant.follows c.in_ok-right.ensures.exact
      (simp length-map (omega (arith, c.in_ok-right.ensures.shorter)))
      c.if-rank-eq-COMPARISON.false);
}

pub level-returns-clause-exact : goal.level-returns-clause-exact
level-returns-clause-exact t c = more_ends _ _ _ _ _ c.loop-op.invariant.follows (sym c.in_default.ensures.exact)

pub nested-returns-in_ok-new-in-Sign-clause-exact : goal.nested-returns-in_ok-new-in-Sign-clause-exact
unfolding term_of
nested-returns-in_ok-new-in-Sign-clause-exact t c =
    rw (c.in-Sign.is, c.in_ok-inner-in-Sign.ensures.exact, c.in_ok-new-in-Sign.ensures.ok) refl

pub unary-returns-then-depth-eq0-clause-exact : goal.unary-returns-then-depth-eq0-clause-exact
unary-returns-then-depth-eq0-clause-exact t c =
    rw (unary_zero c.args.depth (map tok_of c.args.tokens.now) c.if-depth-eq0.true) c.atom.ensures.exact

pub unary-returns-in-None-clause-exact : goal.unary-returns-in-None-clause-exact
unary-returns-in-None-clause-exact t c =
    rw (unary_up c.args.depth (map tok_of c.args.tokens.now) (omega arith)) (rw (← c.in-None.ensures.exact) c.atom-in-None.ensures.exact)

pub unary-returns-in-Some-clause-exact : goal.unary-returns-in-Some-clause-exact
unary-returns-in-Some-clause-exact t c =
    rw (unary_up c.args.depth (map tok_of c.args.tokens.now) (omega arith)) (rw (← c.in-Some.ensures.exact) c.nested.ensures.exact)
