use Rattle.std.proofs.Common.{List, [], ◌∷◌, map, sym, ap, ◌∙◌, arith, subst}
use Rattle.std.proofs.lemmas.List.{map-append, length-map}
use Rattle.qp_chart_text.specs.Terms.{Order, order_of}
use Rattle.qp_chart_text.specs.Tokens.{tok_of}
use Rattle.qp_chart_text.specs.ReadingActions.{more_orders}
use Rattle.qp_chart_text.proofs.ActionLemmas.{ThenOrders, orders_end, orders_fail, orders_go_on}
use Rattle.qp_chart_text.proofs.action_parser.more_orders.Goals as goal

pub returns-in-Err : goal.returns-in-Err
returns-in-Err c n h =
    orders_fail _ _ _ _ _ (c.loop-behind.invariant.follows n h) (sym c.in-Some.ensures.exact) c.in-Err.ensures.exact

pub loop-behind-preserved : goal.loop-behind-preserved
loop-behind-preserved c = record {
  no_longer = omega (arith, c.in-Ok.ensures.shorter, c.in-Some.ensures.shorter);
  follows = λ n h.
      let P : List Order → Type 0 = λ done. ThenOrders (more_orders n (map order_of c.args.items.items) (map tok_of c.args.tokens.now)) done (map tok_of c.in-Ok.after.now) in
      subst P (sym (ap (map order_of) c.in_ok-push-in-Ok.ensures.items ∙ map-append order_of c.loop-behind.items.items (c.in-Ok.next ∷ [])))
      (orders_go_on _ _ _ _ _ _ (c.loop-behind.invariant.follows n h) (sym c.in-Some.ensures.exact) c.in-Ok.ensures.exact
      (simp length-map (omega (arith, c.in-Ok.ensures.shorter))));
}

pub returns : goal.returns
returns c n h = orders_end _ _ _ (c.loop-behind.invariant.follows n h) (sym c.in_default.ensures.exact)
