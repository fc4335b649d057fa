-- What readers of an action answer.
use Rattle.std.specs.Prelude.{ℕ, ℤ, zero, suc, List, [], ◌∷◌, ◌++◌, length, Option, Some, None}
use Rattle.qp_chart_text.specs.declared.tokens.Keyword.{Keyword}
use Rattle.qp_chart_text.specs.declared.tokens.Keyword.TheVariants as key
use Rattle.qp_chart_text.specs.Terms.{Word, Term, Address, ToMe, ToObject, EventTerm, Order, Set, Say, Post, Lifo, Forward, Publish, Defer, Recall, Flush, Subscribe, Unsubscribe, Arm, Rearm, Disarm, Command, Plain, Locked}
use Rattle.qp_chart_text.specs.Tokens.{Tok, tokens_of_text, ◌>>=◌}
use Rattle.qp_chart_text.specs.Tokens as tok
use Rattle.qp_chart_text.specs.Reading.{Part, expr_at, after_close, all_of}

-- the tokens behind a mark
unfoldable pub after_open : List Tok → Option (List Tok)
after_open (tok.Open ∷ ts) = Some ts
after_open ts = None

unfoldable pub after_comma : List Tok → Option (List Tok)
after_comma (tok.Comma ∷ ts) = Some ts
after_comma ts = None

unfoldable pub after_assign : List Tok → Option (List Tok)
after_assign (tok.Assign ∷ ts) = Some ts
after_assign ts = None

unfoldable pub after_semicolon : List Tok → Option (List Tok)
after_semicolon (tok.Semicolon ∷ ts) = Some ts
after_semicolon ts = None

unfoldable pub after_open_list : List Tok → Option (List Tok)
after_open_list (tok.OpenList ∷ ts) = Some ts
after_open_list ts = None

unfoldable pub after_close_list : List Tok → Option (List Tok)
after_close_list (tok.CloseList ∷ ts) = Some ts
after_close_list ts = None

unfoldable pub name_at : List Tok → Part Word
name_at (tok.Name name ∷ ts) = Some (name, ts)
name_at ts = None

unfoldable pub number_token_at : List Tok → Part ℤ
number_token_at (tok.Num n ∷ ts) = Some (n, ts)
number_token_at ts = None

unfoldable pub receiver_at : List Tok → Part Address
receiver_at (tok.Name name ∷ ts) = Some (ToObject name, ts)
receiver_at (tok.Me ∷ ts) = Some (ToMe, ts)
receiver_at ts = None

abbrev pub number_behind : List Tok → Part (Option ℤ)
number_behind ts = number_token_at ts >>= (λ n. Some (Some n.0, n.1))

-- a number behind its word, or none
unfoldable pub margin_at : List Tok → Part (Option ℤ)
unfolding number_token_at
margin_at (tok.Key key.Margin ∷ ts) = number_behind ts
margin_at ts = Some (None, ts)

unfoldable pub reserve_at : List Tok → Part (Option ℤ)
unfolding number_token_at
reserve_at (tok.Key key.Reserve ∷ ts) = number_behind ts
reserve_at ts = Some (None, ts)

-- behind these, at most n more expressions, each behind a comma
abbrev pub next_term : (List Term → List Tok → Part (List Term)) → List Term → List Tok → Option (List Tok) → Part (List Term)
next_term go done ts None = Some (done, ts)
next_term go done ts (Some us) = expr_at us >>= (λ x. go (done ++ x.0 ∷ []) x.1)

unfoldable pub more_terms : ℕ → List Term → List Tok → Part (List Term)
unfolding expr_at after_comma
more_terms zero done ts = Some (done, ts)
more_terms (suc n) done ts = next_term (more_terms n) done ts (after_comma ts)

-- one or more expressions
unfoldable pub terms_at : List Tok → Part (List Term)
unfolding expr_at more_terms
terms_at ts = expr_at ts >>= (λ x. more_terms (length x.1) (x.0 ∷ []) x.1)

-- parameters in parentheses, or none
abbrev pub pars_in : List Tok → Option (List Tok) → Part (List Term)
pars_in ts None = Some ([], ts)
pars_in ts (Some us) = terms_at us >>= (λ xs. after_close xs.1 >>= (λ rest. Some (xs.0, rest)))

unfoldable pub pars_at : List Tok → Part (List Term)
unfolding terms_at after_open after_close
pars_at ts = pars_in ts (after_open ts)

unfoldable pub event_tree_at : List Tok → Part EventTerm
unfolding name_at pars_at
event_tree_at ts = name_at ts >>= (λ name. pars_at name.1 >>= (λ pars. Some (record { signal = name.0; pars = pars.0 }, pars.1)))

unfoldable pub assignment_at : Word → List Tok → Part Order
unfolding expr_at after_assign
assignment_at name ts = after_assign ts >>= (λ us. expr_at us >>= (λ x. Some (Set name x.0, x.1)))

unfoldable pub say_at : List Tok → Part Order
unfolding expr_at
say_at ts = expr_at ts >>= (λ x. Some (Say x.0, x.1))

unfoldable pub post_at : List Tok → Part Order
unfolding receiver_at event_tree_at margin_at reserve_at
post_at ts =
    receiver_at ts >>= (λ to. event_tree_at to.1 >>= (λ event. margin_at event.1 >>= (λ margin. reserve_at margin.1 >>= (λ reserve.
    Some (Post to.0 event.0 margin.0 reserve.0, reserve.1)))))

unfoldable pub lifo_at : List Tok → Part Order
unfolding event_tree_at reserve_at
lifo_at ts = event_tree_at ts >>= (λ event. reserve_at event.1 >>= (λ reserve. Some (Lifo event.0 reserve.0, reserve.1)))

unfoldable pub forward_at : List Tok → Part Order
unfolding receiver_at margin_at
forward_at ts = receiver_at ts >>= (λ to. margin_at to.1 >>= (λ margin. Some (Forward to.0 margin.0, margin.1)))

unfoldable pub publish_at : List Tok → Part Order
unfolding event_tree_at reserve_at
publish_at ts = event_tree_at ts >>= (λ event. reserve_at event.1 >>= (λ reserve. Some (Publish event.0 reserve.0, reserve.1)))

unfoldable pub arm_at : List Tok → Part Order
unfolding name_at after_open expr_at after_comma after_close
arm_at ts =
    name_at ts >>= (λ timer. after_open timer.1 >>= (λ us. expr_at us >>= (λ ticks. after_comma ticks.1 >>= (λ vs.
    expr_at vs >>= (λ interval. after_close interval.1 >>= (λ rest. Some (Arm timer.0 ticks.0 interval.0, rest)))))))

unfoldable pub rearm_at : List Tok → Part Order
unfolding name_at after_open expr_at after_close
rearm_at ts =
    name_at ts >>= (λ timer. after_open timer.1 >>= (λ us. expr_at us >>= (λ ticks. after_close ticks.1 >>= (λ rest. Some (Rearm timer.0 ticks.0, rest)))))

abbrev pub named_at : (Word → Order) → List Tok → Part Order
named_at make ts = name_at ts >>= (λ name. Some (make name.0, name.1))

-- what stands behind the word that begins a plain action
unfoldable pub behind_keyword : Keyword → List Tok → Part Order
unfolding say_at post_at lifo_at forward_at publish_at arm_at rearm_at name_at
behind_keyword key.Locked ts = None
behind_keyword key.Say ts = say_at ts
behind_keyword key.Post ts = post_at ts
behind_keyword key.Lifo ts = lifo_at ts
behind_keyword key.Forward ts = forward_at ts
behind_keyword key.Publish ts = publish_at ts
behind_keyword key.Defer ts = Some (Defer, ts)
behind_keyword key.Recall ts = Some (Recall, ts)
behind_keyword key.Flush ts = Some (Flush, ts)
behind_keyword key.Subscribe ts = named_at Subscribe ts
behind_keyword key.Unsubscribe ts = named_at Unsubscribe ts
behind_keyword key.Arm ts = arm_at ts
behind_keyword key.Rearm ts = rearm_at ts
behind_keyword key.Disarm ts = named_at Disarm ts
behind_keyword key.Margin ts = None
behind_keyword key.Reserve ts = None

-- a plain action
unfoldable pub plain_at : List Tok → Part Order
unfolding behind_keyword assignment_at
plain_at (tok.Name name ∷ ts) = assignment_at name ts
plain_at (tok.Key word ∷ ts) = behind_keyword word ts
plain_at ts = None

-- behind these, at most n more plain actions, each behind a semicolon
abbrev pub next_order : (List Order → List Tok → Part (List Order)) → List Order → List Tok → Option (List Tok) → Part (List Order)
next_order go done ts None = Some (done, ts)
next_order go done ts (Some us) = plain_at us >>= (λ x. go (done ++ x.0 ∷ []) x.1)

unfoldable pub more_orders : ℕ → List Order → List Tok → Part (List Order)
unfolding plain_at after_semicolon
more_orders zero done ts = Some (done, ts)
more_orders (suc n) done ts = next_order (more_orders n) done ts (after_semicolon ts)

-- one or more plain actions
unfoldable pub orders_at : List Tok → Part (List Order)
unfolding plain_at more_orders
orders_at ts = plain_at ts >>= (λ x. more_orders (length x.1) (x.0 ∷ []) x.1)

-- a ceiling and the actions under it
unfoldable pub locked_at : List Tok → Part Command
unfolding number_token_at after_open_list orders_at after_close_list
locked_at ts =
    number_token_at ts >>= (λ ceiling. after_open_list ceiling.1 >>= (λ us. orders_at us >>= (λ orders. after_close_list orders.1 >>= (λ rest.
    Some (Locked ceiling.0 orders.0, rest)))))

abbrev pub plain_command_at : List Tok → Part Command
plain_command_at ts = plain_at ts >>= (λ order. Some (Plain order.0, order.1))

-- an action
unfoldable pub command_at : List Tok → Part Command
unfolding locked_at plain_at
command_at (tok.Key key.Locked ∷ ts) = locked_at ts
command_at ts = plain_command_at ts

-- the action of a text
unfoldable pub command_of_text : List ℕ → Option Command
unfolding tokens_of_text command_at
command_of_text text = tokens_of_text text >>= (λ ts. command_at ts >>= all_of)
