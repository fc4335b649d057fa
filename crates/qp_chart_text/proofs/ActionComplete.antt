-- What is in the grammar of actions is read.
use Rattle.std.proofs.Common.{◌≡◌, ◌≤◌, inl, inr, ℕ, ℤ, zero, suc, List, [], ◌∷◌, ◌++◌, length, Option, Some, None, refl, ap, sym, ◌∙◌, arith, append_assoc, append-nil, length-append}
use Rattle.qp_chart_text.specs.declared.tokens.Keyword.{Keyword}
use Rattle.qp_chart_text.specs.declared.tokens.Keyword.TheVariants as key
use Rattle.qp_chart_text.specs.Terms.{Word, Term, Address, ToMe, ToObject, EventTerm, Order, Set, Say, Post, Lifo, Forward, Publish, Defer, Recall, Flush, Subscribe, Unsubscribe, Arm, Rearm, Disarm, Command, Plain, Locked}
use Rattle.qp_chart_text.specs.Tokens.{Tok}
use Rattle.qp_chart_text.specs.Tokens as tok
use Rattle.qp_chart_text.specs.Reading.{operator_at, expr_at, after_close}
use Rattle.qp_chart_text.specs.ReadingActions.{after_open, after_comma, after_assign, after_semicolon, after_open_list, after_close_list, name_at, number_token_at, receiver_at, margin_at, reserve_at, plain_command_at, more_terms, terms_at, pars_at, event_tree_at, assignment_at, say_at, post_at, lifo_at, forward_at, publish_at, arm_at, rearm_at, behind_keyword, plain_at, more_orders, orders_at, locked_at, command_at}
use Rattle.qp_chart_text.specs.ActionGrammar.{IsTerm, IsTerms, one_term, one_more_term, IsPars, IsEventText, receiver_token, option_tokens, IsOrder, IsOrders, one_order, one_more_order, IsCommand}
use Rattle.qp_chart_text.proofs.GrammarLemmas.{Stops, expr_complete}
use Rattle.qp_chart_text.proofs.ActionLemmas.{terms_stop, orders_stop}

-- what may stand behind a plain action
record Ends (rest : List Tok) : Type 0 where
  stops : Stops 5 rest
  no_open : after_open rest ≡ None
  no_margin : margin_at rest ≡ Some (None, rest)
  no_reserve : reserve_at rest ≡ Some (None, rest)

ends_nil : Ends []
unfolding operator_at after_open margin_at reserve_at
ends_nil = record { stops = λ k h. refl; no_open = refl; no_margin = refl; no_reserve = refl }

ends_semicolon : (rest : List Tok) → Ends (tok.Semicolon ∷ rest)
unfolding operator_at after_open margin_at reserve_at
ends_semicolon rest = record { stops = λ k h. refl; no_open = refl; no_margin = refl; no_reserve = refl }

ends_close_list : (rest : List Tok) → Ends (tok.CloseList ∷ rest)
unfolding operator_at after_open margin_at reserve_at
ends_close_list rest = record { stops = λ k h. refl; no_open = refl; no_margin = refl; no_reserve = refl }

stops_comma : (rest : List Tok) → Stops 5 (tok.Comma ∷ rest)
unfolding operator_at
stops_comma rest k h = refl

stops_close : (rest : List Tok) → Stops 5 (tok.Close ∷ rest)
unfolding operator_at
stops_close rest k h = refl

-- the first of what follows
abbrev TermsGo : List Tok → List Term → Type 0
TermsGo ts xs = (rest : List Tok) → Stops 5 rest → (n : ℕ) × (length rest ≤ n) × (terms_at (ts ++ rest) ≡ more_terms n xs rest)

terms_first : (ts : List Tok) (x : Term) → IsTerm ts x → TermsGo ts (x ∷ [])
unfolding terms_at
terms_first ts x is rest s = (length rest, omega arith, rw (expr_complete ts x rest is s) refl)

next_is : (n : ℕ) (xs : List Term) (us rest : List Tok) (x : Term) → expr_at us ≡ Some (x, rest) → more_terms (suc n) xs (tok.Comma ∷ us) ≡ more_terms n (xs ++ x ∷ []) rest
unfolding more_terms after_comma
next_is n xs us rest x h = rw h refl

terms_next : (ts us : List Tok) (xs : List Term) (x : Term) → TermsGo ts xs → IsTerm us x → TermsGo (ts ++ tok.Comma ∷ us) (xs ++ x ∷ [])
terms_next ts us xs x go is rest s =
    let g = go (tok.Comma ∷ (us ++ rest)) (stops_comma (us ++ rest)) in
    elim g.0 as (λ m. length (tok.Comma ∷ (us ++ rest)) ≤ m → terms_at (ts ++ (tok.Comma ∷ (us ++ rest))) ≡ more_terms m xs (tok.Comma ∷ (us ++ rest)) → (n : ℕ) × (length rest ≤ n) × (terms_at ((ts ++ tok.Comma ∷ us) ++ rest) ≡ more_terms n (xs ++ x ∷ []) rest)) [
      | zero ↦ λ enough e. absurd (omega (arith, enough))
      | suc n ↦ λ enough e. (
        n,
        omega (arith, enough, length-append us rest),
        ap terms_at (append_assoc ts (tok.Comma ∷ us) rest) ∙ e ∙ next_is n xs (us ++ rest) rest x (expr_complete us x rest is s),
      )
    ] g.1 g.2

terms_go : {ts : List Tok} {xs : List Term} → IsTerms ts xs → TermsGo ts xs
terms_go (one_term {ts = ts} {x = x} is) = terms_first ts x is
terms_go (one_more_term {ts = ts} {us = us} {xs = xs} {x = x} more is) = terms_next ts us xs x (terms_go more) is

terms_complete : (ts : List Tok) (xs : List Term) (rest : List Tok) → IsTerms ts xs → Stops 5 rest → after_comma rest ≡ None → terms_at (ts ++ rest) ≡ Some (xs, rest)
terms_complete ts xs rest is s e = let g = terms_go is rest s in g.2 ∙ terms_stop g.0 xs rest e

pars_none : (rest : List Tok) → after_open rest ≡ None → pars_at rest ≡ Some ([], rest)
unfolding pars_at
pars_none rest h = rw h refl

pars_some : (us : List Tok) (xs : List Term) (rest : List Tok) → IsTerms us xs → pars_at (tok.Open ∷ ((us ++ tok.Close ∷ []) ++ rest)) ≡ Some (xs, rest)
unfolding pars_at after_open after_close after_comma
pars_some us xs rest is =
    let read : terms_at ((us ++ tok.Close ∷ []) ++ rest) ≡ Some (xs, tok.Close ∷ rest) = ap terms_at (append_assoc us (tok.Close ∷ []) rest) ∙ terms_complete us xs (tok.Close ∷ rest) is (stops_close rest) refl in
    rw read refl

pars_complete : (ts : List Tok) (xs : List Term) (rest : List Tok) → IsPars ts xs → after_open rest ≡ None → pars_at (ts ++ rest) ≡ Some (xs, rest)
pars_complete ts xs rest (inl (e, f)) h = rw (e, f) (pars_none rest h)
pars_complete ts xs rest (inr (us, e, is)) h = rw e (pars_some us xs rest is)

event_complete : (ts : List Tok) (event : EventTerm) (rest : List Tok) → IsEventText ts event → after_open rest ≡ None → event_tree_at (ts ++ rest) ≡ Some (event, rest)
unfolding event_tree_at name_at
event_complete ts event rest (us, e, is) h = rw e (rw (pars_complete us event.pars rest is h) refl)

receiver_complete : (to : Address) (rest : List Tok) → receiver_at (receiver_token to ∷ rest) ≡ Some (to, rest)
unfolding receiver_at
receiver_complete ToMe rest = refl
receiver_complete (ToObject name) rest = refl

margin_complete : (m : Option ℤ) (rest : List Tok) → margin_at rest ≡ Some (None, rest) → margin_at (option_tokens key.Margin m ++ rest) ≡ Some (m, rest)
unfolding margin_at number_token_at
margin_complete None rest h = h
margin_complete (Some n) rest h = refl

reserve_complete : (m : Option ℤ) (rest : List Tok) → reserve_at rest ≡ Some (None, rest) → reserve_at (option_tokens key.Reserve m ++ rest) ≡ Some (m, rest)
unfolding reserve_at number_token_at
reserve_complete None rest h = h
reserve_complete (Some n) rest h = refl

no_margin_before : (m : Option ℤ) (rest : List Tok) → margin_at rest ≡ Some (None, rest) → margin_at (option_tokens key.Reserve m ++ rest) ≡ Some (None, option_tokens key.Reserve m ++ rest)
unfolding margin_at
no_margin_before None rest h = h
no_margin_before (Some n) rest h = refl

no_open_before : (word : Keyword) (m : Option ℤ) (rest : List Tok) → after_open rest ≡ None → after_open (option_tokens word m ++ rest) ≡ None
unfolding after_open
no_open_before word None rest h = h
no_open_before word (Some n) rest h = refl

Reads : List Tok → Order → List Tok → Type 0
Reads ts o rest = plain_at (ts ++ rest) ≡ Some (o, rest)

reads : (ts ts' : List Tok) (o : Order) (rest : List Tok) → ts ≡ ts' → plain_at (ts' ++ rest) ≡ Some (o, rest) → Reads ts o rest
unfolding Reads
reads ts ts' o rest e h = ap (λ ts. plain_at (ts ++ rest)) e ∙ h

regrouped : (a b c rest : List Tok) → (a ++ (b ++ c)) ++ rest ≡ a ++ (b ++ (c ++ rest))
regrouped a b c rest = simp append_assoc

post_complete : (us : List Tok) (to : Address) (event : EventTerm) (m r : Option ℤ) (rest : List Tok) → IsEventText us event → Ends rest → post_at (receiver_token to ∷ ((us ++ (option_tokens key.Margin m ++ option_tokens key.Reserve r)) ++ rest)) ≡ Some (Post to event m r, rest)
unfolding post_at
post_complete us to event m r rest is ends =
    rw (receiver_complete to)
    (rw (regrouped us (option_tokens key.Margin m) (option_tokens key.Reserve r) rest)
    (rw (event_complete us event (option_tokens key.Margin m ++ (option_tokens key.Reserve r ++ rest)) is (no_open_before key.Margin m (option_tokens key.Reserve r ++ rest) (no_open_before key.Reserve r rest ends.no_open)))
    (rw (margin_complete m (option_tokens key.Reserve r ++ rest) (no_margin_before r rest ends.no_margin))
    (rw (reserve_complete r rest ends.no_reserve) refl))))

lifo_complete : (us : List Tok) (event : EventTerm) (r : Option ℤ) (rest : List Tok) → IsEventText us event → Ends rest → lifo_at ((us ++ option_tokens key.Reserve r) ++ rest) ≡ Some (Lifo event r, rest)
unfolding lifo_at
lifo_complete us event r rest is ends =
    rw (append_assoc us (option_tokens key.Reserve r) rest)
    (rw (event_complete us event (option_tokens key.Reserve r ++ rest) is (no_open_before key.Reserve r rest ends.no_open))
    (rw (reserve_complete r rest ends.no_reserve) refl))

publish_complete : (us : List Tok) (event : EventTerm) (r : Option ℤ) (rest : List Tok) → IsEventText us event → Ends rest → publish_at ((us ++ option_tokens key.Reserve r) ++ rest) ≡ Some (Publish event r, rest)
unfolding publish_at
publish_complete us event r rest is ends =
    rw (append_assoc us (option_tokens key.Reserve r) rest)
    (rw (event_complete us event (option_tokens key.Reserve r ++ rest) is (no_open_before key.Reserve r rest ends.no_open))
    (rw (reserve_complete r rest ends.no_reserve) refl))

forward_complete : (to : Address) (m : Option ℤ) (rest : List Tok) → Ends rest → forward_at (receiver_token to ∷ (option_tokens key.Margin m ++ rest)) ≡ Some (Forward to m, rest)
unfolding forward_at
forward_complete to m rest ends = rw (receiver_complete to) (rw (margin_complete m rest ends.no_margin) refl)

closes : (us : List Tok) (x : Term) (rest : List Tok) → IsTerm us x → expr_at ((us ++ tok.Close ∷ []) ++ rest) ≡ Some (x, tok.Close ∷ rest)
closes us x rest is = ap expr_at (append_assoc us (tok.Close ∷ []) rest) ∙ expr_complete us x (tok.Close ∷ rest) is (stops_close rest)

arm_complete : (timer : Word) (us vs : List Tok) (x y : Term) (rest : List Tok) → IsTerm us x → IsTerm vs y → arm_at (tok.Name timer ∷ tok.Open ∷ ((us ++ tok.Comma ∷ (vs ++ tok.Close ∷ [])) ++ rest)) ≡ Some (Arm timer x y, rest)
unfolding arm_at name_at after_open after_comma after_close
arm_complete timer us vs x y rest ix iy =
    let first : expr_at ((us ++ tok.Comma ∷ (vs ++ tok.Close ∷ [])) ++ rest) ≡ Some (x, tok.Comma ∷ ((vs ++ tok.Close ∷ []) ++ rest)) = ap expr_at (append_assoc us (tok.Comma ∷ (vs ++ tok.Close ∷ [])) rest) ∙ expr_complete us x (tok.Comma ∷ ((vs ++ tok.Close ∷ []) ++ rest)) ix (stops_comma ((vs ++ tok.Close ∷ []) ++ rest)) in
    rw first (rw (closes vs y rest iy) refl)

rearm_complete : (timer : Word) (us : List Tok) (x : Term) (rest : List Tok) → IsTerm us x → rearm_at (tok.Name timer ∷ tok.Open ∷ ((us ++ tok.Close ∷ []) ++ rest)) ≡ Some (Rearm timer x, rest)
unfolding rearm_at name_at after_open after_close
rearm_complete timer us x rest ix = rw (closes us x rest ix) refl

plain_complete : (ts : List Tok) (o : Order) (rest : List Tok) → IsOrder ts o → Ends rest → Reads ts o rest
unfolding IsOrder plain_at behind_keyword assignment_at say_at after_assign name_at Reads
plain_complete ts (Set name x) rest (us, e, is) ends = reads ts _ (Set name x) rest e (rw (expr_complete us x rest is ends.stops) refl)
plain_complete ts (Say x) rest (us, e, is) ends = reads ts _ (Say x) rest e (rw (expr_complete us x rest is ends.stops) refl)
plain_complete ts (Post to event m r) rest (us, e, is) ends = reads ts _ (Post to event m r) rest e (post_complete us to event m r rest is ends)
plain_complete ts (Lifo event r) rest (us, e, is) ends = reads ts _ (Lifo event r) rest e (lifo_complete us event r rest is ends)
plain_complete ts (Forward to m) rest e ends = reads ts _ (Forward to m) rest e (forward_complete to m rest ends)
plain_complete ts (Publish event r) rest (us, e, is) ends = reads ts _ (Publish event r) rest e (publish_complete us event r rest is ends)
plain_complete ts Defer rest e ends = reads ts _ Defer rest e refl
plain_complete ts Recall rest e ends = reads ts _ Recall rest e refl
plain_complete ts Flush rest e ends = reads ts _ Flush rest e refl
plain_complete ts (Subscribe signal) rest e ends = reads ts _ (Subscribe signal) rest e refl
plain_complete ts (Unsubscribe signal) rest e ends = reads ts _ (Unsubscribe signal) rest e refl
plain_complete ts (Arm timer x y) rest (us, vs, e, ix, iy) ends = reads ts _ (Arm timer x y) rest e (arm_complete timer us vs x y rest ix iy)
plain_complete ts (Rearm timer x) rest (us, e, ix) ends = reads ts _ (Rearm timer x) rest e (rearm_complete timer us x rest ix)
plain_complete ts (Disarm timer) rest e ends = reads ts _ (Disarm timer) rest e refl

abbrev OrdersGo : List Tok → List Order → Type 0
OrdersGo ts xs = (rest : List Tok) → Ends rest → (n : ℕ) × (length rest ≤ n) × (orders_at (ts ++ rest) ≡ more_orders n xs rest)

orders_first : (ts : List Tok) (x : Order) → IsOrder ts x → OrdersGo ts (x ∷ [])
unfolding orders_at Reads
orders_first ts x is rest s = (length rest, omega arith, rw (plain_complete ts x rest is s) refl)

next_order_is : (n : ℕ) (xs : List Order) (us rest : List Tok) (x : Order) → plain_at us ≡ Some (x, rest) → more_orders (suc n) xs (tok.Semicolon ∷ us) ≡ more_orders n (xs ++ x ∷ []) rest
unfolding more_orders after_semicolon
next_order_is n xs us rest x h = rw h refl

orders_next : (ts us : List Tok) (xs : List Order) (x : Order) → OrdersGo ts xs → IsOrder us x → OrdersGo (ts ++ tok.Semicolon ∷ us) (xs ++ x ∷ [])
unfolding Reads
orders_next ts us xs x go is rest s =
    let g = go (tok.Semicolon ∷ (us ++ rest)) (ends_semicolon (us ++ rest)) in
    elim g.0 as (λ m. length (tok.Semicolon ∷ (us ++ rest)) ≤ m → orders_at (ts ++ (tok.Semicolon ∷ (us ++ rest))) ≡ more_orders m xs (tok.Semicolon ∷ (us ++ rest)) → (n : ℕ) × (length rest ≤ n) × (orders_at ((ts ++ tok.Semicolon ∷ us) ++ rest) ≡ more_orders n (xs ++ x ∷ []) rest)) [
      | zero ↦ λ enough e. absurd (omega (arith, enough))
      | suc n ↦ λ enough e. (
        n,
        omega (arith, enough, length-append us rest),
        ap orders_at (append_assoc ts (tok.Semicolon ∷ us) rest) ∙ e ∙ next_order_is n xs (us ++ rest) rest x (plain_complete us x rest is s),
      )
    ] g.1 g.2

orders_go : {ts : List Tok} {xs : List Order} → IsOrders ts xs → OrdersGo ts xs
orders_go (one_order {ts = ts} {x = x} is) = orders_first ts x is
orders_go (one_more_order {ts = ts} {xs = xs} us x more is) = orders_next ts us xs x (orders_go more) is

orders_complete : (ts : List Tok) (xs : List Order) (rest : List Tok) → IsOrders ts xs → Ends rest → after_semicolon rest ≡ None → orders_at (ts ++ rest) ≡ Some (xs, rest)
orders_complete ts xs rest is s e = let g = orders_go is rest s in g.2 ∙ orders_stop g.0 xs rest e

from_plain : (ts : List Tok) (o : Order) (rest : List Tok) → plain_at ts ≡ Some (o, rest) → plain_command_at ts ≡ Some (Plain o, rest)
from_plain ts o rest h = rw h refl

as_plain : (ts : List Tok) (o : Order) (rest : List Tok) → plain_at ts ≡ Some (o, rest) → command_at ts ≡ Some (Plain o, rest)
unfolding command_at plain_at behind_keyword
as_plain [] o rest h = cc
as_plain (tok.Key key.Locked ∷ ts) o rest h = cc
as_plain (t ∷ ts) o rest h = from_plain (t ∷ ts) o rest h

as_locked : (ceiling : ℤ) (us : List Tok) (orders : List Order) → IsOrders us orders → command_at (tok.Key key.Locked ∷ tok.Num ceiling ∷ tok.OpenList ∷ (us ++ tok.CloseList ∷ [])) ≡ Some (Locked ceiling orders, [])
unfolding command_at locked_at number_token_at after_open_list after_close_list after_semicolon
as_locked ceiling us orders is = rw (orders_complete us orders (tok.CloseList ∷ []) is (ends_close_list []) refl) refl

-- what is in the grammar is read
pub command_complete : (ts : List Tok) (c : Command) → IsCommand ts c → command_at ts ≡ Some (c, [])
unfolding IsCommand Reads
command_complete ts (Plain o) is = as_plain ts o [] (ap plain_at (sym (append-nil ts)) ∙ plain_complete ts o [] is ends_nil)
command_complete ts (Locked ceiling orders) (us, e, is) = rw e (as_locked ceiling us orders is)
