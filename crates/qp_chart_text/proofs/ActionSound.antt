-- What is read of an action is in the grammar.
use Rattle.std.proofs.Common.{◌≡◌, inl, inr, ℕ, ℤ, zero, suc, List, [], ◌∷◌, ◌++◌, length, Option, Some, None, refl, ap, sym, ◌∙◌, subst, append_assoc}
use Rattle.qp_chart_text.specs.declared.tokens.Keyword.{Keyword}
use Rattle.qp_chart_text.specs.declared.tokens.Keyword.TheVariants as key
use Rattle.qp_chart_text.specs.Terms.{Word, Term, Address, ToMe, ToObject, EventTerm, Order, Set, Say, Post, Lifo, Forward, Publish, Defer, Recall, Flush, Subscribe, Unsubscribe, Arm, Rearm, Disarm, Command, Plain, Locked}
use Rattle.qp_chart_text.specs.Tokens.{Tok}
use Rattle.qp_chart_text.specs.Tokens as tok
use Rattle.qp_chart_text.specs.Reading.{expr_at, after_close}
use Rattle.qp_chart_text.specs.ReadingActions.{after_open, after_comma, after_assign, after_semicolon, after_open_list, after_close_list, name_at, number_token_at, receiver_at, margin_at, reserve_at, number_behind, plain_command_at, next_term, more_terms, terms_at, pars_in, pars_at, event_tree_at, assignment_at, say_at, post_at, lifo_at, forward_at, publish_at, arm_at, rearm_at, named_at, behind_keyword, plain_at, next_order, more_orders, orders_at, locked_at, command_at}
use Rattle.qp_chart_text.specs.ActionGrammar.{IsTerms, one_term, one_more_term, IsPars, IsEventText, receiver_token, option_tokens, IsOrder, IsOrders, one_order, one_more_order, IsCommand}
use Rattle.qp_chart_text.proofs.GrammarLemmas.{expr_sound, bind_ok, some_pair, close_sound}

-- a front of the tokens is such
pub record Cut (Is : List Tok → Type 0) (ts rest : List Tok) : Type 0 where
  pub front : List Tok
  pub splits : ts ≡ front ++ rest
  pub is : Is front

open_sound : (ts us : List Tok) → after_open ts ≡ Some us → ts ≡ tok.Open ∷ us
unfolding after_open
open_sound [] us h = cc
open_sound (tok.Open ∷ ts) us h = let e : ts ≡ us = cc in ap (λ t. tok.Open ∷ t) e
open_sound (t ∷ ts) us h = cc

comma_sound : (ts us : List Tok) → after_comma ts ≡ Some us → ts ≡ tok.Comma ∷ us
unfolding after_comma
comma_sound [] us h = cc
comma_sound (tok.Comma ∷ ts) us h = let e : ts ≡ us = cc in ap (λ t. tok.Comma ∷ t) e
comma_sound (t ∷ ts) us h = cc

assign_sound : (ts us : List Tok) → after_assign ts ≡ Some us → ts ≡ tok.Assign ∷ us
unfolding after_assign
assign_sound [] us h = cc
assign_sound (tok.Assign ∷ ts) us h = let e : ts ≡ us = cc in ap (λ t. tok.Assign ∷ t) e
assign_sound (t ∷ ts) us h = cc

semicolon_sound : (ts us : List Tok) → after_semicolon ts ≡ Some us → ts ≡ tok.Semicolon ∷ us
unfolding after_semicolon
semicolon_sound [] us h = cc
semicolon_sound (tok.Semicolon ∷ ts) us h = let e : ts ≡ us = cc in ap (λ t. tok.Semicolon ∷ t) e
semicolon_sound (t ∷ ts) us h = cc

open_list_sound : (ts us : List Tok) → after_open_list ts ≡ Some us → ts ≡ tok.OpenList ∷ us
unfolding after_open_list
open_list_sound [] us h = cc
open_list_sound (tok.OpenList ∷ ts) us h = let e : ts ≡ us = cc in ap (λ t. tok.OpenList ∷ t) e
open_list_sound (t ∷ ts) us h = cc

close_list_sound : (ts us : List Tok) → after_close_list ts ≡ Some us → ts ≡ tok.CloseList ∷ us
unfolding after_close_list
close_list_sound [] us h = cc
close_list_sound (tok.CloseList ∷ ts) us h = let e : ts ≡ us = cc in ap (λ t. tok.CloseList ∷ t) e
close_list_sound (t ∷ ts) us h = cc

same_front : (t t' : Tok) (ts rest : List Tok) → t ≡ t' → ts ≡ rest → (t ∷ ts) ≡ (t' ∷ rest)
same_front t t' ts rest e f = ap (λ u. u ∷ ts) e ∙ ap (λ r. t' ∷ r) f

name_sound : (ts : List Tok) (name : Word) (rest : List Tok) → name_at ts ≡ Some (name, rest) → ts ≡ tok.Name name ∷ rest
unfolding name_at
name_sound [] name rest h = cc
name_sound (tok.Name w ∷ ts) name rest h = let p = some_pair w name ts rest h in same_front (tok.Name w) (tok.Name name) ts rest (ap (λ w. tok.Name w) p.0) p.1
name_sound (t ∷ ts) name rest h = cc

number_sound : (ts : List Tok) (n : ℤ) (rest : List Tok) → number_token_at ts ≡ Some (n, rest) → ts ≡ tok.Num n ∷ rest
unfolding number_token_at
number_sound [] n rest h = cc
number_sound (tok.Num m ∷ ts) n rest h = let p = some_pair m n ts rest h in same_front (tok.Num m) (tok.Num n) ts rest (ap (λ m. tok.Num m) p.0) p.1
number_sound (t ∷ ts) n rest h = cc

receiver_sound : (ts : List Tok) (to : Address) (rest : List Tok) → receiver_at ts ≡ Some (to, rest) → ts ≡ receiver_token to ∷ rest
unfolding receiver_at
receiver_sound [] to rest h = cc
receiver_sound (tok.Name w ∷ ts) to rest h = let p = some_pair (ToObject w) to ts rest h in same_front (tok.Name w) (receiver_token to) ts rest (ap receiver_token p.0) p.1
receiver_sound (tok.Me ∷ ts) to rest h = let p = some_pair ToMe to ts rest h in same_front tok.Me (receiver_token to) ts rest (ap receiver_token p.0) p.1
receiver_sound (t ∷ ts) to rest h = cc

nothing : (word : Keyword) (m : Option ℤ) (ts rest : List Tok) → None ≡ m → ts ≡ rest → ts ≡ option_tokens word m ++ rest
nothing word m ts rest e f = subst (λ m. ts ≡ option_tokens word m ++ rest) e f

something : (word : Keyword) (ts : List Tok) (m : Option ℤ) (rest : List Tok) → number_behind ts ≡ Some (m, rest) → (tok.Key word ∷ ts) ≡ option_tokens word m ++ rest
something word ts m rest h =
    let i = bind_ok (number_token_at ts) _ _ h in
    let p = some_pair (Some i.0.0) m i.0.1 rest i.2 in
    subst (λ m. (tok.Key word ∷ ts) ≡ option_tokens word m ++ rest) p.0 (ap (λ t. tok.Key word ∷ t) (number_sound ts i.0.0 i.0.1 i.1 ∙ ap (λ r. tok.Num i.0.0 ∷ r) p.1))

margin_sound : (ts : List Tok) (m : Option ℤ) (rest : List Tok) → margin_at ts ≡ Some (m, rest) → ts ≡ option_tokens key.Margin m ++ rest
unfolding margin_at
margin_sound [] m rest h = let p = some_pair None m [] rest h in nothing key.Margin m [] rest p.0 p.1
margin_sound (tok.Key key.Margin ∷ ts) m rest h = something key.Margin ts m rest h
margin_sound (t ∷ ts) m rest h = let p = some_pair None m (t ∷ ts) rest h in nothing key.Margin m (t ∷ ts) rest p.0 p.1

reserve_sound : (ts : List Tok) (m : Option ℤ) (rest : List Tok) → reserve_at ts ≡ Some (m, rest) → ts ≡ option_tokens key.Reserve m ++ rest
unfolding reserve_at
reserve_sound [] m rest h = let p = some_pair None m [] rest h in nothing key.Reserve m [] rest p.0 p.1
reserve_sound (tok.Key key.Reserve ∷ ts) m rest h = something key.Reserve ts m rest h
reserve_sound (t ∷ ts) m rest h = let p = some_pair None m (t ∷ ts) rest h in nothing key.Reserve m (t ∷ ts) rest p.0 p.1

terms_chain : (n : ℕ) (done : List Term) (front mid : List Tok) (xs : List Term) (rest : List Tok) → IsTerms front done → more_terms n done mid ≡ Some (xs, rest) → (all : List Tok) × (front ++ mid ≡ all ++ rest) × IsTerms all xs
unfolding more_terms
terms_chain zero done front mid xs rest is h =
    let p = some_pair done xs mid rest h in (front, ap (λ m. front ++ m) p.1, subst (λ xs. IsTerms front xs) p.0 is)
terms_chain (suc n) done front mid xs rest is h =
    elim (after_comma mid) as (λ o. after_comma mid ≡ o → next_term (more_terms n) done mid o ≡ Some (xs, rest) → (all : List Tok) × (front ++ mid ≡ all ++ rest) × IsTerms all xs) [
      | None ↦ λ e g. let p = some_pair done xs mid rest g in (front, ap (λ m. front ++ m) p.1, subst (λ xs. IsTerms front xs) p.0 is)
      | Some us ↦ λ e g.
          let i = bind_ok (expr_at us) _ _ g in
          let t = expr_sound us i.0.0 i.0.1 i.1 in
          let b = terms_chain n (done ++ i.0.0 ∷ []) (front ++ tok.Comma ∷ t.front) i.0.1 xs rest (one_more_term is t.is) i.2 in (
            b.0,
            ap (λ m. front ++ m) (comma_sound mid us e ∙ ap (λ r. tok.Comma ∷ r) t.splits) ∙ sym (append_assoc front (tok.Comma ∷ t.front) i.0.1) ∙ b.1,
            b.2,
          )
    ] refl h

terms_sound : (ts : List Tok) (xs : List Term) (rest : List Tok) → terms_at ts ≡ Some (xs, rest) → Cut (λ f. IsTerms f xs) ts rest
unfolding terms_at
terms_sound ts xs rest h =
    let i = bind_ok (expr_at ts) _ _ h in
    let t = expr_sound ts i.0.0 i.0.1 i.1 in
    let c = terms_chain (length i.0.1) (i.0.0 ∷ []) t.front i.0.1 xs rest (one_term t.is) i.2 in
    record { front = c.0; splits = t.splits ∙ c.1; is = c.2 }

pars_sound : (ts : List Tok) (xs : List Term) (rest : List Tok) → pars_at ts ≡ Some (xs, rest) → Cut (λ f. IsPars f xs) ts rest
unfolding pars_at
pars_sound ts xs rest h =
    elim (after_open ts) as (λ o. after_open ts ≡ o → pars_in ts o ≡ Some (xs, rest) → Cut (λ f. IsPars f xs) ts rest) [
      | None ↦ λ e g. let p = some_pair [] xs ts rest g in record { front = []; splits = p.1; is = inl (refl, sym p.0) }
      | Some us ↦ λ e g.
          let i = bind_ok (terms_at us) _ _ g in
          let c = bind_ok (after_close i.0.1) _ _ i.2 in
          let p = some_pair i.0.0 xs c.0 rest c.2 in
          let t = terms_sound us i.0.0 i.0.1 i.1 in
          record {
            front = tok.Open ∷ (t.front ++ tok.Close ∷ []);
            splits = open_sound ts us e ∙ ap (λ r. tok.Open ∷ r) (t.splits ∙ ap (λ r. t.front ++ r) (close_sound i.0.1 c.0 c.1 ∙ ap (λ r. tok.Close ∷ r) p.1) ∙ sym (append_assoc t.front (tok.Close ∷ []) rest));
            is = inr (t.front, refl, subst (λ xs. IsTerms t.front xs) p.0 t.is);
          }
    ] refl h

event_sound : (ts : List Tok) (event : EventTerm) (rest : List Tok) → event_tree_at ts ≡ Some (event, rest) → Cut (λ f. IsEventText f event) ts rest
unfolding event_tree_at
event_sound ts event rest h =
    let i = bind_ok (name_at ts) _ _ h in
    let j = bind_ok (pars_at i.0.1) _ _ i.2 in
    let made : EventTerm = record { signal = i.0.0; pars = j.0.0 } in
    let p = some_pair made event j.0.1 rest j.2 in
    let c = pars_sound i.0.1 j.0.0 j.0.1 j.1 in
    record {
      front = tok.Name i.0.0 ∷ c.front;
      splits = name_sound ts i.0.0 i.0.1 i.1 ∙ ap (λ r. tok.Name i.0.0 ∷ r) (c.splits ∙ ap (λ r. c.front ++ r) p.1);
      is = subst (λ e. IsEventText (tok.Name i.0.0 ∷ c.front) e) p.0 (c.front, refl, c.is);
    }

-- the plain action that a word or a name begins
abbrev Orders : Tok → List Tok → Order → List Tok → Type 0
Orders t ts o rest = Cut (λ f. IsOrder f o) (t ∷ ts) rest

made : (t : Tok) (ts front end rest : List Tok) (o o' : Order) → ts ≡ front ++ end → end ≡ rest → o ≡ o' → IsOrder (t ∷ front) o → Orders t ts o' rest
made t ts front end rest o o' e f g is = record { front = t ∷ front; splits = ap (λ r. t ∷ r) (e ∙ ap (λ r. front ++ r) f); is = subst (λ o. IsOrder (t ∷ front) o) g is }

set_sound : (name : Word) (ts : List Tok) (o : Order) (rest : List Tok) → assignment_at name ts ≡ Some (o, rest) → Orders (tok.Name name) ts o rest
unfolding assignment_at IsOrder
set_sound name ts o rest h =
    let a = bind_ok (after_assign ts) _ _ h in
    let i = bind_ok (expr_at a.0) _ _ a.2 in
    let p = some_pair (Set name i.0.0) o i.0.1 rest i.2 in
    let t = expr_sound a.0 i.0.0 i.0.1 i.1 in
    made (tok.Name name) ts (tok.Assign ∷ t.front) i.0.1 rest (Set name i.0.0) o (assign_sound ts a.0 a.1 ∙ ap (λ r. tok.Assign ∷ r) t.splits) p.1 p.0 (t.front, refl, t.is)

say_sound : (ts : List Tok) (o : Order) (rest : List Tok) → say_at ts ≡ Some (o, rest) → Orders (tok.Key key.Say) ts o rest
unfolding say_at IsOrder
say_sound ts o rest h =
    let i = bind_ok (expr_at ts) _ _ h in
    let p = some_pair (Say i.0.0) o i.0.1 rest i.2 in
    let t = expr_sound ts i.0.0 i.0.1 i.1 in
    made (tok.Key key.Say) ts t.front i.0.1 rest (Say i.0.0) o t.splits p.1 p.0 (t.front, refl, t.is)

grouped : (a b c rest : List Tok) → a ++ (b ++ (c ++ rest)) ≡ (a ++ (b ++ c)) ++ rest
grouped a b c rest = simp append_assoc

post_sound : (ts : List Tok) (o : Order) (rest : List Tok) → post_at ts ≡ Some (o, rest) → Orders (tok.Key key.Post) ts o rest
unfolding post_at IsOrder
post_sound ts o rest h =
    let i = bind_ok (receiver_at ts) _ _ h in
    let j = bind_ok (event_tree_at i.0.1) _ _ i.2 in
    let k = bind_ok (margin_at j.0.1) _ _ j.2 in
    let l = bind_ok (reserve_at k.0.1) _ _ k.2 in
    let p = some_pair (Post i.0.0 j.0.0 k.0.0 l.0.0) o l.0.1 rest l.2 in
    let e = event_sound i.0.1 j.0.0 j.0.1 j.1 in
    let m = option_tokens key.Margin k.0.0 in
    let r = option_tokens key.Reserve l.0.0 in
    made (tok.Key key.Post) ts (receiver_token i.0.0 ∷ (e.front ++ (m ++ r))) l.0.1 rest (Post i.0.0 j.0.0 k.0.0 l.0.0) o
    (receiver_sound ts i.0.0 i.0.1 i.1 ∙ ap (λ s. receiver_token i.0.0 ∷ s) (e.splits ∙ ap (λ s. e.front ++ s) (margin_sound j.0.1 k.0.0 k.0.1 k.1 ∙ ap (λ s. m ++ s) (reserve_sound k.0.1 l.0.0 l.0.1 l.1)) ∙ grouped e.front m r l.0.1))
    p.1 p.0 (e.front, refl, e.is)

lifo_sound : (ts : List Tok) (o : Order) (rest : List Tok) → lifo_at ts ≡ Some (o, rest) → Orders (tok.Key key.Lifo) ts o rest
unfolding lifo_at IsOrder
lifo_sound ts o rest h =
    let j = bind_ok (event_tree_at ts) _ _ h in
    let l = bind_ok (reserve_at j.0.1) _ _ j.2 in
    let p = some_pair (Lifo j.0.0 l.0.0) o l.0.1 rest l.2 in
    let e = event_sound ts j.0.0 j.0.1 j.1 in
    let r = option_tokens key.Reserve l.0.0 in
    made (tok.Key key.Lifo) ts (e.front ++ r) l.0.1 rest (Lifo j.0.0 l.0.0) o
    (e.splits ∙ ap (λ s. e.front ++ s) (reserve_sound j.0.1 l.0.0 l.0.1 l.1) ∙ sym (append_assoc e.front r l.0.1))
    p.1 p.0 (e.front, refl, e.is)

publish_sound : (ts : List Tok) (o : Order) (rest : List Tok) → publish_at ts ≡ Some (o, rest) → Orders (tok.Key key.Publish) ts o rest
unfolding publish_at IsOrder
publish_sound ts o rest h =
    let j = bind_ok (event_tree_at ts) _ _ h in
    let l = bind_ok (reserve_at j.0.1) _ _ j.2 in
    let p = some_pair (Publish j.0.0 l.0.0) o l.0.1 rest l.2 in
    let e = event_sound ts j.0.0 j.0.1 j.1 in
    let r = option_tokens key.Reserve l.0.0 in
    made (tok.Key key.Publish) ts (e.front ++ r) l.0.1 rest (Publish j.0.0 l.0.0) o
    (e.splits ∙ ap (λ s. e.front ++ s) (reserve_sound j.0.1 l.0.0 l.0.1 l.1) ∙ sym (append_assoc e.front r l.0.1))
    p.1 p.0 (e.front, refl, e.is)

forward_sound : (ts : List Tok) (o : Order) (rest : List Tok) → forward_at ts ≡ Some (o, rest) → Orders (tok.Key key.Forward) ts o rest
unfolding forward_at IsOrder
forward_sound ts o rest h =
    let i = bind_ok (receiver_at ts) _ _ h in
    let k = bind_ok (margin_at i.0.1) _ _ i.2 in
    let p = some_pair (Forward i.0.0 k.0.0) o k.0.1 rest k.2 in
    made (tok.Key key.Forward) ts (receiver_token i.0.0 ∷ option_tokens key.Margin k.0.0) k.0.1 rest (Forward i.0.0 k.0.0) o
    (receiver_sound ts i.0.0 i.0.1 i.1 ∙ ap (λ s. receiver_token i.0.0 ∷ s) (margin_sound i.0.1 k.0.0 k.0.1 k.1))
    p.1 p.0 refl

arm_sound : (ts : List Tok) (o : Order) (rest : List Tok) → arm_at ts ≡ Some (o, rest) → Orders (tok.Key key.Arm) ts o rest
unfolding arm_at IsOrder
arm_sound ts o rest h =
    let i = bind_ok (name_at ts) _ _ h in
    let a = bind_ok (after_open i.0.1) _ _ i.2 in
    let x = bind_ok (expr_at a.0) _ _ a.2 in
    let b = bind_ok (after_comma x.0.1) _ _ x.2 in
    let y = bind_ok (expr_at b.0) _ _ b.2 in
    let c = bind_ok (after_close y.0.1) _ _ y.2 in
    let p = some_pair (Arm i.0.0 x.0.0 y.0.0) o c.0 rest c.2 in
    let u = expr_sound a.0 x.0.0 x.0.1 x.1 in
    let v = expr_sound b.0 y.0.0 y.0.1 y.1 in
    made (tok.Key key.Arm) ts (tok.Name i.0.0 ∷ tok.Open ∷ (u.front ++ tok.Comma ∷ (v.front ++ tok.Close ∷ []))) c.0 rest (Arm i.0.0 x.0.0 y.0.0) o
    (name_sound ts i.0.0 i.0.1 i.1 ∙ ap (λ s. tok.Name i.0.0 ∷ s) (open_sound i.0.1 a.0 a.1 ∙ ap (λ s. tok.Open ∷ s)
    (u.splits ∙ ap (λ s. u.front ++ s) (comma_sound x.0.1 b.0 b.1 ∙ ap (λ s. tok.Comma ∷ s) (v.splits ∙ ap (λ s. v.front ++ s) (close_sound y.0.1 c.0 c.1) ∙ sym (append_assoc v.front (tok.Close ∷ []) c.0)))
    ∙ sym (append_assoc u.front (tok.Comma ∷ (v.front ++ tok.Close ∷ [])) c.0))))
    p.1 p.0 (u.front, v.front, refl, u.is, v.is)

rearm_sound : (ts : List Tok) (o : Order) (rest : List Tok) → rearm_at ts ≡ Some (o, rest) → Orders (tok.Key key.Rearm) ts o rest
unfolding rearm_at IsOrder
rearm_sound ts o rest h =
    let i = bind_ok (name_at ts) _ _ h in
    let a = bind_ok (after_open i.0.1) _ _ i.2 in
    let x = bind_ok (expr_at a.0) _ _ a.2 in
    let c = bind_ok (after_close x.0.1) _ _ x.2 in
    let p = some_pair (Rearm i.0.0 x.0.0) o c.0 rest c.2 in
    let u = expr_sound a.0 x.0.0 x.0.1 x.1 in
    made (tok.Key key.Rearm) ts (tok.Name i.0.0 ∷ tok.Open ∷ (u.front ++ tok.Close ∷ [])) c.0 rest (Rearm i.0.0 x.0.0) o
    (name_sound ts i.0.0 i.0.1 i.1 ∙ ap (λ s. tok.Name i.0.0 ∷ s) (open_sound i.0.1 a.0 a.1 ∙ ap (λ s. tok.Open ∷ s)
    (u.splits ∙ ap (λ s. u.front ++ s) (close_sound x.0.1 c.0 c.1) ∙ sym (append_assoc u.front (tok.Close ∷ []) c.0))))
    p.1 p.0 (u.front, refl, u.is)

named_sound : (word : Keyword) (make : Word → Order) (ts : List Tok) (o : Order) (rest : List Tok) → ((name : Word) → IsOrder (tok.Key word ∷ tok.Name name ∷ []) (make name)) → named_at make ts ≡ Some (o, rest) → Orders (tok.Key word) ts o rest
named_sound word make ts o rest is h =
    let i = bind_ok (name_at ts) _ _ h in
    let p = some_pair (make i.0.0) o i.0.1 rest i.2 in
    made (tok.Key word) ts (tok.Name i.0.0 ∷ []) i.0.1 rest (make i.0.0) o (name_sound ts i.0.0 i.0.1 i.1) p.1 p.0 (is i.0.0)

alone_sound : (word : Keyword) (o' : Order) (ts : List Tok) (o : Order) (rest : List Tok) → IsOrder (tok.Key word ∷ []) o' → ◌≡◌ {A = Option (Order × List Tok)} (Some (o', ts)) (Some (o, rest)) → Orders (tok.Key word) ts o rest
alone_sound word o' ts o rest is h =
    let p = some_pair o' o ts rest h in made (tok.Key word) ts [] ts rest o' o refl p.1 p.0 is

behind_sound : (word : Keyword) (ts : List Tok) (o : Order) (rest : List Tok) → behind_keyword word ts ≡ Some (o, rest) → Orders (tok.Key word) ts o rest
unfolding behind_keyword IsOrder
behind_sound key.Locked ts o rest h = cc
behind_sound key.Say ts o rest h = say_sound ts o rest h
behind_sound key.Post ts o rest h = post_sound ts o rest h
behind_sound key.Lifo ts o rest h = lifo_sound ts o rest h
behind_sound key.Forward ts o rest h = forward_sound ts o rest h
behind_sound key.Publish ts o rest h = publish_sound ts o rest h
behind_sound key.Defer ts o rest h = alone_sound key.Defer Defer ts o rest refl h
behind_sound key.Recall ts o rest h = alone_sound key.Recall Recall ts o rest refl h
behind_sound key.Flush ts o rest h = alone_sound key.Flush Flush ts o rest refl h
behind_sound key.Subscribe ts o rest h = named_sound key.Subscribe Subscribe ts o rest (λ name. refl) h
behind_sound key.Unsubscribe ts o rest h = named_sound key.Unsubscribe Unsubscribe ts o rest (λ name. refl) h
behind_sound key.Arm ts o rest h = arm_sound ts o rest h
behind_sound key.Rearm ts o rest h = rearm_sound ts o rest h
behind_sound key.Disarm ts o rest h = named_sound key.Disarm Disarm ts o rest (λ name. refl) h
behind_sound key.Margin ts o rest h = cc
behind_sound key.Reserve ts o rest h = cc

plain_sound : (ts : List Tok) (o : Order) (rest : List Tok) → plain_at ts ≡ Some (o, rest) → Cut (λ f. IsOrder f o) ts rest
unfolding plain_at
plain_sound [] o rest h = cc
plain_sound (tok.Name name ∷ ts) o rest h = set_sound name ts o rest h
plain_sound (tok.Key word ∷ ts) o rest h = behind_sound word ts o rest h
plain_sound (t ∷ ts) o rest h = cc

orders_chain : (n : ℕ) (done : List Order) (front mid : List Tok) (xs : List Order) (rest : List Tok) → IsOrders front done → more_orders n done mid ≡ Some (xs, rest) → (all : List Tok) × (front ++ mid ≡ all ++ rest) × IsOrders all xs
unfolding more_orders
orders_chain zero done front mid xs rest is h =
    let p = some_pair done xs mid rest h in (front, ap (λ m. front ++ m) p.1, subst (λ xs. IsOrders front xs) p.0 is)
orders_chain (suc n) done front mid xs rest is h =
    elim (after_semicolon mid) as (λ o. after_semicolon mid ≡ o → next_order (more_orders n) done mid o ≡ Some (xs, rest) → (all : List Tok) × (front ++ mid ≡ all ++ rest) × IsOrders all xs) [
      | None ↦ λ e g. let p = some_pair done xs mid rest g in (front, ap (λ m. front ++ m) p.1, subst (λ xs. IsOrders front xs) p.0 is)
      | Some us ↦ λ e g.
          let i = bind_ok (plain_at us) _ _ g in
          let t = plain_sound us i.0.0 i.0.1 i.1 in
          let b = orders_chain n (done ++ i.0.0 ∷ []) (front ++ tok.Semicolon ∷ t.front) i.0.1 xs rest (one_more_order t.front i.0.0 is t.is) i.2 in (
            b.0,
            ap (λ m. front ++ m) (semicolon_sound mid us e ∙ ap (λ r. tok.Semicolon ∷ r) t.splits) ∙ sym (append_assoc front (tok.Semicolon ∷ t.front) i.0.1) ∙ b.1,
            b.2,
          )
    ] refl h

orders_sound : (ts : List Tok) (xs : List Order) (rest : List Tok) → orders_at ts ≡ Some (xs, rest) → Cut (λ f. IsOrders f xs) ts rest
unfolding orders_at
orders_sound ts xs rest h =
    let i = bind_ok (plain_at ts) _ _ h in
    let t = plain_sound ts i.0.0 i.0.1 i.1 in
    let c = orders_chain (length i.0.1) (i.0.0 ∷ []) t.front i.0.1 xs rest (one_order t.is) i.2 in
    record { front = c.0; splits = t.splits ∙ c.1; is = c.2 }

locked_sound : (ts : List Tok) (c : Command) (rest : List Tok) → locked_at ts ≡ Some (c, rest) → Cut (λ f. IsCommand f c) (tok.Key key.Locked ∷ ts) rest
unfolding locked_at IsCommand
locked_sound ts c rest h =
    let i = bind_ok (number_token_at ts) _ _ h in
    let a = bind_ok (after_open_list i.0.1) _ _ i.2 in
    let x = bind_ok (orders_at a.0) _ _ a.2 in
    let z = bind_ok (after_close_list x.0.1) _ _ x.2 in
    let p = some_pair (Locked i.0.0 x.0.0) c z.0 rest z.2 in
    let u = orders_sound a.0 x.0.0 x.0.1 x.1 in
    let front = tok.Key key.Locked ∷ tok.Num i.0.0 ∷ tok.OpenList ∷ (u.front ++ tok.CloseList ∷ []) in
    record {
      front = front;
      splits = ap (λ s. tok.Key key.Locked ∷ s) (number_sound ts i.0.0 i.0.1 i.1 ∙ ap (λ s. tok.Num i.0.0 ∷ s) (open_list_sound i.0.1 a.0 a.1 ∙ ap (λ s. tok.OpenList ∷ s)
          (u.splits ∙ ap (λ s. u.front ++ s) (close_list_sound x.0.1 z.0 z.1 ∙ ap (λ s. tok.CloseList ∷ s) p.1) ∙ sym (append_assoc u.front (tok.CloseList ∷ []) rest))));
      is = subst (λ c. IsCommand front c) p.0 (u.front, refl, u.is);
    }

plain_command : (ts : List Tok) (c : Command) (rest : List Tok) → plain_command_at ts ≡ Some (c, rest) → Cut (λ f. IsCommand f c) ts rest
unfolding IsCommand
plain_command ts c rest h =
    let i = bind_ok (plain_at ts) _ _ h in
    let p = some_pair (Plain i.0.0) c i.0.1 rest i.2 in
    let t = plain_sound ts i.0.0 i.0.1 i.1 in
    record { front = t.front; splits = t.splits ∙ ap (λ r. t.front ++ r) p.1; is = subst (λ c. IsCommand t.front c) p.0 t.is }

-- what is read is in the grammar
pub command_sound : (ts : List Tok) (c : Command) (rest : List Tok) → command_at ts ≡ Some (c, rest) → Cut (λ f. IsCommand f c) ts rest
unfolding command_at
command_sound [] c rest h = plain_command [] c rest h
command_sound (tok.Key key.Locked ∷ ts) c rest h = locked_sound ts c rest h
command_sound (t ∷ ts) c rest h = plain_command (t ∷ ts) c rest h
