-- Lists of expressions and of actions, as they are read.
use Rattle.std.proofs.Common.{◌≡◌, ◌<◌, ◌≤◌, ℕ, zero, suc, List, [], ◌∷◌, ◌++◌, length, Some, None, refl, sym, ◌∙◌, arith, subst}
use Rattle.qp_chart_text.specs.declared.trees.ExprFault.{ExprFault}
use Rattle.qp_chart_text.specs.Terms.{Term, Order}
use Rattle.qp_chart_text.specs.Tokens.{Tok}
use Rattle.qp_chart_text.specs.Tokens as tok
use Rattle.qp_chart_text.specs.Reading.{Fails, Part, expr_at}
use Rattle.qp_chart_text.specs.ReadingActions.{after_comma, after_semicolon, next_term, more_terms, plain_at, next_order, more_orders}
use Rattle.qp_chart_text.proofs.ParserLemmas.{fails_on}

comma_shorter : (ts us : List Tok) → after_comma ts ≡ Some us → length us < length ts
unfolding after_comma
comma_shorter [] us h = cc
comma_shorter (tok.Comma ∷ ts) us h = let e : ts ≡ us = cc in rw (← e) (omega arith)
comma_shorter (t ∷ ts) us h = cc

-- so far these expressions, and then those that follow
pub record ThenTerms (whole : Part (List Term)) (done : List Term) (rest : List Tok) : Type 0 where
  pub fuel : ℕ
  pub enough : length rest ≤ fuel
  pub is : whole ≡ more_terms fuel done rest

pub terms_stop : (n : ℕ) (done : List Term) (rest : List Tok) → after_comma rest ≡ None → more_terms n done rest ≡ Some (done, rest)
unfolding more_terms
terms_stop zero done rest h = refl
terms_stop (suc n) done rest h = rw h refl

pub terms_end : (whole : Part (List Term)) (done : List Term) (rest : List Tok) → ThenTerms whole done rest → after_comma rest ≡ None → whole ≡ Some (done, rest)
terms_end whole done rest m h = m.is ∙ terms_stop m.fuel done rest h

one_term : (whole : Part (List Term)) (done : List Term) (rest us : List Tok) → ThenTerms whole done rest → after_comma rest ≡ Some us → (n : ℕ) × (length us ≤ n) × (whole ≡ next_term (more_terms n) done rest (Some us))
unfolding more_terms
one_term whole done rest us m h =
    elim m.fuel as (λ k. length rest ≤ k → whole ≡ more_terms k done rest → (n : ℕ) × (length us ≤ n) × (whole ≡ next_term (more_terms n) done rest (Some us))) [
      | zero ↦ λ enough is. absurd (omega (arith, enough, comma_shorter rest us h))
      | suc n ↦ λ enough is. (n, omega (arith, enough, comma_shorter rest us h), is ∙ rw h refl)
    ] m.enough m.is

pub terms_fail : (whole : Part (List Term)) (done : List Term) (rest us : List Tok) (e : ExprFault) → ThenTerms whole done rest → after_comma rest ≡ Some us → Fails e (expr_at us) → Fails e whole
terms_fail whole done rest us e m h f =
    let o = one_term whole done rest us m h in
    let P : Part (List Term) → Type 0 = λ p. Fails e p in
    subst P (sym o.2) (fails_on e (expr_at us) _ f)

pub terms_go_on : (whole : Part (List Term)) (done : List Term) (rest us after : List Tok) (x : Term) → ThenTerms whole done rest → after_comma rest ≡ Some us → expr_at us ≡ Some (x, after) → length after ≤ length us → ThenTerms whole (done ++ x ∷ []) after
terms_go_on whole done rest us after x m h found shorter =
    let o = one_term whole done rest us m h in
    record { fuel = o.0; enough = omega (arith, o.1, shorter); is = o.2 ∙ rw found refl }

semicolon_shorter : (ts us : List Tok) → after_semicolon ts ≡ Some us → length us < length ts
unfolding after_semicolon
semicolon_shorter [] us h = cc
semicolon_shorter (tok.Semicolon ∷ ts) us h = let e : ts ≡ us = cc in rw (← e) (omega arith)
semicolon_shorter (t ∷ ts) us h = cc

-- so far these actions, and then those that follow
pub record ThenOrders (whole : Part (List Order)) (done : List Order) (rest : List Tok) : Type 0 where
  pub fuel : ℕ
  pub enough : length rest ≤ fuel
  pub is : whole ≡ more_orders fuel done rest

pub orders_stop : (n : ℕ) (done : List Order) (rest : List Tok) → after_semicolon rest ≡ None → more_orders n done rest ≡ Some (done, rest)
unfolding more_orders
orders_stop zero done rest h = refl
orders_stop (suc n) done rest h = rw h refl

pub orders_end : (whole : Part (List Order)) (done : List Order) (rest : List Tok) → ThenOrders whole done rest → after_semicolon rest ≡ None → whole ≡ Some (done, rest)
orders_end whole done rest m h = m.is ∙ orders_stop m.fuel done rest h

one_order : (whole : Part (List Order)) (done : List Order) (rest us : List Tok) → ThenOrders whole done rest → after_semicolon rest ≡ Some us → (n : ℕ) × (length us ≤ n) × (whole ≡ next_order (more_orders n) done rest (Some us))
unfolding more_orders
one_order whole done rest us m h =
    elim m.fuel as (λ k. length rest ≤ k → whole ≡ more_orders k done rest → (n : ℕ) × (length us ≤ n) × (whole ≡ next_order (more_orders n) done rest (Some us))) [
      | zero ↦ λ enough is. absurd (omega (arith, enough, semicolon_shorter rest us h))
      | suc n ↦ λ enough is. (n, omega (arith, enough, semicolon_shorter rest us h), is ∙ rw h refl)
    ] m.enough m.is

pub orders_fail : (whole : Part (List Order)) (done : List Order) (rest us : List Tok) (e : ExprFault) → ThenOrders whole done rest → after_semicolon rest ≡ Some us → Fails e (plain_at us) → Fails e whole
orders_fail whole done rest us e m h f =
    let o = one_order whole done rest us m h in
    let P : Part (List Order) → Type 0 = λ p. Fails e p in
    subst P (sym o.2) (fails_on e (plain_at us) _ f)

pub orders_go_on : (whole : Part (List Order)) (done : List Order) (rest us after : List Tok) (x : Order) → ThenOrders whole done rest → after_semicolon rest ≡ Some us → plain_at us ≡ Some (x, after) → length after ≤ length us → ThenOrders whole (done ++ x ∷ []) after
orders_go_on whole done rest us after x m h found shorter =
    let o = one_order whole done rest us m h in
    record { fuel = o.0; enough = omega (arith, o.1, shorter); is = o.2 ∙ rw found refl }
