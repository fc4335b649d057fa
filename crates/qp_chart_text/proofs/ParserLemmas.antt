-- Operands and operators, as they are read.
use Rattle.std.proofs.Common.{◌≡◌, ◌<◌, ◌≤◌, ◌-◌, ℕ, zero, suc, Bool, true, false, List, [], ◌∷◌, length, Option, Some, None, Result, refl, ap, sym, ◌∙◌, arith, cond, subst, ◌==◌, eq-eqb, map}
use Rattle.std.specs.Prelude.{IsErrAnd}
use Rattle.std.proofs.lemmas.Bool.{ne_eqb}
use Rattle.std.proofs.lemmas.Result.{err_from_is_err_and}
use Rattle.qp_chart_text.specs.declared.operators.Binary.{Binary}
use Rattle.qp_chart_text.specs.declared.trees.ExprFault.{ExprFault}
use Rattle.qp_chart_text.specs.declared.trees.ExprFault.TheVariants as fault
use Rattle.qp_chart_text.specs.Terms.{Term}
use Rattle.qp_chart_text.specs.Terms as term
use Rattle.qp_chart_text.specs.declared.tokens.Token.{Token}
use Rattle.qp_chart_text.specs.Tokens.{Tok, tok_of, ◌>>=◌}
use Rattle.qp_chart_text.specs.Tokens as tok
use Rattle.qp_chart_text.specs.Reading.{Fails, Gives, Part, Reader, rank_of, operator_at, step, more_at, level_at, atom_at, prefix_at, term_operand_at, unary_at, all_of}

-- nothing is found where a part isn't
pub fails_on : {A B : Type 0} (e : ExprFault) (part : Option A) (k : A → Option B) → Fails e part → Fails e (part >>= k)
fails_on fault.Memory part k h = tt
fails_on fault.Bad part k h = ap (λ o. o >>= k) h

-- a fault that is passed on
pub passes_on : {X Y : Type 0} (view : X → Y) (r : Result X ExprFault) (e : ExprFault) (whole : Option Y) → IsErrAnd r (λ y. y ≡ e) → Fails e whole → Gives view r whole
passes_on view r e whole is h =
    let p = err_from_is_err_and r is in
    let P : Result _ ExprFault → Type 0 = λ r. Gives view r whole in
    subst P (sym p.1) (subst (λ e. Fails e whole) (sym p.2) h)

pub level_zero : (operand : Reader) (rank : ℕ) (ts : List Tok) → rank ≡ 0 → level_at operand rank ts ≡ operand ts
unfolding level_at
level_zero operand zero ts h = refl
level_zero operand (suc rank) ts h = absurd (omega arith)

pub level_up : (operand : Reader) (rank : ℕ) (ts : List Tok) → 0 < rank → level_at operand rank ts ≡ (level_at operand (rank - 1) ts >>= (λ left. more_at (level_at operand (rank - 1)) rank (length left.1) left.0 left.1))
unfolding level_at
level_up operand zero ts h = absurd (omega arith)
level_up operand (suc rank) ts h = let e : suc rank - 1 ≡ rank = omega arith in rw e refl

-- so far this left operand, and then what follows it
pub record MoreFrom (whole : Part Term) (operand : Reader) (rank : ℕ) (left : Term) (rest : List Tok) : Type 0 where
  pub fuel : ℕ
  pub enough : length rest ≤ fuel
  pub is : whole ≡ more_at operand rank fuel left rest

tested : (b : Bool) (op : Binary) (ts : List Tok) (x : Binary × List Tok) → cond b (Some (op, ts)) None ≡ Some x → ts ≡ x.1
tested true op ts x h = cc
tested false op ts x h = cc

pub operator_shorter : (rank : ℕ) (rest : List Tok) (x : Binary × List Tok) → operator_at rank rest ≡ Some x → length x.1 < length rest
unfolding operator_at rank_of
operator_shorter rank [] x h = cc
operator_shorter rank (tok.Op op ∷ ts) x h = rw (← tested (rank_of op == rank) op ts x h) (omega arith)
operator_shorter rank (t ∷ ts) x h = cc

pub ends : (operand : Reader) (rank n : ℕ) (left : Term) (rest : List Tok) → operator_at rank rest ≡ None → more_at operand rank n left rest ≡ Some (left, rest)
unfolding more_at
ends operand rank zero left rest h = refl
ends operand rank (suc n) left rest h = rw h refl

module _ (whole : Part Term) (operand : Reader) (rank : ℕ) (left : Term) (rest : List Tok) where
  pub more_ends : MoreFrom whole operand rank left rest → operator_at rank rest ≡ None → whole ≡ Some (left, rest)
  more_ends m h = m.is ∙ ends operand rank m.fuel left rest h

  -- the fuel is enough for one more operator
  pub one_more : (op : Binary) (us : List Tok) → operator_at rank rest ≡ Some (op, us) → MoreFrom whole operand rank left rest → (n : ℕ) × (length us ≤ n) × (whole ≡ step operand rank (more_at operand rank n) left rest (Some (op, us)))
  unfolding more_at
  one_more op us h m =
      elim m.fuel as (λ k. length rest ≤ k → whole ≡ more_at operand rank k left rest → (n : ℕ) × (length us ≤ n) × (whole ≡ step operand rank (more_at operand rank n) left rest (Some (op, us)))) [
        | zero ↦ λ enough is. absurd (omega (arith, enough, operator_shorter rank rest (op, us) h))
        | suc n ↦ λ enough is. (n, omega (arith, enough, operator_shorter rank rest (op, us) h), is ∙ rw h refl)
      ] m.enough m.is

  pub more_fails : (op : Binary) (us : List Tok) (e : ExprFault) → operator_at rank rest ≡ Some (op, us) → MoreFrom whole operand rank left rest → Fails e (operand us) → Fails e whole
  more_fails op us e h m f =
      let o = one_more op us h m in
      let P : Part Term → Type 0 = λ p. Fails e p in
      subst P (sym o.2) (fails_on e (operand us) _ f)

  pub more_compares : (op : Binary) (us after : List Tok) (right : Term) → operator_at rank rest ≡ Some (op, us) → MoreFrom whole operand rank left rest → operand us ≡ Some (right, after) → rank ≡ 3 → whole ≡ Some (term.Two op left right, after)
  more_compares op us after right h m found three =
      let o = one_more op us h m in
      o.2 ∙ rw found (rw (eq-eqb rank 3 three) refl)

  pub more_goes_on : (op : Binary) (us after : List Tok) (right : Term) → operator_at rank rest ≡ Some (op, us) → MoreFrom whole operand rank left rest → operand us ≡ Some (right, after) → length after ≤ length us → (rank ≡ 3 → ⊥) → MoreFrom whole operand rank (term.Two op left right) after
  more_goes_on op us after right h m found shorter other =
      let o = one_more op us h m in
      record { fuel = o.0; enough = omega (arith, o.1, shorter); is = o.2 ∙ rw found (rw (ne_eqb rank 3 other) refl) }

pub unary_zero : (d : ℕ) (ts : List Tok) → d ≡ 0 → unary_at d ts ≡ atom_at ts
unfolding unary_at
unary_zero zero ts h = refl
unary_zero (suc d) ts h = absurd (omega arith)

pub unary_up : (d : ℕ) (ts : List Tok) → 0 < d → unary_at d ts ≡ term_operand_at (unary_at (d - 1)) ts (prefix_at ts)
unfolding unary_at
unary_up zero ts h = absurd (omega arith)
unary_up (suc d) ts h = let e : suc d - 1 ≡ d = omega arith in rw e refl

pub all_read : (x : Term) (rest : List Token) → length rest ≡ 0 → all_of (x, map tok_of rest) ≡ Some x
all_read x [] h = refl
all_read x (t ∷ ts) h = absurd (omega arith)

pub more_left : (x : Term) (rest : List Token) → (length rest ≡ 0 → ⊥) → all_of (x, map tok_of rest) ≡ None
more_left x [] h = absurd (h refl)
more_left x (t ∷ ts) h = refl
