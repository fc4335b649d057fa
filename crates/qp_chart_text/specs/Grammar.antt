-- The grammar of expressions, on their tokens.
use Rattle.std.specs.Prelude.{◌≡◌, ◌≢◌, ℕ, ℤ, zero, suc, List, [], ◌∷◌, ◌++◌, Some}
use Rattle.qp_chart_text.specs.declared.operators.Unary.{Unary}
use Rattle.qp_chart_text.specs.declared.operators.Unary.TheVariants as unary
use Rattle.qp_chart_text.specs.declared.operators.Binary.{Binary}
use Rattle.qp_chart_text.specs.declared.operators.Binary.TheVariants as binary
use Rattle.qp_chart_text.specs.Terms.{Word, Term}
use Rattle.qp_chart_text.specs.Terms as term
use Rattle.qp_chart_text.specs.Tokens.{Tok, tokens_of_text}
use Rattle.qp_chart_text.specs.Tokens as tok
use Rattle.qp_chart_text.specs.Reading.{rank_of}

abbrev pub sign_token : Unary → Tok
sign_token unary.Not = tok.Bang
sign_token unary.Minus = tok.Op binary.Minus

-- The tokens are an expression of this rank, whose signs and parentheses nest at most so deep. Rank 0 is an operand;
-- 1 is joined by `*`, `/` and `%`, 2 by `+` and `-`, 3 by a comparison, 4 by `&&`, 5 by `||`.
pub data IsExpr : (rank depth : ℕ) → List Tok → Term → Type 0 where
  number : {d : ℕ} {n : ℤ} → IsExpr zero d (tok.Num n ∷ []) (term.Num n)
  variable : {d : ℕ} {name : Word} → IsExpr zero d (tok.Name name ∷ []) (term.Var name)
  ok : {d : ℕ} → IsExpr zero d (tok.Ok ∷ []) term.Ok
  me : {d : ℕ} → IsExpr zero d (tok.Me ∷ []) term.Me
  parameter : {d j : ℕ} → IsExpr zero d (tok.Par j ∷ []) (term.Par j)
  sign : {d : ℕ} {op : Unary} {ts : List Tok} {x : Term} → IsExpr zero d ts x → IsExpr zero (suc d) (sign_token op ∷ ts) (term.One op x)
  parens : {d : ℕ} {ts : List Tok} {x : Term} → IsExpr 5 d ts x → IsExpr zero (suc d) (tok.Open ∷ (ts ++ tok.Close ∷ [])) x
  -- a tighter expression
  tighter : {r d : ℕ} {ts : List Tok} {x : Term} → IsExpr r d ts x → IsExpr (suc r) d ts x
  -- operators of one rank group from the left
  joined : {r d : ℕ} {op : Binary} {ts us : List Tok} {x y : Term} → rank_of op ≡ suc r → suc r ≢ 3 → IsExpr (suc r) d ts x → IsExpr r d us y → IsExpr (suc r) d (ts ++ tok.Op op ∷ us) (term.Two op x y)
  -- a comparison doesn't group
  compared : {d : ℕ} {op : Binary} {ts us : List Tok} {x y : Term} → rank_of op ≡ 3 → IsExpr 2 d ts x → IsExpr 2 d us y → IsExpr 3 d (ts ++ tok.Op op ∷ us) (term.Two op x y)

-- the text is this expression
abbrev pub IsExprText : List ℕ → Term → Type 0
IsExprText text x = (ts : List Tok) × (tokens_of_text text ≡ Some ts) × IsExpr 5 16 ts x
