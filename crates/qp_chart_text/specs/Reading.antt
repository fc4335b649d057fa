-- What readers of a text answer.
use Rattle.std.specs.Prelude.{◌≡◌, ℕ, zero, suc, ◌==◌, List, [], ◌∷◌, length, if◌then◌else◌, Option, Some, None, Result, Ok, Err}
use Rattle.qp_chart_text.specs.declared.operators.Unary.TheVariants as unary
use Rattle.qp_chart_text.specs.declared.operators.Binary.{Binary}
use Rattle.qp_chart_text.specs.declared.operators.Binary.TheVariants as binary
use Rattle.qp_chart_text.specs.declared.parser.Prefix.{Prefix}
use Rattle.qp_chart_text.specs.declared.parser.Prefix.TheVariants as prefix
use Rattle.qp_chart_text.specs.declared.trees.ExprFault.{ExprFault}
use Rattle.qp_chart_text.specs.declared.trees.ExprFault.TheVariants as fault
use Rattle.qp_chart_text.specs.Terms.{Term}
use Rattle.qp_chart_text.specs.Terms as term
use Rattle.qp_chart_text.specs.Tokens.{Tok, tokens_of_text, ◌>>=◌}
use Rattle.qp_chart_text.specs.Tokens as tok

-- nothing was found, unless memory ran out
abbrev pub Fails : {Y : Type 0} → ExprFault → Option Y → Type 0
Fails fault.Memory found = Unit {0}
Fails fault.Bad found = found ≡ None

-- what is answered, seen by view, is what is found
abbrev pub Gives : {X Y : Type 0} → (X → Y) → Result X ExprFault → Option Y → Type 0
Gives view (Ok x) found = found ≡ Some (view x)
Gives view (Err e) found = Fails e found

-- a part that begins the tokens, and the tokens after it
abbrev pub Part : Type 0 → Type 0
Part A = Option (A × List Tok)

abbrev pub Reader : Type 0
Reader = List Tok → Part Term

-- how loosely an operator binds; three is for comparisons
unfoldable pub rank_of : Binary → ℕ
rank_of binary.Or = 5
rank_of binary.And = 4
rank_of binary.Equal = 3
rank_of binary.Differs = 3
rank_of binary.Below = 3
rank_of binary.AtMost = 3
rank_of binary.Above = 3
rank_of binary.AtLeast = 3
rank_of binary.Plus = 2
rank_of binary.Minus = 2
rank_of binary.Times = 1
rank_of binary.Over = 1
rank_of binary.Rest = 1

-- the operator of this rank that begins the tokens
unfoldable pub operator_at : ℕ → List Tok → Part Binary
unfolding rank_of
operator_at rank [] = None
operator_at rank (tok.Op op ∷ ts) = if rank_of op == rank then Some (op, ts) else None
operator_at rank (t ∷ ts) = None

-- one more operator and its right operand, and then go; a comparison is the only one of its rank
abbrev pub step : Reader → ℕ → (Term → Reader) → Term → List Tok → Part Binary → Part Term
step operand rank go left ts None = Some (left, ts)
step operand rank go left ts (Some (op, us)) =
    operand us >>= (λ right. if rank == 3 then Some (term.Two op left right.0, right.1) else go (term.Two op left right.0) right.1)

-- goes on behind a left operand with at most n operators of this rank
unfoldable pub more_at : Reader → ℕ → ℕ → Term → Reader
unfolding operator_at
more_at operand rank zero left ts = Some (left, ts)
more_at operand rank (suc n) left ts = step operand rank (more_at operand rank n) left ts (operator_at rank ts)

-- operands that are joined by operators up to this rank
unfoldable pub level_at : Reader → ℕ → Reader
unfolding more_at
level_at operand zero ts = operand ts
level_at operand (suc rank) ts =
    level_at operand rank ts >>= (λ left. more_at (level_at operand rank) (suc rank) (length left.1) left.0 left.1)

unfoldable pub atom_at : Reader
atom_at [] = None
atom_at (tok.Num n ∷ ts) = Some (term.Num n, ts)
atom_at (tok.Name name ∷ ts) = Some (term.Var name, ts)
atom_at (tok.Ok ∷ ts) = Some (term.Ok, ts)
atom_at (tok.Me ∷ ts) = Some (term.Me, ts)
atom_at (tok.Par j ∷ ts) = Some (term.Par j, ts)
atom_at (t ∷ ts) = None

-- the tokens behind a closing parenthesis
unfoldable pub after_close : List Tok → Option (List Tok)
after_close (tok.Close ∷ ts) = Some ts
after_close ts = None

-- a sign or an opening parenthesis
unfoldable pub prefix_at : List Tok → Part Prefix
prefix_at (tok.Bang ∷ ts) = Some (prefix.Sign unary.Not, ts)
prefix_at (tok.Op binary.Minus ∷ ts) = Some (prefix.Sign unary.Minus, ts)
prefix_at (tok.Open ∷ ts) = Some (prefix.Parens, ts)
prefix_at ts = None

-- what stands behind a sign, or within parentheses
abbrev pub nested_at : Reader → Prefix → Reader
nested_at reader (prefix.Sign op) ts = reader ts >>= (λ x. Some (term.One op x.0, x.1))
nested_at reader prefix.Parens ts = level_at reader 5 ts >>= (λ x. after_close x.1 >>= (λ rest. Some (x.0, rest)))

abbrev pub term_operand_at : Reader → List Tok → Part Prefix → Part Term
term_operand_at reader ts None = atom_at ts
term_operand_at reader ts (Some (p, us)) = nested_at reader p us

-- an operand in which signs and parentheses nest at most so deep
unfoldable pub unary_at : ℕ → Reader
unfolding level_at atom_at prefix_at after_close
unary_at zero ts = atom_at ts
unary_at (suc d) ts = term_operand_at (unary_at d) ts (prefix_at ts)

-- an expression that begins the tokens
unfoldable pub expr_at : Reader
unfolding unary_at level_at
expr_at ts = level_at (unary_at 16) 5 ts

abbrev pub all_of : {A : Type 0} → A × List Tok → Option A
all_of (x, []) = Some x
all_of (x, t ∷ ts) = None

-- the expression of a text
unfoldable pub term_of_text : List ℕ → Option Term
unfolding tokens_of_text expr_at
term_of_text text = tokens_of_text text >>= (λ ts. expr_at ts >>= all_of)
