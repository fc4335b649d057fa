-- What an expression says whose names are resolved.
use Rattle.std.specs.Prelude.{◌≡◌, ℕ, ℤ, List, [], ◌∷◌, ◌++◌, ◌+◌, refl}
use Rattle.std.specs.Coded.{Coded, code_by, coded⊎, coded_ℕ, coded_ℤ, coded_bool, coded_list}
use Rattle.qp_chart_text.specs.declared.operators.Unary.{Unary}
use Rattle.qp_chart_text.specs.declared.operators.Binary.{Binary}
use Rattle.qp_chart_text.specs.contracts.operators.Unary as unary
use Rattle.qp_chart_text.specs.contracts.operators.Binary as binary
use Rattle.std.proofs.Common.{◌∙◌, ap, append_assoc, append-nil, ◌⊎◌, inl, inr, sym, Bool, true, false}

pub data Tree : Type 0 where
  Num : (n : ℤ) → Tree
  Var : (v : ℕ) → Tree
  Ok : Tree
  Me : Tree
  Par : (j : ℕ) → Tree
  One : (op : Unary) (x : Tree) → Tree
  Two : (op : Binary) (x y : Tree) → Tree

abbrev pub tree_size : Tree → ℕ
tree_size (Num n) = 0
tree_size (Var v) = 0
tree_size Ok = 0
tree_size Me = 0
tree_size (Par j) = 0
tree_size (One op x) = tree_size x + 1
tree_size (Two op x y) = tree_size x + tree_size y + 1

-- a tree is stored as its parts, each behind its operands
abbrev Sign : Type 0
Sign = (ℤ ⊎ (ℕ ⊎ ℕ)) ⊎ ((Bool ⊎ Unary) ⊎ Binary)

abbrev first : List Tree → Tree
first [] = Me
first (t ∷ ts) = t

abbrev signs : Tree → List Sign
signs (Num n) = inl (inl n) ∷ []
signs (Var v) = inl (inr (inl v)) ∷ []
signs (Par j) = inl (inr (inr j)) ∷ []
signs Ok = inr (inl (inl true)) ∷ []
signs Me = inr (inl (inl false)) ∷ []
signs (One op x) = signs x ++ inr (inl (inr op)) ∷ []
signs (Two op x y) = signs x ++ (signs y ++ inr (inr op) ∷ [])

abbrev one : Unary → List Tree → List Tree
one op [] = []
one op (x ∷ ts) = One op x ∷ ts

abbrev two : Binary → List Tree → List Tree
two op [] = []
two op (y ∷ []) = []
two op (y ∷ (x ∷ ts)) = Two op x y ∷ ts

abbrev put : Sign → List Tree → List Tree
put (inl (inl n)) ts = Num n ∷ ts
put (inl (inr (inl v))) ts = Var v ∷ ts
put (inl (inr (inr j))) ts = Par j ∷ ts
put (inr (inl (inl true))) ts = Ok ∷ ts
put (inr (inl (inl false))) ts = Me ∷ ts
put (inr (inl (inr op))) ts = one op ts
put (inr (inr op)) ts = two op ts

abbrev built : List Sign → List Tree → List Tree
built [] ts = ts
built (s ∷ ss) ts = built ss (put s ts)

build : (t : Tree) (ss : List Sign) (ts : List Tree) → built (signs t ++ ss) ts ≡ built ss (t ∷ ts)
build (Num n) ss ts = refl
build (Var v) ss ts = refl
build (Par j) ss ts = refl
build Ok ss ts = refl
build Me ss ts = refl
build (One op x) ss ts = ap (λ l. built l ts) (append_assoc (signs x) (inr (inl (inr op)) ∷ []) ss) ∙ build x (inr (inl (inr op)) ∷ ss) ts
build (Two op x y) ss ts =
    ap (λ l. built l ts) (append_assoc (signs x) (signs y ++ inr (inr op) ∷ []) ss ∙ ap (λ l. signs x ++ l) (append_assoc (signs y) (inr (inr op) ∷ []) ss))
    ∙ build x (signs y ++ inr (inr op) ∷ ss) ts ∙ build y (inr (inr op) ∷ ss) (x ∷ ts)

pub built-signs : (t : Tree) → first (built (signs t) []) ≡ t
built-signs t = ap (λ l. first (built l [])) (sym (append-nil (signs t))) ∙ ap first (build t [] [])

abbrev pub tree_code : Coded Tree
tree_code =
    code_by (List Sign) (coded_list (coded⊎ (coded⊎ coded_ℤ (coded⊎ coded_ℕ coded_ℕ)) (coded⊎ (coded⊎ coded_bool unary.the_row.coded) binary.the_row.coded))) signs (λ l. first (built l [])) built-signs
