-- Which names and parameters of an expression stand for something.
use Rattle.std.specs.Prelude.{ℕ, nat_le, nat_eq, ◌&&◌, Bool, true, List, map}
use Rattle.std.specs.List.{list_any}
use Rattle.std.specs.Cmp.Lexicographic.{pointwise}
use Rattle.qp_chart_text.specs.Terms.{Word, Term, Num, Var, Ok, Me, Par, One, Two}

-- the names' bytes
abbrev pub words : List (List ℕ) → List Word
words names = map (λ n. n) names

-- the name has these bytes
abbrev pub has_name : Word → (List ℕ) → Bool
has_name name v = pointwise nat_eq v name

-- the word stands in the list
abbrev pub is_among : List Word → Word → Bool
is_among vars name = list_any (λ v. pointwise nat_eq v name) vars

-- each variable of the expression is one of these
unfoldable pub knows : List Word → Term → Bool
knows vars (Num n) = true
knows vars (Var name) = is_among vars name
knows vars Ok = true
knows vars Me = true
knows vars (Par j) = true
knows vars (One op x) = knows vars x
knows vars (Two op x y) = knows vars x && knows vars y

-- each parameter of the expression is numbered from 1 to this
unfoldable pub reaches : ℕ → Term → Bool
reaches params (Num n) = true
reaches params (Var name) = true
reaches params Ok = true
reaches params Me = true
reaches params (Par j) = nat_le 1 j && nat_le j params
reaches params (One op x) = reaches params x
reaches params (Two op x y) = reaches params x && reaches params y
