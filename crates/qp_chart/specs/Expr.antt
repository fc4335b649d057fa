-- The value of a bound expression.
use Rattle.std.specs.Prelude.{ℕ, ◌-◌, ◌<◌, ◌≤◌, ℤ, pos, Bool, not, ◌&&◌, ◌||◌, List, if◌then◌else◌, int_lt, int_le, slice_get}
use Rattle.std.specs.Option.{unwrap_or}
use Rattle.std.specs.Ordering.{int_eq}
use Rattle.std.specs.Int.{w64, cast_signed, int_wrapping_add, int_wrapping_sub, int_wrapping_mul, int_wrapping_div, int_wrapping_neg}
use Rattle.std.specs.Prelude.{int_rem}
use Rattle.qp_chart.specs.declared.evaluate.Env.{Env}
use Rattle.qp_chart_text.specs.declared.operators.Unary.{Unary}
use Rattle.qp_chart_text.specs.declared.operators.Unary.TheVariants as unary
use Rattle.qp_chart_text.specs.declared.operators.Binary.{Binary}
use Rattle.qp_chart_text.specs.declared.operators.Binary.TheVariants as binary
use Rattle.qp_chart.specs.declared.expression.Bound.{Bound}
use Rattle.qp_chart.specs.Tree.{Num, Var, Ok, Me, Par, One, Two}

-- what the names of an expression stand for
pub record Names : Type 0 where
  pub vars : List ℤ
  pub pars : List ℕ
  pub ok : ℤ
  pub me : ℕ

-- the names in the surroundings of an evaluation
abbrev pub names_in : Env → Names
names_in env = record { vars = env.vars.now; pars = env.pars.now; ok = env.ok; me = env.me }

abbrev pub of_truth : Bool → ℤ
of_truth b = if b then pos 1 else pos 0

-- every number but 0 counts as true
abbrev pub is_truth : ℤ → Bool
is_truth z = not (int_eq z (pos 0))

unfoldable pub unary_value : Unary → ℤ → ℤ
unary_value unary.Minus x = int_wrapping_neg w64 x
unary_value unary.Not x = of_truth (not (is_truth x))

-- a divisor 0 gives 0
unfoldable pub binary_value : Binary → ℤ → ℤ → ℤ
binary_value binary.Or x y = of_truth (is_truth x || is_truth y)
binary_value binary.And x y = of_truth (is_truth x && is_truth y)
binary_value binary.Equal x y = of_truth (int_eq x y)
binary_value binary.Differs x y = of_truth (not (int_eq x y))
binary_value binary.Below x y = of_truth (int_lt x y)
binary_value binary.AtMost x y = of_truth (int_le x y)
binary_value binary.Above x y = of_truth (int_lt y x)
binary_value binary.AtLeast x y = of_truth (int_le y x)
binary_value binary.Plus x y = int_wrapping_add w64 x y
binary_value binary.Minus x y = int_wrapping_sub w64 x y
binary_value binary.Times x y = int_wrapping_mul w64 x y
binary_value binary.Over x y = if is_truth y then int_wrapping_div w64 x y else pos 0
binary_value binary.Rest x y = if is_truth y then int_rem x y else pos 0

-- a parameter is the 64 bits of its value
unfoldable pub value_of : Names → Bound → ℤ
unfolding binary_value unary_value
value_of names (Num n) = n
value_of names (Var v) = unwrap_or (slice_get names.vars v) (pos 0)
value_of names Ok = names.ok
value_of names Me = pos names.me
value_of names (Par j) = cast_signed w64 (unwrap_or (slice_get names.pars (j - 1)) 0)
value_of names (One op x) = unary_value op (value_of names x)
value_of names (Two op x y) = binary_value op (value_of names x) (value_of names y)

-- the numbers of variables and parameters stand below these counts; parameters are numbered from 1
unfoldable pub InRange : (vars pars : ℕ) → Bound → Type 0
InRange vars pars (Num n) = Unit {0}
InRange vars pars (Var v) = v < vars
InRange vars pars Ok = Unit {0}
InRange vars pars Me = Unit {0}
InRange vars pars (Par j) = (1 ≤ j) × (j ≤ pars)
InRange vars pars (One op x) = InRange vars pars x
InRange vars pars (Two op x y) = InRange vars pars x × InRange vars pars y
