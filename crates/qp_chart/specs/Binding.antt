-- The expression in which the names of an expression stand for something.
use Rattle.std.specs.Prelude.{◌≡◌, ℕ, true, false, List, [], slice_get, length}
use Rattle.std.specs.Option.{unwrap_or, option_map, option_and_then}
use Rattle.std.specs.List.{position}
use Rattle.std.specs.Prelude.{Option, Some}
use Rattle.qp_chart.specs.Tree as bound
use Rattle.qp_chart.specs.declared.binding.BindFault.{BindFault}
use Rattle.qp_chart.specs.declared.binding.BindFault.TheVariants as fault
use Rattle.qp_chart_text.specs.Terms.{Word, Term, Num, Var, Ok, Me, Par, One, Two}
use Rattle.qp_chart_names.specs.Known.{has_name, knows, reaches}
use Rattle.qp_chart.specs.Expr.{InRange}

-- the bound expression with the variables' names put back
unfoldable pub named : List Word → bound.Tree → Term
named vars (bound.Num n) = Num n
named vars (bound.Var v) = Var (unwrap_or (slice_get vars v) [])
named vars bound.Ok = Ok
named vars bound.Me = Me
named vars (bound.Par j) = Par j
named vars (bound.One op x) = One op (named vars x)
named vars (bound.Two op x y) = Two op (named vars x) (named vars y)

-- the expression with each variable by its place; none where a name is no variable
unfoldable pub bound_in : List Word → Term → Option bound.Tree
bound_in vars (Num n) = Some (bound.Num n)
bound_in vars (Var name) = option_map (λ v. bound.Var v) (position (has_name name) vars)
bound_in vars Ok = Some bound.Ok
bound_in vars Me = Some bound.Me
bound_in vars (Par j) = Some (bound.Par j)
bound_in vars (One op x) = option_map (λ t. bound.One op t) (bound_in vars x)
bound_in vars (Two op x y) = option_and_then (λ t. option_map (λ u. bound.Two op t u) (bound_in vars y)) (bound_in vars x)

-- the bound expression says what the expression says, and its numbers are those of the variables and parameters
pub record Binds (vars : List Word) (params : ℕ) (e : Term) (b : bound.Tree) : Type 0 where
  pub made : bound_in vars e ≡ Some b
  pub same : named vars b ≡ e
  pub in_range : InRange (length vars) params b
  pub known : knows vars e ≡ true
  pub reached : reaches params e ≡ true

-- why an expression isn't bound; want of memory needs no cause
abbrev pub IsCause : List Word → ℕ → Term → BindFault → Type 0
IsCause vars params e fault.Memory = Unit {0}
IsCause vars params e fault.NoName = knows vars e ≡ false
IsCause vars params e fault.NoParameter = reaches params e ≡ false
