-- Expressions and actions as their texts have them, without where they lie in memory.
use Rattle.std.specs.Prelude.{ℕ, ℤ, List, map, Option}
use Rattle.qp_chart_text.specs.declared.operators.Unary.{Unary}
use Rattle.qp_chart_text.specs.declared.operators.Binary.{Binary}
use Rattle.qp_chart_text.specs.declared.trees.Expr as expr
use Rattle.qp_chart_text.specs.declared.trees.Receiver as receiver
use Rattle.qp_chart_text.specs.declared.trees.Receiver.TheVariants as to
use Rattle.qp_chart_text.specs.declared.trees.EventTree as event
use Rattle.qp_chart_text.specs.declared.trees.PlainAction as plain
use Rattle.qp_chart_text.specs.declared.trees.PlainAction.TheVariants as act
use Rattle.qp_chart_text.specs.declared.trees.Action as action
use Rattle.qp_chart_text.specs.declared.trees.Action.TheVariants as whole

-- a name is its bytes
abbrev pub Word : Type 0
Word = List ℕ

-- an expression
pub data Term : Type 0 where
  Num : (n : ℤ) → Term
  Var : (name : Word) → Term
  Ok : Term
  Me : Term
  Par : (j : ℕ) → Term
  One : (op : Unary) (x : Term) → Term
  Two : (op : Binary) (x y : Term) → Term

-- the object to which an action posts
pub data Address : Type 0 where
  ToMe : Address
  ToObject : (name : Word) → Address

-- an event to be made
pub record EventTerm : Type 0 where
  pub signal : Word
  pub pars : List Term

-- an action that may stand within `locked`
pub data Order : Type 0 where
  Set : (var : Word) (value : Term) → Order
  Say : (value : Term) → Order
  Post : (to : Address) (event : EventTerm) (margin reserve : Option ℤ) → Order
  Lifo : (event : EventTerm) (reserve : Option ℤ) → Order
  Forward : (to : Address) (margin : Option ℤ) → Order
  Publish : (event : EventTerm) (reserve : Option ℤ) → Order
  Defer : Order
  Recall : Order
  Flush : Order
  Subscribe : (signal : Word) → Order
  Unsubscribe : (signal : Word) → Order
  Arm : (timer : Word) (ticks interval : Term) → Order
  Rearm : (timer : Word) (ticks : Term) → Order
  Disarm : (timer : Word) → Order

-- an action
pub data Command : Type 0 where
  Plain : (order : Order) → Command
  Locked : (ceiling : ℤ) (orders : List Order) → Command

-- what an expression says
unfoldable pub term_of : expr.Expr → Term
term_of (expr.Num n) = Num n
term_of (expr.Var name) = Var name
term_of expr.Ok = Ok
term_of expr.Me = Me
term_of (expr.Par j) = Par j
term_of (expr.One' op p x) = One op (term_of x)
term_of (expr.Two' op p x q y) = Two op (term_of x) (term_of y)

abbrev pub address_of : receiver.Receiver → Address
address_of to.Me = ToMe
address_of (to.Object name) = ToObject name

unfoldable pub event_of_tree : event.EventTree → EventTerm
unfolding term_of
event_of_tree e = record { signal = e.signal; pars = map term_of e.pars }

-- what a plain action says
unfoldable pub order_of : plain.PlainAction → Order
unfolding term_of event_of_tree
order_of (act.Set var value) = Set var (term_of value)
order_of (act.Say value) = Say (term_of value)
order_of (act.Post to event margin reserve) = Post (address_of to) (event_of_tree event) margin reserve
order_of (act.Lifo event reserve) = Lifo (event_of_tree event) reserve
order_of (act.Forward to margin) = Forward (address_of to) margin
order_of (act.Publish event reserve) = Publish (event_of_tree event) reserve
order_of act.Defer = Defer
order_of act.Recall = Recall
order_of act.Flush = Flush
order_of (act.Subscribe signal) = Subscribe signal
order_of (act.Unsubscribe signal) = Unsubscribe signal
order_of (act.Arm timer ticks interval) = Arm timer (term_of ticks) (term_of interval)
order_of (act.Rearm timer ticks) = Rearm timer (term_of ticks)
order_of (act.Disarm timer) = Disarm timer

-- what an action says
unfoldable pub command_of : action.Action → Command
unfolding order_of
command_of (whole.Plain p) = Plain (order_of p)
command_of (whole.Locked c acts) = Locked c (map order_of acts)
