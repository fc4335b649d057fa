-- The calls that actions make, with their arguments evaluated, and the answers.
use Rattle.std.specs.Prelude.{ℕ, ℤ, pos, Bool, true, false, List, map, Some, None}
use Rattle.std.specs.declared.option.Option.{Option}
use Rattle.std.specs.Int.{w64, cast_unsigned}
use Rattle.qp_chart.specs.Expr.{Names, value_of}
use Rattle.qp_chart.specs.declared.expression.Bound.{Bound}
use Rattle.qp_chart.specs.declared.actions.Target.{Target}
use Rattle.qp_chart.specs.declared.actions.Target.TheVariants as target
use Rattle.qp_chart.specs.declared.actions.Plain.{Plain}
use Rattle.qp_chart.specs.declared.actions.Plain.TheVariants as action

pub data Call : Type 0 where
  Post : (to sig : ℕ) (pars : List ℕ) (margin reserve : Option ℕ) → Call
  Lifo : (sig : ℕ) (pars : List ℕ) (reserve : Option ℕ) → Call
  Forward : (to : ℕ) (margin : Option ℕ) → Call
  Publish : (sig : ℕ) (pars : List ℕ) (reserve : Option ℕ) → Call
  Defer : Call
  Recall : Call
  Flush : Call
  Subscribe : (sig : ℕ) → Call
  Unsubscribe : (sig : ℕ) → Call
  -- a timer by its place in the chart, from 1, and values by their 64 bits
  Arm : (timer ticks interval : ℕ) → Call
  Rearm : (timer ticks : ℕ) → Call
  Disarm : (timer : ℕ) → Call

pub data Answer : Type 0 where
  -- 1, 0, and the number of flushed entries
  Granted : Answer
  Refused : Answer
  Flushed : (n : ℕ) → Answer
  -- assertions 1 to 5: no entry, no block, an armed timer, values that no timer takes, no entry for a last-in post
  AtQueue : Answer
  AtPool : Answer
  AtTimer : Answer
  AtTicks : Answer
  AtFront : Answer

-- the code of an assertion
abbrev pub assertion_code : Answer → Option ℕ
assertion_code AtQueue = Some 1
assertion_code AtPool = Some 2
assertion_code AtTimer = Some 3
assertion_code AtTicks = Some 4
assertion_code AtFront = Some 5
assertion_code _ = None

abbrev pub is_assertion : Answer → Bool
is_assertion Granted = false
is_assertion Refused = false
is_assertion (Flushed n) = false
is_assertion _ = true

-- what `ok` becomes by an answer
abbrev pub ok_after : Answer → ℤ → ℤ
ok_after Granted ok = pos 1
ok_after Refused ok = pos 0
ok_after (Flushed n) ok = pos n
ok_after _ ok = ok

-- a value's 64 bits without sign
abbrev pub bits_of : ℤ → ℕ
bits_of z = cast_unsigned w64 z

-- the object that a post names
abbrev pub object_of : ℕ → Target → ℕ
object_of me target.Me = me
object_of me (target.Object o) = o

-- parameters, each as the 64 bits of its value
unfoldable pub values_of : Names → List Bound → List ℕ
unfolding value_of
values_of names es = map (λ e. bits_of (value_of names e)) es

-- what an action does: it sets a variable, says a value, or calls
pub data Deed : Type 0 where
  Sets : (var : ℕ) (value : ℤ) → Deed
  Says : (value : ℕ) → Deed
  Calls : (call : Call) → Deed

unfoldable pub deed_of : Names → Plain → Deed
unfolding value_of values_of
deed_of names (action.Set var value) = Sets var (value_of names value)
deed_of names (action.Say value) = Says (bits_of (value_of names value))
deed_of names (action.Post to sig pars margin reserve) = Calls (Post (object_of names.me to) sig (values_of names pars) margin reserve)
deed_of names (action.Lifo sig pars reserve) = Calls (Lifo sig (values_of names pars) reserve)
deed_of names (action.Forward to margin) = Calls (Forward (object_of names.me to) margin)
deed_of names (action.Publish sig pars reserve) = Calls (Publish sig (values_of names pars) reserve)
deed_of names action.Defer = Calls Defer
deed_of names action.Recall = Calls Recall
deed_of names action.Flush = Calls Flush
deed_of names (action.Subscribe sig) = Calls (Subscribe sig)
deed_of names (action.Unsubscribe sig) = Calls (Unsubscribe sig)
deed_of names (action.Arm timer ticks interval) = Calls (Arm timer (bits_of (value_of names ticks)) (bits_of (value_of names interval)))
deed_of names (action.Rearm timer ticks) = Calls (Rearm timer (bits_of (value_of names ticks)))
deed_of names (action.Disarm timer) = Calls (Disarm timer)
