-- The first fault of the text of an action or a guard.
use Rattle.std.specs.Prelude.{◌≡◌, ℕ, ℤ, pos, ◌==◌, Bool, true, false, not, ◌&&◌, List, [], ◌∷◌, ◌++◌, length, Some, None, int_le}
use Rattle.std.specs.declared.option.Option.{Option}
use Rattle.std.specs.Option.{is_some, unwrap_or, option_map}
use Rattle.std.specs.List.{list_all}
use Rattle.qp_chart_names.specs.declared.place.Part.{Part}
use Rattle.qp_chart_names.specs.declared.place.Part.TheVariants.{Key, Pos}
use Rattle.qp_chart_names.specs.Codes.{NO_SUCH_NAME, RANGE, WRONG_ARITY, BAD_TEXT}
use Rattle.qp_chart_names.specs.declared.raw.RawChart.{RawChart}
use Rattle.qp_chart_names.specs.declared.raw.Names.{Names}
use Rattle.qp_chart_text.specs.Terms.{Term, Address, ToMe, ToObject, EventTerm, Order, Set, Say, Post, Lifo, Forward, Publish, Defer, Recall, Flush, Subscribe, Unsubscribe, Arm, Rearm, Disarm, Command, Plain, Locked}
use Rattle.qp_chart_text.specs.Reading.{term_of_text}
use Rattle.qp_chart_text.specs.ReadingActions.{command_of_text}
use Rattle.qp_chart_names.specs.Known.{knows, reaches}
use Rattle.qp_chart_names.specs.Faults.{Fault, fault, fault_if, first_of, first_in}
use Rattle.qp_chart_names.specs.RawNumbers.{variable_names, variable_number, timer_by_name, signal_number, signal_named, object_named}

-- the variables in the expression are declared
abbrev pub term_known : RawChart → Term → Bool
term_known chart e = knows (variable_names chart.vars) e

abbrev pub receiver_known : Names → Address → Bool
receiver_known names ToMe = true
receiver_known names (ToObject name) = is_some (object_named names name)

abbrev pub is_event_known : Names → RawChart → EventTerm → Bool
is_event_known names chart event = is_some (signal_number names event.signal) && list_all (λ e. term_known chart e) event.pars

-- each name of the action is declared
unfoldable pub order_known : Names → RawChart → Order → Bool
order_known names chart (Set var value) = is_some (variable_number chart var) && term_known chart value
order_known names chart (Say value) = term_known chart value
order_known names chart (Post to event margin reserve) = receiver_known names to && is_event_known names chart event
order_known names chart (Lifo event reserve) = is_event_known names chart event
order_known names chart (Forward to margin) = receiver_known names to
order_known names chart (Publish event reserve) = is_event_known names chart event
order_known names chart Defer = true
order_known names chart Recall = true
order_known names chart Flush = true
order_known names chart (Subscribe signal) = is_some (signal_number names signal)
order_known names chart (Unsubscribe signal) = is_some (signal_number names signal)
order_known names chart (Arm timer ticks interval) = is_some (timer_by_name chart timer) && term_known chart ticks && term_known chart interval
order_known names chart (Rearm timer ticks) = is_some (timer_by_name chart timer) && term_known chart ticks
order_known names chart (Disarm timer) = is_some (timer_by_name chart timer)

-- a number from this to that
abbrev pub is_between : ℕ → ℕ → ℤ → Bool
is_between low high z = int_le (pos low) z && int_le z (pos high)

-- a margin or a reserve is 0 to 255
abbrev pub is_byte : Option ℤ → Bool
is_byte None = true
is_byte (Some z) = is_between 0 255 z

abbrev pub is_static_name : Names → List ℕ → Bool
is_static_name names signal = unwrap_or (option_map (λ s. s.fixed) (signal_named names signal)) false

-- a reserve is in range, and stands on no static signal
abbrev pub reserve_allowed : Names → EventTerm → Option ℤ → Bool
reserve_allowed names event reserve = is_byte reserve && not (is_some reserve && is_static_name names event.signal)

-- each number of the action is in its range
unfoldable pub order_in_range : Names → Order → Bool
order_in_range names (Post to event margin reserve) = is_byte margin && reserve_allowed names event reserve
order_in_range names (Lifo event reserve) = reserve_allowed names event reserve
order_in_range names (Forward to margin) = is_byte margin
order_in_range names (Publish event reserve) = reserve_allowed names event reserve
order_in_range names order = true

-- how many parameters the signal has
abbrev pub params_of_name : Names → List ℕ → ℕ
params_of_name names signal = unwrap_or (option_map (λ s. s.params) (signal_named names signal)) 0

-- how many parameters an expression may use: those of the row's signal, and none outside a row
abbrev pub params_in : Option ℕ → ℕ
params_in inside = unwrap_or inside 0

abbrev pub event_fits : Names → ℕ → EventTerm → Bool
event_fits names params event = (length event.pars == params_of_name names event.signal) && list_all (λ e. reaches params e) event.pars

-- events have as many parameters as their signals, parameters are within reach, and only a row forwards or defers
unfoldable pub order_fits : Names → Option ℕ → Order → Bool
order_fits names inside (Set var value) = reaches (params_in inside) value
order_fits names inside (Say value) = reaches (params_in inside) value
order_fits names inside (Post to event margin reserve) = event_fits names (params_in inside) event
order_fits names inside (Lifo event reserve) = event_fits names (params_in inside) event
order_fits names inside (Forward to margin) = is_some inside
order_fits names inside (Publish event reserve) = event_fits names (params_in inside) event
order_fits names inside Defer = is_some inside
order_fits names inside Recall = true
order_fits names inside Flush = true
order_fits names inside (Subscribe signal) = true
order_fits names inside (Unsubscribe signal) = true
order_fits names inside (Arm timer ticks interval) = reaches (params_in inside) ticks && reaches (params_in inside) interval
order_fits names inside (Rearm timer ticks) = reaches (params_in inside) ticks
order_fits names inside (Disarm timer) = true

-- the same of a whole action
unfoldable pub command_known : Names → RawChart → Command → Bool
command_known names chart (Plain order) = order_known names chart order
command_known names chart (Locked ceiling orders) = list_all (λ order. order_known names chart order) orders

-- a ceiling is 1 to 32
unfoldable pub command_in_range : Names → Command → Bool
command_in_range names (Plain order) = order_in_range names order
command_in_range names (Locked ceiling orders) = is_between 1 32 ceiling && list_all (λ order. order_in_range names order) orders

unfoldable pub command_fits : Names → Option ℕ → Command → Bool
command_fits names inside (Plain order) = order_fits names inside order
command_fits names inside (Locked ceiling orders) = list_all (λ order. order_fits names inside order) orders

-- the first fault of an action, over its whole text; no action where the text isn't in the grammar
unfoldable pub action_fault : Names → RawChart → Option ℕ → List Part → Option Command → Option Fault
action_fault names chart inside place None = fault BAD_TEXT place
action_fault names chart inside place (Some command) =
    first_of
    (fault_if (not (command_known names chart command)) NO_SUCH_NAME place
    ∷ fault_if (not (command_in_range names command)) RANGE place
    ∷ fault_if (not (command_fits names inside command)) WRONG_ARITY place
    ∷ [])

-- the same of an expression
unfoldable pub guard_fault : RawChart → ℕ → List Part → Option Term → Option Fault
guard_fault chart params place None = fault BAD_TEXT place
guard_fault chart params place (Some e) =
    first_of
    (fault_if (not (term_known chart e)) NO_SUCH_NAME place
    ∷ fault_if (not (reaches params e)) WRONG_ARITY place
    ∷ [])

-- a plain action without a fault
pub record IsAllowed (names : Names) (chart : RawChart) (inside : Option ℕ) (order : Order) : Type 0 where
  pub known : order_known names chart order ≡ true
  pub in_range : order_in_range names order ≡ true
  pub fits : order_fits names inside order ≡ true

-- an expression without a fault
pub record IsTermSound (chart : RawChart) (params : ℕ) (e : Term) : Type 0 where
  pub known : term_known chart e ≡ true
  pub reached : reaches params e ≡ true

-- the first fault of the text of an action
unfoldable pub text_fault : Names → RawChart → Option ℕ → List Part → List ℕ → Option Fault
text_fault names chart inside place text = action_fault names chart inside place (command_of_text text)

-- the first fault of the n-th text of the list at this key
unfoldable pub text_at : Names → RawChart → Option ℕ → List Part → ℕ → ℕ → List ℕ → Option Fault
text_at names chart inside at list n text = text_fault names chart inside (at ++ Key list ∷ Pos n ∷ []) text

-- the first fault of the texts of the list at this key
unfoldable pub texts_fault : Names → RawChart → Option ℕ → List Part → ℕ → List (List ℕ) → Option Fault
texts_fault names chart inside at list texts = first_in (text_at names chart inside at list) 1 texts

-- the first fault of an optional guard
unfoldable pub when_fault : RawChart → ℕ → List Part → Option (List ℕ) → Option Fault
when_fault chart params place None = None
when_fault chart params place (Some text) = guard_fault chart params place (term_of_text text)
