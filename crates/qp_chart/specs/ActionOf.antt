-- The checked action of an action as its text has it: each name is resolved to its number.
use Rattle.std.specs.Prelude.{◌≡◌, ℕ, ℤ, pos, true, List, Some, None}
use Rattle.std.specs.declared.option.Option.{Option}
use Rattle.std.specs.Option.{option_map}
use Rattle.qp_chart.specs.declared.expression.Bound.{Bound}
use Rattle.qp_chart.specs.declared.actions.Target.{Target}
use Rattle.qp_chart.specs.declared.actions.Target.TheVariants as target
use Rattle.qp_chart.specs.declared.actions.Plain as plain
use Rattle.qp_chart.specs.declared.actions.Plain.TheVariants as checked
use Rattle.qp_chart.specs.declared.actions.Act.{Act}
use Rattle.qp_chart.specs.declared.actions.Act.TheVariants as act
use Rattle.qp_chart_names.specs.declared.raw.RawChart.{RawChart}
use Rattle.qp_chart_names.specs.declared.raw.ObjName.{ObjName}
use Rattle.qp_chart_names.specs.declared.raw.Names.{Names}
use Rattle.qp_chart_text.specs.Terms.{Term, Address, ToMe, ToObject, EventTerm, Order, Set, Say, Post, Lifo, Forward, Publish, Defer, Recall, Flush, Subscribe, Unsubscribe, Arm, Rearm, Disarm, Command, Plain, Locked}
use Rattle.qp_chart_text.specs.Reading.{term_of_text}
use Rattle.qp_chart_text.specs.ReadingActions.{command_of_text}
use Rattle.qp_chart_names.specs.ActionFaults.{command_known, command_in_range, command_fits, params_in}
use Rattle.qp_chart.specs.Binding.{Binds}
use Rattle.qp_chart_names.specs.Pairs.{Corresponds}
use Rattle.qp_chart_names.specs.RawNumbers.{variable_names, variable_number, timer_by_name, signal_number, object_named}

-- the bound expression of an expression that may use so many parameters
abbrev pub IsBoundOf : RawChart → ℕ → Term → Bound → Type 0
IsBoundOf chart params e b = Binds (variable_names chart.vars) params e b

-- the object to which is posted, by its priority
abbrev pub IsTargetOf : Names → Address → Target → Type 0
IsTargetOf names ToMe to = to ≡ target.Me
IsTargetOf names (ToObject name) to = (object : ObjName) × (object_named names name ≡ Some object) × (to ≡ target.Object object.priority)

-- an event's signal by its number, and its parameters
pub record IsEventOf (names : Names) (chart : RawChart) (params : ℕ) (event : EventTerm) (signal : ℕ) (pars : List Bound) : Type 0 where
  pub signal_is : signal_number names event.signal ≡ Some signal
  pub pars_are : Corresponds (IsBoundOf chart params) event.pars pars

-- a margin or a reserve
abbrev pub IsByteOf : Option ℤ → Option ℕ → Type 0
IsByteOf z n = z ≡ option_map pos n

-- a plain action
unfoldable pub IsPlainOf : Names → RawChart → ℕ → Order → plain.Plain → Type 0
IsPlainOf names chart params (Set var value) p =
    (v : ℕ) × (b : Bound) × (p ≡ checked.Set v b) × (variable_number chart var ≡ Some v) × IsBoundOf chart params value b
IsPlainOf names chart params (Say value) p = (b : Bound) × (p ≡ checked.Say b) × IsBoundOf chart params value b
IsPlainOf names chart params (Post address event margin reserve) p =
    (to : Target) × (signal : ℕ) × (pars : List Bound) × (m r : Option ℕ) × (p ≡ checked.Post to signal pars m r)
    × IsTargetOf names address to × IsEventOf names chart params event signal pars × IsByteOf margin m × IsByteOf reserve r
IsPlainOf names chart params (Lifo event reserve) p =
    (signal : ℕ) × (pars : List Bound) × (r : Option ℕ) × (p ≡ checked.Lifo signal pars r) × IsEventOf names chart params event signal pars × IsByteOf reserve r
IsPlainOf names chart params (Forward address margin) p =
    (to : Target) × (m : Option ℕ) × (p ≡ checked.Forward to m) × IsTargetOf names address to × IsByteOf margin m
IsPlainOf names chart params (Publish event reserve) p =
    (signal : ℕ) × (pars : List Bound) × (r : Option ℕ) × (p ≡ checked.Publish signal pars r) × IsEventOf names chart params event signal pars × IsByteOf reserve r
IsPlainOf names chart params Defer p = p ≡ checked.Defer
IsPlainOf names chart params Recall p = p ≡ checked.Recall
IsPlainOf names chart params Flush p = p ≡ checked.Flush
IsPlainOf names chart params (Subscribe name) p = (signal : ℕ) × (p ≡ checked.Subscribe signal) × (signal_number names name ≡ Some signal)
IsPlainOf names chart params (Unsubscribe name) p = (signal : ℕ) × (p ≡ checked.Unsubscribe signal) × (signal_number names name ≡ Some signal)
IsPlainOf names chart params (Arm name ticks interval) p =
    (timer : ℕ) × (t i : Bound) × (p ≡ checked.Arm timer t i) × (timer_by_name chart name ≡ Some timer)
    × IsBoundOf chart params ticks t × IsBoundOf chart params interval i
IsPlainOf names chart params (Rearm name ticks) p =
    (timer : ℕ) × (t : Bound) × (p ≡ checked.Rearm timer t) × (timer_by_name chart name ≡ Some timer) × IsBoundOf chart params ticks t
IsPlainOf names chart params (Disarm name) p = (timer : ℕ) × (p ≡ checked.Disarm timer) × (timer_by_name chart name ≡ Some timer)

-- an action
unfoldable pub IsActOf : Names → RawChart → ℕ → Command → Act → Type 0
IsActOf names chart params (Plain order) a = (p : plain.Plain) × (a ≡ act.Plain p) × IsPlainOf names chart params order p
IsActOf names chart params (Locked number orders) a =
    (ceiling : ℕ) × (acts : List plain.Plain) × (a ≡ act.Locked ceiling acts) × (number ≡ pos ceiling) × Corresponds (IsPlainOf names chart params) orders acts

-- an action that names what is declared, keeps its ranges and fits its place
pub record IsActOfCommand (names : Names) (chart : RawChart) (inside : Option ℕ) (command : Command) (a : Act) : Type 0 where
  pub known : command_known names chart command ≡ true
  pub in_range : command_in_range names command ≡ true
  pub fits : command_fits names inside command ≡ true
  pub made : IsActOf names chart (params_in inside) command a

-- the action of a text, which names what is declared, keeps its ranges and fits its place
pub record IsActOfText (names : Names) (chart : RawChart) (inside : Option ℕ) (text : List ℕ) (a : Act) : Type 0 where
  pub command : Command
  pub read : command_of_text text ≡ Some command
  pub known : command_known names chart command ≡ true
  pub in_range : command_in_range names command ≡ true
  pub fits : command_fits names inside command ≡ true
  pub made : IsActOf names chart (params_in inside) command a

-- the expression of a text
pub record IsBoundOfText (chart : RawChart) (params : ℕ) (text : List ℕ) (b : Bound) : Type 0 where
  pub term : Term
  pub read : term_of_text text ≡ Some term
  pub made : IsBoundOf chart params term b

-- an optional guard
abbrev pub IsGuardOf : RawChart → ℕ → Option (List ℕ) → Option Bound → Type 0
IsGuardOf chart params None None = Unit {0}
IsGuardOf chart params None (Some b) = ⊥
IsGuardOf chart params (Some text) None = ⊥
IsGuardOf chart params (Some text) (Some b) = IsBoundOfText chart params text b
