-- What stimuli that were read keep to.
use Rattle.std.specs.Prelude.{◌≡◌, ℕ, ◌-◌, ◌^◌, ◌≤◌, ◌<◌, List, length, slice_get, Some, false, IfSome, ⊤}
use Rattle.std.specs.declared.option.Option.{Option}
use Rattle.std.specs.List.{AllByRecursion, Any}
use Rattle.qp_base.specs.declared.event.Ev.{Ev}
use Rattle.qp_model.specs.declared.stimulus.Stim.{Stim}
use Rattle.qp_model.specs.declared.stimulus.Stim.TheVariants as stim
use Rattle.qp_model.specs.declared.systems.System.{System}
use Rattle.qp_model.specs.declared.systems.SignalDef.{SignalDef}

-- the event of a declared signal, with that signal's number of parameters, and with a reserve only where the signal isn't static
pub record EventFits (sys : System) (ev : Ev) (reserve : Option ℕ) : Type 0 where
  pub def : SignalDef
  pub above_reserved : 4 ≤ ev.sig
  pub declared : slice_get sys.signals (ev.sig - 4) ≡ Some def
  pub count : length ev.pars.items ≡ def.params
  pub pars : AllByRecursion (λ p. p < 2 ^ 64) ev.pars.items
  pub reserved : IfSome reserve (λ r. (r < 256) × (def.fixed ≡ false))

pub record PostFits (sys : System) (to : ℕ) (ev : Ev) (margin reserve : Option ℕ) : Type 0 where
  pub object : Any (λ d. d.priority ≡ to) sys.objects
  pub event : EventFits sys ev reserve
  pub margined : IfSome margin (λ m. m < 256)

abbrev pub StimulusFits : System → Stim → Type 0
StimulusFits sys (stim.Post to ev margin reserve) = PostFits sys to ev margin reserve
StimulusFits sys (stim.Publish ev reserve) = EventFits sys ev reserve
StimulusFits sys (stim.Tick rate) = rate < 4
StimulusFits sys stim.Settle = ⊤

-- stimuli that fit a system
pub record StimuliFit (sys : System) (sources : List (List Stim)) : Type 0 where
  pub few : length sources ≤ 16
  pub stimuli : AllByRecursion (AllByRecursion (StimulusFits sys)) sources
