-- The codes of a line, lowest first.
use Rattle.std.specs.Prelude.{ℕ, ◌+◌, ◌^◌, ◌==◌, nat_lt, nat_le, Bool, false, not, ◌&&◌, ◌||◌, List, length, is_some, if◌then◌else◌, Some, None, Ok, Err}
use Rattle.std.specs.declared.option.Option.{Option}
use Rattle.std.specs.declared.result.Result.{Result}
use Rattle.std.specs.List.{list_all}
use Rattle.qp_base.specs.declared.event.Ev.{Ev}
use Rattle.qp_model.specs.declared.stimulus.Stim.TheVariants as stim
use Rattle.qp_stim.specs.declared.names.Signal.{Signal}
use Rattle.qp_stim.specs.declared.verdict.LineStep.{LineStep}
use Rattle.qp_stim.specs.declared.verdict.LineStep.TheVariants.{Skips, Opens, Adds}
use Rattle.qp_stim.specs.LineCodes.{GRAMMAR, UNDECLARED, RANGE, SOURCE, EVENT_ARITY}
use Rattle.qp_stim.specs.Parts.{is_skipped}
use Rattle.qp_stim.specs.Names.{Dictionary}
use Rattle.qp_stim.specs.Grammar.{Said, said_of}
use Rattle.qp_stim.specs.Grammar as line

-- a number that stands and exceeds the limit
abbrev pub exceeds : ℕ → Option ℕ → Bool
exceeds limit None = false
exceeds limit (Some n) = nat_lt limit n

-- all numbers have at most 64 bits
abbrev pub all_fit : List ℕ → Bool
all_fit pars = list_all (λ n. nat_lt n (2 ^ 64)) pars

-- code 3 at an event and its `reserve`
abbrev pub is_out : Signal → List ℕ → Option ℕ → Bool
is_out signal pars reserve = not (all_fit pars) || exceeds 255 reserve || (signal.fixed && is_some reserve)

abbrev pub event : Signal → List ℕ → Ev
event signal pars = record { sig = signal.number; pars = record { items = pars } }

-- the codes 3 to 5 of a stimulus that follows so many sources
abbrev pub source_stands : ℕ → (out miscounted : Bool) → LineStep → Result LineStep ℕ
source_stands sources out miscounted step =
    if out then Err RANGE else if sources == 0 then Err SOURCE else if miscounted then Err EVENT_ARITY else Ok step

unfoldable pub post_step : ℕ → Option ℕ → Option Signal → List ℕ → Option ℕ → Option ℕ → Result LineStep ℕ
post_step sources (Some to) (Some signal) pars margin reserve =
    source_stands sources (exceeds 255 margin || is_out signal pars reserve) (not (length pars == signal.params)) (Adds (stim.Post to (event signal pars) margin reserve))
post_step sources _ _ pars margin reserve = Err UNDECLARED

unfoldable pub publish_step : ℕ → Option Signal → List ℕ → Option ℕ → Result LineStep ℕ
publish_step sources (Some signal) pars reserve =
    source_stands sources (is_out signal pars reserve) (not (length pars == signal.params)) (Adds (stim.Publish (event signal pars) reserve))
publish_step sources None pars reserve = Err UNDECLARED

-- the next source from 1, of which there are at most 16
unfoldable pub source_step : ℕ → ℕ → Result LineStep ℕ
source_step sources n = if (n == sources + 1) && nat_le n 16 then Ok Opens else Err SOURCE

-- what a line in the grammar does behind so many sources, or its lowest code
unfoldable pub step_said : Dictionary → ℕ → Said → Result LineStep ℕ
unfolding post_step publish_step source_step
step_said names sources (line.Source n) = source_step sources n
step_said names sources (line.Post o e margin reserve) = post_step sources (names.object o) (names.signal e.signal) e.pars margin reserve
step_said names sources (line.Publish e reserve) = publish_step sources (names.signal e.signal) e.pars reserve
step_said names sources (line.Tick rate) = source_stands sources (nat_lt 3 rate) false (Adds (stim.Tick rate))
step_said names sources line.Settle = source_stands sources false false (Adds stim.Settle)

abbrev pub step_if : Dictionary → ℕ → Option Said → Result LineStep ℕ
step_if names sources None = Err GRAMMAR
step_if names sources (Some said) = step_said names sources said

-- what a line does behind so many sources, or its lowest code
unfoldable pub step_of : Dictionary → ℕ → List ℕ → Result LineStep ℕ
unfolding step_said
step_of names sources text = if is_skipped text then Ok Skips else step_if names sources (said_of text)
