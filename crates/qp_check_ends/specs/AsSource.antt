-- What is left of a source, as its definition sees it, and the ends that are found.
use Rattle.std.specs.Prelude.{ℕ, ◌+◌, Bool, true, false, ◌&&◌, ◌||◌, List, drop, Some, None}
use Rattle.std.specs.declared.option.Option.{Option}
use Rattle.qp_model.specs.declared.stimulus.Stim.{Stim}
use Rattle.qp_model.specs.declared.systems.System.{System}
use Rattle.qp_model.specs.Sources.{SourceEnd, AllDone, BeforeStimulus, AfterTry, AtAssert, InStimulus}
use Rattle.qp_model.specs.Ends.{may_cut}
use Rattle.qp_check_ends.specs.AsStates.{as_tick, as_settle}
use Rattle.qp_check_ends.specs.Underway as underway
use Rattle.qp_check_ends.specs.SourceState as source
use Rattle.qp_check_ends.specs.declared.underway.Underway.{Underway}
use Rattle.qp_check_ends.specs.declared.underway.Underway.TheVariants as declared_underway
use Rattle.qp_check_ends.specs.declared.source_state.SourceState.{SourceState}
use Rattle.qp_check_ends.specs.declared.stops.Stops.{Stops}

abbrev pub as_underway : System → Underway → underway.Underway
as_underway sys (declared_underway.Calling rest) = underway.Calling rest
as_underway sys (declared_underway.Ticking rest) = underway.Ticking (as_tick sys rest)
as_underway sys (declared_underway.Settling rest) = underway.Settling (as_settle sys rest)

abbrev pub source_rest : System → Option Underway → ℕ → List Stim → source.SourceState
source_rest sys None k left = source.Between k left
source_rest sys (Some u) k left = source.Within (as_underway sys u) k left

abbrev pub as_source : System → List Stim → SourceState → source.SourceState
as_source sys ss rest = source_rest sys rest.under (rest.begun + 1) (drop rest.begun ss)

-- the flag of an end
abbrev pub stops_at : Stops → SourceEnd → Bool
stops_at stops AllDone = stops.all_done
stops_at stops BeforeStimulus = stops.before_stimulus
stops_at stops AfterTry = stops.after_try
stops_at stops AtAssert = stops.at_assert
stops_at stops InStimulus = stops.in_stimulus

-- one of the ends that were found is allowed
abbrev pub some_may_end : Stops → ℕ → Bool → Bool
some_may_end stops end spills =
    stops.all_done || (may_cut end && (stops.before_stimulus || stops.after_try || stops.at_assert || (stops.in_stimulus && spills)))

-- a `spill` may stand within a stimulus, or behind a whole one
abbrev pub may_spill : Stops → Bool → Bool
may_spill stops true = stops.in_stimulus
may_spill stops false = stops.before_stimulus || stops.all_done
