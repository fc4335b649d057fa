-- What is left of the records of a source, record by record.
use Rattle.std.specs.Prelude.{ℕ, ◌+◌, ◌==◌, Bool, true, false, ◌&&◌, List, [], ◌∷◌, if◌then◌else◌, Some, None}
use Rattle.std.specs.declared.option.Option.{Option}
use Rattle.std.specs.Option.{option_map}
use Rattle.qp_model.specs.declared.stimulus.Stim.{Stim}
use Rattle.qp_model.specs.declared.systems.System.{System}
use Rattle.qp_model.specs.declared.bodies.Body.{Body}
use Rattle.qp_model.specs.declared.bodies.Body.TheVariants as body
use Rattle.qp_model.specs.Told.{Told, Known, Nothing}
use Rattle.qp_model.specs.Sources.{SourceEnd, AllDone, BeforeStimulus, AfterTry, AtAssert, InStimulus, look_may}
use Rattle.qp_check_ends.specs.Underway.{Underway, underway_begin, underway_next, underway_done, underway_asserted, underway_tried, underway_open}

-- the stimuli from place k on are left, and one may be under way
pub data SourceState : Type 0 where
  Between : (k : ℕ) (left : List Stim) → SourceState
  Within : (u : Underway) (k : ℕ) (left : List Stim) → SourceState

-- what is left behind the `stim` of the next stimulus
unfoldable pub stim_next : System → ℕ → ℕ → List Stim → Body → Known → Option SourceState
unfolding underway_begin
stim_next sys kernel k (s ∷ left) (body.Stim i look) Nothing =
    if (i == k) && look_may kernel look then option_map (λ u. Within u (k + 1) left) (underway_begin sys s) else None
stim_next sys kernel k left b known = None

-- a stimulus goes on, or it is done and the next one begins
unfoldable pub stimulus_goes_on : System → ℕ → Underway → ℕ → List Stim → Told → Option Underway → Option SourceState
unfolding stim_next
stimulus_goes_on sys kernel u k left t (Some next) = Some (Within next k left)
stimulus_goes_on sys kernel u k left t None = if underway_done u then stim_next sys kernel k left t.body t.known else None

-- what is left behind the next record
unfoldable pub source_next : System → ℕ → SourceState → Told → Option SourceState
unfolding stimulus_goes_on stim_next underway_next
source_next sys kernel (Between k left) t = stim_next sys kernel k left t.body t.known
source_next sys kernel (Within u k left) t = stimulus_goes_on sys kernel u k left t (underway_next sys kernel u t)

-- the place and the look of a `stim`
abbrev pub stim_told : Body → Known → Option (ℕ × ℕ)
stim_told (body.Stim i look) Nothing = Some (i, look)
stim_told b known = None

-- no stimulus is under way, or it is done
abbrev pub is_ready : SourceState → Bool
is_ready (Between k left) = true
is_ready (Within u k left) = underway_done u

-- the stimulus under way reads a record
unfoldable pub within_next : System → ℕ → SourceState → Told → Option SourceState
unfolding underway_next
within_next sys kernel (Between k left) t = None
within_next sys kernel (Within u k left) t = option_map (λ next. Within next k left) (underway_next sys kernel u t)

abbrev pub is_last : List Stim → Bool
is_last [] = true
is_last (s ∷ left) = false

-- no stimulus is left, or some
abbrev pub between_stops : List Stim → SourceEnd → Bool
between_stops [] AllDone = true
between_stops (s ∷ left) BeforeStimulus = true
between_stops left stop = false

-- the records may end here, at this end
abbrev pub source_stops : ℕ → SourceState → SourceEnd → Bool
source_stops kernel (Between k left) stop = between_stops left stop
source_stops kernel (Within u k left) AfterTry = underway_tried kernel u
source_stops kernel (Within u k left) AtAssert = underway_asserted u
source_stops kernel (Within u k left) InStimulus = underway_open u
source_stops kernel (Within u k left) stop = underway_done u && between_stops left stop

-- what is left behind these records
unfoldable pub source_after : System → ℕ → Option SourceState → List Told → Option SourceState
unfolding source_next
source_after sys kernel rest [] = rest
source_after sys kernel None (t ∷ g) = None
source_after sys kernel (Some rest) (t ∷ g) = source_after sys kernel (source_next sys kernel rest t) g

-- they may end at this end
abbrev pub stops_after : ℕ → Option SourceState → SourceEnd → Bool
stops_after kernel None stop = false
stops_after kernel (Some rest) stop = source_stops kernel rest stop
