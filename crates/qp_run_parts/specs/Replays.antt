-- What is printed of a replay.
use Rattle.std.specs.Prelude.{◌≡◌, ℕ, List, Option}
use Rattle.qp_model.specs.declared.journals.Journal.{Journal}
use Rattle.qp_model.specs.declared.stimulus.Stim.{Stim}
use Rattle.qp_model.specs.declared.systems.System.{System}
use Rattle.qp_replay.specs.Replaying.{IsReplay}
use Rattle.qp_replay.specs.declared.places.Replayed.{Replayed}
use Rattle.qp_replay.specs.Text.{replayed_text}
use Rattle.qp_commands.specs.WordTable.{CheckWords}
use Rattle.qp_run_parts.specs.Checks.{AreLawful}
use Rattle.qp_run_parts.specs.Conversions.{Held}

-- the lines of the one order of the journal's records in which each next one is from the lowest lane that may go on, or of a cycle
-- where there is no order
unfoldable pub IsReplayText : ℕ → Journal → List ℕ → Type 0
IsReplayText form j whole = (replayed : Replayed) × IsReplay j.lanes replayed × (whole ≡ replayed_text form j.lanes replayed)

-- so of the third file's journal, in its own form, where it is lawful for the system and the stimuli of the first two
abbrev pub IsReplayed : Option Held → CheckWords → List ℕ → Type 0
IsReplayed held w whole =
    (sys : System) × (sources : List (List Stim)) × (form : ℕ) × (j : Journal) × AreLawful held w sys sources form j × IsReplayText form j whole
