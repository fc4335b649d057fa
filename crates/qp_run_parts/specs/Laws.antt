-- What words and files settle of a call: its answer and its output.
use Rattle.std.specs.Prelude.{◌≡◌, ℕ, true, List, ⊤, ◌⊎◌, IsFalse, Option, Some}
use Rattle.std.specs.List.{list_any}
use Rattle.qp_model.specs.declared.journals.Journal as journal
use Rattle.qp_model.specs.declared.stimulus.Stim.{Stim}
use Rattle.qp_model.specs.declared.systems.System.{System}
use Rattle.qp_model.specs.Ends.{is_spill}
use Rattle.qp_model.specs.History.{all_items}
use Rattle.qp_model.specs.Places.{RecordPlace}
use Rattle.qp_replay.specs.Orders.{IsCycle}
use Rattle.qp_replay.specs.declared.places.Replayed.TheVariants.{Cycle}
use Rattle.qp_replay.specs.Text.{replayed_text}
use Rattle.qp_run_parts.specs.declared.status.Status.{Status}
use Rattle.qp_commands.specs.declared.values.KernelName.{KernelName}
use Rattle.qp_commands.specs.declared.values.KernelName.TheVariants.{Sim, Qk, Port, Wait, Qv}
use Rattle.qp_commands.specs.declared.values.Output.{Output}
use Rattle.qp_commands.specs.declared.values.Output.TheVariants.{Summary}
use Rattle.qp_commands.specs.WordTable.{Asked, CheckWords, generate, number_of_form, replay, run}
use Rattle.qp_system.specs.Made.{IsMade}
use Rattle.qp_run_parts.specs.Checks.{AreLawful}
use Rattle.qp_run_parts.specs.Conversions.{Held}
use Rattle.qp_run_parts.specs.Endings.{ending_of}
use Rattle.qp_run_parts.specs.Printed.{HaltedFull, IsRunUnder, PrintsOf, made_budget}
use Rattle.qp_unique.specs.Tidy.{has_short_lanes}
use Rattle.qp_run_parts.specs.Verdict.{IsAnswer, IsInput, IsOutput}

-- a lane of the journal ended with a `spill`
abbrev pub HasSpill : journal.Journal → Type 0
HasSpill j = list_any (λ i. is_spill i.body) (all_items j.lanes) ≡ true

-- a lane of the first has more than 999,992 records, or lane 0 of the second ended with a `spill`
abbrev pub MayLeave : (i j : journal.Journal) → Type 0
MayLeave i j = IsFalse (has_short_lanes i) ⊎ HaltedFull j

-- where runs with one thread may leave two journals: only where a lane of one of them ended with a `spill`, and each has a lane of more
-- than 999,992 records unless lane 0 of the other ended with a `spill`
abbrev pub HaveSpilt : (i j : journal.Journal) → Type 0
HaveSpilt i j = (HasSpill i ⊎ HasSpill j) × (MayLeave i j × MayLeave j i)

-- where runs under this kernel may leave two journals
abbrev pub MayBeTwo : KernelName → (i j : journal.Journal) → Type 0
MayBeTwo Sim i j = HaveSpilt i j
MayBeTwo Qk i j = ⊤
MayBeTwo Port i j = ⊤
MayBeTwo Wait i j = ⊤
MayBeTwo Qv i j = HaveSpilt i j

-- two lawful journals of one system and its stimuli, which are named so, with one kernel and one budget, that may be two
pub record TwoRuns (AreNamed : System → List (List Stim) → Type 0) (kernel : KernelName) (budget : ℕ) : Type 0 where
  pub sys : System
  pub sources : List (List Stim)
  pub named : AreNamed sys sources
  pub first : journal.Journal
  pub second : journal.Journal
  pub first_run : IsRunUnder kernel sys sources budget first
  pub second_run : IsRunUnder kernel sys sources budget second
  pub may_be_two : MayBeTwo kernel first second

-- these are the answers on two such runs
abbrev pub EndRuns : (System → List (List Stim) → Type 0) → KernelName → ℕ → (a b : Status) → Type 0
EndRuns AreNamed kernel budget a b = (two : TwoRuns AreNamed kernel budget) × (a ≡ ending_of two.first) × (b ≡ ending_of two.second)

-- of the system and the stimuli of the two files, or of those that the number makes
abbrev pub MayDiffer : Held → Option Asked → (a b : Status) → Type 0
MayDiffer held (Some (run w)) a b = EndRuns (IsInput (Some held) w.system w.stimuli) w.kernel w.budget a b
MayDiffer held (Some (generate n)) a b = EndRuns (IsMade n) Sim made_budget a b
MayDiffer held _ a b = ⊥

-- No call over files has two answers, but for a call that runs. There the words and files leave one refusal, or else one system with its
-- stimuli; a number makes one such system. Two answers are what the records of two lawful journals of these say: with threads, or where a
-- lane of one of them ended with a `spill` (`MayBeTwo`).
abbrev pub OneAnswer : Type 0
OneAnswer = (held : Held) (asked : Option Asked) (a b : Status) → IsAnswer held asked a → IsAnswer held asked b → (a ≡ b) ⊎ MayDiffer held asked a b

-- this is what is printed of two such runs, with the answers
abbrev pub PrintRuns : (System → List (List Stim) → Type 0) → KernelName → ℕ → Output → ℕ → (a b : Status) → (x y : List ℕ) → Type 0
PrintRuns AreNamed kernel budget output form a b x y =
    (two : TwoRuns AreNamed kernel budget) × PrintsOf output form two.sys two.first a x × PrintsOf output form two.sys two.second b y

-- these are the lines of two cycles among the records of the journal in the third file, which is lawful for what the first two say
abbrev pub PrintCycles : Held → CheckWords → (x y : List ℕ) → Type 0
PrintCycles held w x y =
    (sys : System) × (sources : List (List Stim)) × (form : ℕ) × (j : journal.Journal) × AreLawful (Some held) w sys sources form j
    × (first second : List RecordPlace) × IsCycle j.lanes first × IsCycle j.lanes second
    × (x ≡ replayed_text form j.lanes (Cycle first)) × (y ≡ replayed_text form j.lanes (Cycle second))

abbrev pub MayPrintTwo : Held → Option Asked → (a b : Status) → (x y : List ℕ) → Type 0
MayPrintTwo held (Some (run w)) a b x y = PrintRuns (IsInput (Some held) w.system w.stimuli) w.kernel w.budget w.out (number_of_form w.form) a b x y
MayPrintTwo held (Some (replay w)) a b x y = PrintCycles held w x y
MayPrintTwo held (Some (generate n)) a b x y = PrintRuns (IsMade n) Sim made_budget Summary 1 a b x y
MayPrintTwo held _ a b x y = ⊥

-- So the output is a function of the words and files: two whole outputs of a call are the same bytes, with the same answer, but for those
-- of two such runs and those of two cycles of one journal.
abbrev pub OneOutput : Type 0
OneOutput =
    (held : Held) (asked : Option Asked) (a b : Status) (x y : List ℕ) → IsOutput (Some held) asked a x → IsOutput (Some held) asked b y
    → ((a ≡ b) × (x ≡ y)) ⊎ MayPrintTwo held asked a b x y
