-- What a call that judges a journal is to answer.
use Rattle.std.specs.Prelude.{codes, ◌≡◌, ℕ, Bool, true, false, IfSome, List, ◌⊎◌, Option, Result, Ok, Err}
use Rattle.qp_check_words.specs.declared.verdict.Verdict.{Verdict}
use Rattle.qp_check_words.specs.declared.verdict.Verdict.TheVariants.{Lawful, Broken}
use Rattle.qp_check.specs.Judged.{IsVerdict, trials}
use Rattle.qp_model.specs.declared.journals.Journal as journal
use Rattle.qp_model.specs.declared.stimulus.Stim.{Stim}
use Rattle.qp_model.specs.declared.systems.System.{System}
use Rattle.qp_model.specs.Lawful as lawful
use Rattle.qp_stim.specs.Stimuli.{FaultLine, stimuli_of}
use Rattle.qp_system.specs.SystemOf.{IsSystemOf}
use Rattle.qp_run_parts.specs.declared.place.Place.TheVariants.{Line}
use Rattle.qp_run_parts.specs.declared.status.Status.{Status}
use Rattle.qp_run_parts.specs.declared.status.Status.TheVariants.{Done, Refused, Memory, Unlawful}
use Rattle.qp_commands.specs.declared.values.Kind.TheVariants.{Journal}
use Rattle.qp_run_parts.specs.Conversions.{HasJournal, Held, said, written}
use Rattle.qp_run_parts.specs.Loads.{EndsAtLoad, IsLoaded}
use Rattle.qp_run_parts.specs.Refusals.{RefusesFirst}
use Rattle.qp_commands.specs.WordTable.{CheckWords}
use Rattle.qp_text.specs.TextLaw.{IsWritable}

-- a refusal of what stands in the third file
abbrev pub third : Status → Status
third (Refused file code at) = Refused 3 code at
third answer = answer

-- an answer on what files say: a file or its journal is refused, or memory was refused
abbrev pub is_of_files : Status → Bool
is_of_files Memory = true
is_of_files (Refused file code at) = true
is_of_files (Unlawful definition site) = true
is_of_files answer = false

-- the answer by the judge's verdict
abbrev pub verdict_answer : Verdict → Status
verdict_answer Lawful = Done
verdict_answer (Broken definition site) = Unlawful definition site

-- the answer on a journal
abbrev pub Judges : System → List (List Stim) → journal.Journal → Status → Type 0
Judges sys sources j answer = (v : Verdict) × IsVerdict (trials sys sources j) v × (answer ≡ verdict_answer v)

-- the bytes are the text of this journal in this form, and the journal is lawful
pub record IsLawfulText (sys : System) (sources : List (List Stim)) (bytes : List ℕ) (form : ℕ) (j : journal.Journal) : Type 0 where
  pub writable : IsWritable form j
  pub text : bytes ≡ written Journal form j
  pub lawful : lawful.Lawful sys sources j

-- the answer on what the third file says
abbrev pub JudgesFound : System → List (List Stim) → Result (ℕ × journal.Journal) Status → Status → Type 0
JudgesFound sys sources (Err refusal) answer = answer ≡ third refusal
JudgesFound sys sources (Ok (form, j)) answer = Judges sys sources j answer

-- the answer from the journal's file on
abbrev pub JudgesThird : System → List (List Stim) → Option (List ℕ) → Status → Type 0
JudgesThird sys sources held answer =
    EndsAtLoad 3 held answer ⊎ ((bytes : List ℕ) × IsLoaded held bytes × JudgesFound sys sources (said Journal bytes) answer)

-- the answer by what the stimuli's file says
abbrev pub JudgesStimuli : System → Option (List ℕ) → Result (List (List Stim)) FaultLine → Status → Type 0
JudgesStimuli sys held (Err fault) answer = answer ≡ Refused 2 fault.code (Line fault.line)
JudgesStimuli sys held (Ok sources) answer = JudgesThird sys sources held answer

-- the answer from the stimuli's file on
abbrev pub JudgesSecond : System → (stimuli held : Option (List ℕ)) → Status → Type 0
JudgesSecond sys stimuli held answer =
    EndsAtLoad 2 stimuli answer ⊎ ((bytes : List ℕ) × IsLoaded stimuli bytes × JudgesStimuli sys held (stimuli_of sys bytes) answer)

-- the answer from the content of the system's file on
abbrev pub JudgesSystem : List ℕ → (stimuli held : Option (List ℕ)) → Status → Type 0
JudgesSystem bytes stimuli held answer =
    RefusesFirst bytes answer ⊎ ((sys : System) × IsSystemOf bytes sys × JudgesSecond sys stimuli held answer)

-- the answer from the system's file on
unfoldable pub JudgesFiles : (system stimuli held : Option (List ℕ)) → Status → Type 0
unfolding stimuli_of said
JudgesFiles file stimuli held answer = EndsAtLoad 1 file answer ⊎ ((bytes : List ℕ) × IsLoaded file bytes × JudgesSystem bytes stimuli held answer)

-- the three files have this system, these stimuli, and the text of this journal, which is lawful for them
pub record AreLawful (held : Option Held) (w : CheckWords) (sys : System) (sources : List (List Stim)) (form : ℕ) (j : journal.Journal) : Type 0 where
  pub system : List ℕ
  pub stimuli : List ℕ
  pub system_held : IfSome held (λ h. IsLoaded (h w.system) system)
  pub stimuli_held : IfSome held (λ h. IsLoaded (h w.stimuli) stimuli)
  pub system_read : IsSystemOf system sys
  pub stimuli_read : stimuli_of sys stimuli ≡ Ok sources
  pub journal_held : HasJournal held w.journal Journal form j
  pub lawful : lawful.Lawful sys sources j

-- the three files have a system, its stimuli, and the text of a lawful journal of these
abbrev pub HasLawful : Option Held → CheckWords → Type 0
HasLawful held w = (sys : System) × (sources : List (List Stim)) × (form : ℕ) × (j : journal.Journal) × AreLawful held w sys sources form j

-- what is printed of a lawful journal
abbrev pub PrintsLawful : Option Held → CheckWords → List ℕ → Type 0
PrintsLawful held w whole = HasLawful held w × (whole ≡ codes "lawful\n")
