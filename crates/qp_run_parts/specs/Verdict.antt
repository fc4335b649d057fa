-- What a call of the program is to answer.
use Rattle.std.specs.Prelude.{◌≡◌, ◌≢◌, ℕ, Bool, true, false, IfSome, List, ⊤, ◌⊎◌, Option, Some, None, Result, Ok, Err}
use Rattle.qp_base.specs.Counts.{Rose}
use Rattle.qp_base.specs.Sink.{AppendsPrefix, appended}
use Rattle.qp_model.specs.declared.journals.Journal as journal
use Rattle.qp_model.specs.declared.stimulus.Stim.{Stim}
use Rattle.qp_model.specs.declared.systems.System.{System}
use Rattle.qp_system.specs.Made.{IsMade}
use Rattle.qp_stim.specs.Stimuli.{FaultLine, stimuli_of}
use Rattle.qp_system.specs.SystemOf.{IsSystemOf}
use Rattle.qp_run_parts.specs.declared.place.Place.TheVariants.{Line}
use Rattle.qp_run_parts.specs.declared.status.Status.{Status}
use Rattle.qp_run_parts.specs.declared.status.Status.TheVariants.{Done, Words, Absent, TooLong, Refused, Asserted, Spent, Memory, ReadFault, WriteFault}
use Rattle.qp_commands.specs.declared.values.KernelName.{KernelName}
use Rattle.qp_commands.specs.declared.values.KernelName.TheVariants.{Sim}
use Rattle.qp_commands.specs.declared.values.Kind.{Kind}
use Rattle.qp_commands.specs.declared.values.Kind.TheVariants.{Frames, Journal as Text}
use Rattle.qp_commands.specs.declared.values.Output.{Output}
use Rattle.qp_run_parts.specs.Conversions.{AnswersJournal, Held, IsDecoded, IsMigrated, PrintsOne, WhenDone, decode_on, migrate_on, written}
use Rattle.qp_run_parts.specs.Checks.{PrintsLawful, Judges, JudgesFiles}
use Rattle.qp_run_parts.specs.Endings.{ending_of}
use Rattle.qp_run_parts.specs.Loads.{EndsAtLoad, IsLoaded}
use Rattle.qp_run_parts.specs.Notes.{file_of, line_of, names_file}
use Rattle.qp_run_parts.specs.Printed.{IsRunUnder, PrintsMade, PrintsRun, made_budget}
use Rattle.qp_run_parts.specs.Refusals.{RefusesFirst}
use Rattle.qp_run_parts.specs.Replays.{IsReplayed}
use Rattle.qp_commands.specs.WordTable.{Asked, CheckWords, check, decode, generate, migrate, number_of_form, operand_in, replay, run}
use Rattle.qp_text.specs.TextLaw.{IsWritable}

-- the answer on a run of this system and these stimuli: what the records of a lawful journal of them say
abbrev pub EndsRun : System → List (List Stim) → KernelName → ℕ → Status → Type 0
EndsRun sys sources kernel budget answer = (j : journal.Journal) × IsRunUnder kernel sys sources budget j × (answer ≡ ending_of j)

-- the answer by what the stimuli's file says
abbrev pub AnswersSources : System → KernelName → ℕ → Result (List (List Stim)) FaultLine → Status → Type 0
AnswersSources sys kernel budget (Err fault) answer = answer ≡ Refused 2 fault.code (Line fault.line)
AnswersSources sys kernel budget (Ok sources) answer = EndsRun sys sources kernel budget answer

-- the answer from the stimuli's file on
abbrev pub AnswersStimuli : Option (List ℕ) → System → KernelName → ℕ → Status → Type 0
AnswersStimuli held sys kernel budget answer =
    EndsAtLoad 2 held answer ⊎ ((bytes : List ℕ) × IsLoaded held bytes × AnswersSources sys kernel budget (stimuli_of sys bytes) answer)

-- the answer from the content of the system's file on
abbrev pub AnswersSystem : List ℕ → Option (List ℕ) → KernelName → ℕ → Status → Type 0
AnswersSystem bytes stimuli kernel budget answer =
    RefusesFirst bytes answer ⊎ ((sys : System) × IsSystemOf bytes sys × AnswersStimuli stimuli sys kernel budget answer)

-- the answer from the system's file on
unfoldable pub AnswersFiles : (system stimuli : Option (List ℕ)) → KernelName → ℕ → Status → Type 0
unfolding stimuli_of ending_of
AnswersFiles system stimuli kernel budget answer =
    EndsAtLoad 1 system answer ⊎ ((bytes : List ℕ) × IsLoaded system bytes × AnswersSystem bytes stimuli kernel budget answer)

-- the answer on a run of what a number makes
unfoldable pub EndsMade : ℕ → Status → Type 0
EndsMade n answer = (sys : System) × (sources : List (List Stim)) × IsMade n sys sources × EndsRun sys sources Sim made_budget answer

-- the answer to what a call asks for; words that ask for nothing are answered at once
abbrev pub AnswersCall : Held → Option Asked → Status → Type 0
AnswersCall held None answer = answer ≡ Words
AnswersCall held (Some (run w)) answer = AnswersFiles (held w.system) (held w.stimuli) w.kernel w.budget answer
AnswersCall held (Some (decode frames)) answer = AnswersJournal Frames decode_on (held frames) answer
AnswersCall held (Some (migrate w)) answer = AnswersJournal w.from (migrate_on (number_of_form w.to)) (held w.file) answer
AnswersCall held (Some (check w)) answer = JudgesFiles (held w.system) (held w.stimuli) (held w.journal) answer
AnswersCall held (Some (replay w)) answer = JudgesFiles (held w.system) (held w.stimuli) (held w.journal) answer
AnswersCall held (Some (generate n)) answer = EndsMade n answer

-- the answer to a call over files with this content, where memory, reads and writes don't fail: the words come first,
-- then the files in order, and then how the run ended, the form of a journal or the judge's verdict
unfoldable pub IsAnswer : Held → Option Asked → Status → Type 0
unfolding AnswersFiles JudgesFiles
IsAnswer held asked answer = AnswersCall held asked answer

-- memory was refused, or a read or a write failed
abbrev pub is_failure : Status → Bool
is_failure Memory = true
is_failure ReadFault = true
is_failure WriteFault = true
is_failure answer = false

-- a failure, or else the answer
abbrev pub Agrees : Held → Option Asked → Status → Type 0
Agrees held asked answer = (is_failure answer ≡ true) ⊎ IsAnswer held asked answer

abbrev pub AgreesFiles : (system stimuli : Option (List ℕ)) → KernelName → ℕ → Status → Type 0
AgreesFiles system stimuli kernel budget answer = (is_failure answer ≡ true) ⊎ AnswersFiles system stimuli kernel budget answer

-- a file was not loaded
abbrev pub FailsToLoad : ℕ → Option (List ℕ) → Status → Type 0
FailsToLoad file held answer = (is_failure answer ≡ true) ⊎ EndsAtLoad file held answer

-- a failure, or else the answer on files that the shelf tells: of a run, a conversion or a judgement
abbrev pub AgreesRun : Option Held → (system stimuli : List ℕ) → KernelName → ℕ → Status → Type 0
AgreesRun held system stimuli kernel budget answer = IfSome held (λ h. AgreesFiles (h system) (h stimuli) kernel budget answer)

abbrev pub AgreesJournal : Option Held → Kind → (journal.Journal → Status) → List ℕ → Status → Type 0
AgreesJournal held kind on name answer = IfSome held (λ h. (is_failure answer ≡ true) ⊎ AnswersJournal kind on (h name) answer)

abbrev pub JudgesCall : Option Held → CheckWords → Status → Type 0
JudgesCall held w answer = IfSome held (λ h. JudgesFiles (h w.system) (h w.stimuli) (h w.journal) answer)

abbrev pub AgreesCheck : Option Held → CheckWords → Status → Type 0
AgreesCheck held w answer = IfSome held (λ h. (is_failure answer ≡ true) ⊎ JudgesFiles (h w.system) (h w.stimuli) (h w.journal) answer)

-- a count before and after a call
pub record Count : Type 0 where
  pub before : ℕ
  pub after : ℕ

abbrev pub HasRisen : Count → Type 0
HasRisen n = Rose n.before n.after

-- the counts of a call: failed reads, missed files, failed writes of the output and of the notes
pub record Counts : Type 0 where
  pub reads : Count
  pub misses : Count
  pub out : Count
  pub notes : Count

-- a count that stood still
abbrev pub still_count : Count
still_count = record { before = 0; after = 0 }

-- a count over a call, by the shelf or the sink before and after it
abbrev pub count_over : {S : Type 0} → (S → ℕ) → (old new : S) → Count
count_over count old new = record { before = count old; after = count new }

-- the counts of a call that has only read, by the shelf's faults and misses
abbrev pub reads_of : {F : Type 0} → (faults misses : F → ℕ) → (old new : F) → Counts
reads_of faults misses old new = record { reads = count_over faults old new; misses = count_over misses old new; out = still_count; notes = still_count }

-- the counts of a call that has read and written, but put no line yet
abbrev pub writes_of : {F O : Type 0} → (faults misses : F → ℕ) → (O → ℕ) → (old new : F) → (out out' : O) → Counts
writes_of faults misses out_faults old new out out' = record (reads_of faults misses old new) { out = count_over out_faults out out' }

-- an answer that comes before the run
abbrev pub is_refusal : Status → Bool
is_refusal Done = false
is_refusal (Asserted code lane) = false
is_refusal (Spent lane) = false
is_refusal WriteFault = false
is_refusal answer = true

-- an answer that blames an edge of the program shows it in a count
abbrev pub HasCause : Counts → Status → Type 0
HasCause n (Absent file) = HasRisen n.misses
HasCause n (TooLong file len) = HasRisen n.misses
HasCause n ReadFault = HasRisen n.reads
HasCause n WriteFault = HasRisen n.out ⊎ HasRisen n.notes
HasCause n answer = ⊤

-- the answer whose line is put: the answer so far, or want of memory in the place of one whose line names a file
abbrev pub IsPutFor : (told put : Status) → Type 0
IsPutFor told put = (put ≡ told) ⊎ ((put ≡ Memory) × (names_file told ≡ true))

-- what the notes got: nothing for `Done`, else the line of the answer; or, where its put failed, a front of the line of the answer that
-- would have been
unfoldable pub Noted : Option Asked → (WouldBe : Status → Type 0) → Count → (old new : Option (List ℕ)) → Status → Type 0
unfolding line_of
Noted asked WouldBe n old new Done = new ≡ old
Noted asked WouldBe n old new WriteFault =
    (new ≡ appended old (line_of asked WriteFault)) ⊎ (HasRisen n × ((put : Status) × WouldBe put × AppendsPrefix old (line_of asked put) new))
Noted asked WouldBe n old new answer = new ≡ appended old (line_of asked answer)

-- words that ask for nothing are answered at once, if memory was found to read them
abbrev pub AnswersWords : Option Asked → Status → Type 0
AnswersWords None answer = (answer ≡ Words) ⊎ ((answer ≡ Memory) ⊎ (answer ≡ WriteFault))
AnswersWords (Some asked) answer = answer ≢ Words

-- the word that a line names, where it names a file
abbrev pub NamesFile : Option Asked → Status → List ℕ → Type 0
NamesFile asked answer name = names_file answer ≡ true → operand_in asked (file_of answer) ≡ name

-- how an answer stands once its line was put: as it was, or memory was refused to a line that names a file, or the put failed
abbrev pub AnswerStands : Count → (told answer : Status) → Type 0
AnswerStands n told answer =
    (answer ≡ told) ⊎ (((answer ≡ Memory) × (names_file told ≡ true)) ⊎ ((answer ≡ WriteFault) × HasRisen n × (told ≢ Done)))

-- what the two files of a run say: a system and stimuli
pub record IsInput (held : Option Held) (system_name stimuli_name : List ℕ) (sys : System) (sources : List (List Stim)) : Type 0 where
  pub system : List ℕ
  pub stimuli : List ℕ
  pub system_held : IfSome held (λ h. IsLoaded (h system_name) system)
  pub stimuli_held : IfSome held (λ h. IsLoaded (h stimuli_name) stimuli)
  pub system_read : IsSystemOf system sys
  pub stimuli_read : stimuli_of sys stimuli ≡ Ok sources

-- the output of a run, and the answer with it: what is printed of a run of the system and the stimuli of two files
abbrev pub IsRunOutput : Option Held → (system_name stimuli_name : List ℕ) → KernelName → ℕ → Output → ℕ → Status → List ℕ → Type 0
IsRunOutput held system_name stimuli_name kernel budget output form answer whole =
    (sys : System) × (sources : List (List Stim)) × IsInput held system_name stimuli_name sys sources
    × PrintsRun sys sources kernel budget output form answer whole

-- the whole output of a call that is answered so
abbrev pub IsOutput : Option Held → Option Asked → Status → List ℕ → Type 0
IsOutput held None answer whole = ⊥
IsOutput held (Some (run w)) answer whole = IsRunOutput held w.system w.stimuli w.kernel w.budget w.out (number_of_form w.form) answer whole
IsOutput held (Some (decode frames)) answer whole = WhenDone (IsDecoded held frames) answer whole
IsOutput held (Some (migrate w)) answer whole = WhenDone (IsMigrated held w.file w.from (number_of_form w.to)) answer whole
IsOutput held (Some (check w)) answer whole = WhenDone (PrintsLawful held w) answer whole
IsOutput held (Some (replay w)) answer whole = WhenDone (IsReplayed held w) answer whole
IsOutput held (Some (generate n)) answer whole = PrintsMade n answer whole

-- what the output got: the whole of it, a part of it where a write failed, or nothing
abbrev pub Prints : Option Held → Option Asked → (old new : Option (List ℕ)) → Status → Type 0
Prints held asked old new answer = PrintsOne (IsOutput held asked) old new answer

-- where no count rose, the answer is this one, or memory was refused
abbrev pub AnswersUnlessRisen : Counts → (wanted answer : Status) → Type 0
AnswersUnlessRisen n wanted answer = (HasRisen n.reads → ⊥) → (HasRisen n.out → ⊥) → (HasRisen n.notes → ⊥) → (answer ≡ wanted) ⊎ (answer ≡ Memory)

-- a file that the shelf tells has a journal as text or as frames, and this is the answer on the journal
abbrev pub EndsOnJournal : Option (List ℕ) → Kind → (journal.Journal → Status) → Counts → Status → Type 0
EndsOnJournal held kind on n answer =
    (form : ℕ) (j : journal.Journal) → IsWritable form j → IsLoaded held (written kind form j) → AnswersUnlessRisen n (on j) answer

-- a journal of three files that the shelf tells, of the system and the stimuli that the first two have, is judged
unfoldable pub EndsJudging : (system stimuli held : Option (List ℕ)) → Counts → Status → Type 0
unfolding stimuli_of
EndsJudging system stimuli held n answer =
    (bytes text : List ℕ) (sys : System) (sources : List (List Stim)) (form : ℕ) (j : journal.Journal)
    → IsLoaded system bytes → IsSystemOf bytes sys → IsLoaded stimuli text → stimuli_of sys text ≡ Ok sources
    → IsWritable form j → IsLoaded held (written Text form j)
    → (HasRisen n.reads → ⊥) → (HasRisen n.out → ⊥) → (HasRisen n.notes → ⊥) → Judges sys sources j answer ⊎ (answer ≡ Memory)

-- two files that the shelf tells have a system and its stimuli, and are run
unfoldable pub EndsRunning : (system stimuli : Option (List ℕ)) → KernelName → ℕ → Counts → Status → Type 0
unfolding stimuli_of ending_of
EndsRunning system stimuli kernel budget n answer =
    (bytes text : List ℕ) (sys : System) (sources : List (List Stim))
    → IsLoaded system bytes → IsSystemOf bytes sys → IsLoaded stimuli text → stimuli_of sys text ≡ Ok sources
    → (HasRisen n.reads → ⊥) → (HasRisen n.out → ⊥) → (HasRisen n.notes → ⊥) → EndsRun sys sources kernel budget answer ⊎ (answer ≡ Memory)

-- what a number makes is run
abbrev pub EndsMaking : ℕ → Counts → Status → Type 0
EndsMaking number n answer =
    (HasRisen n.reads → ⊥) → (HasRisen n.out → ⊥) → (HasRisen n.notes → ⊥) → EndsMade number answer ⊎ (answer ≡ Memory)

-- calls that end: each system is run on its stimuli, frames of a journal are decoded, a journal is migrated to each form that it has,
-- each journal is judged, and replayed where it is lawful, and what a number makes is run
abbrev pub EndsCall : Held → Option Asked → Counts → Status → Type 0
EndsCall held None n answer = AnswersUnlessRisen n Words answer
EndsCall held (Some (run w)) n answer = EndsRunning (held w.system) (held w.stimuli) w.kernel w.budget n answer
EndsCall held (Some (decode frames)) n answer = EndsOnJournal (held frames) Frames decode_on n answer
EndsCall held (Some (migrate w)) n answer = EndsOnJournal (held w.file) w.from (migrate_on (number_of_form w.to)) n answer
EndsCall held (Some (check w)) n answer = EndsJudging (held w.system) (held w.stimuli) (held w.journal) n answer
EndsCall held (Some (replay w)) n answer = EndsJudging (held w.system) (held w.stimuli) (held w.journal) n answer
EndsCall held (Some (generate number)) n answer = EndsMaking number n answer

-- a call over files that the shelf tells, in which no count rose, ends so, or memory was refused
abbrev pub IsComplete : Option Held → Option Asked → Counts → Status → Type 0
IsComplete held asked n answer = IfSome held (λ h. EndsCall h asked n answer)

-- what a stream had got before and after a call
pub record Stream : Type 0 where
  pub before : Option (List ℕ)
  pub after : Option (List ℕ)

abbrev pub stream_of : {S : Type 0} → (S → Option (List ℕ)) → (old new : S) → Stream
stream_of written old new = record { before = written old; after = written new }

-- the answer that would have been, had its line been put: it is exact but for failures, and the output got what it says
pub record WouldAnswer (held : Option Held) (asked : Option Asked) (output : Stream) (answer : Status) : Type 0 where
  pub told : IfSome held (λ h. Agrees h asked answer)
  pub words_told : AnswersWords asked answer
  pub out : Prints held asked output.before output.after answer

-- a call that asks for this, over a shelf that held this: its counts, its output, its note and its answer
pub record IsCall (held : Option Held) (asked : Option Asked) (n : Counts) (output note : Stream) (answer : Status) : Type 0 where
  -- the answer is exact but for failures, and each failure but want of memory shows in a count
  pub told : IfSome held (λ h. Agrees h asked answer)
  pub words_told : AnswersWords asked answer
  pub cause : HasCause n answer
  -- what a call printed that was carried out is the whole output that was asked for, and each that can be carried out is
  pub out : Prints held asked output.before output.after answer
  pub complete : IsComplete held asked n answer
  pub notes : Noted asked (WouldAnswer held asked output) n.notes note.before note.after answer
