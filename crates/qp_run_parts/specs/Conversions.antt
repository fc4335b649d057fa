-- Journals that are read from a file, as text or as frames, and written again.
use Rattle.std.specs.Prelude.{◌≡◌, ℕ, IfSome, List, ◌⊎◌, Option, Result, Ok, Err, if◌then◌else◌, Bool, true, false}
use Rattle.qp_base.specs.Counts.{Rose}
use Rattle.qp_base.specs.Sink.{AppendsPrefix, appended}
use Rattle.qp_model.specs.declared.journals.Journal as journal
use Rattle.qp_model.specs.Output.{has_form}
use Rattle.qp_model.specs.OutputFrames.{frames}
use Rattle.qp_model.specs.OutputText.{text}
use Rattle.qp_text.specs.declared.found.Found as found
use Rattle.qp_text.specs.declared.found.TextFault as text_fault
use Rattle.qp_text.specs.declared.found.TextFault.TheVariants as text_faults
use Rattle.qp_text.specs.ReadText.{read_text}
use Rattle.qp_text.specs.TextLaw.{IsWritable}
use Rattle.qp_frames.specs.declared.faults.FrameFault as frame_fault
use Rattle.qp_frames.specs.declared.faults.FrameFault.TheVariants as frame_faults
use Rattle.qp_frames.specs.Stream.{decoded}
use Rattle.qp_run_parts.specs.declared.place.Place.TheVariants.{Nowhere, Line, Offset}
use Rattle.qp_run_parts.specs.declared.status.Status.{Status}
use Rattle.qp_run_parts.specs.declared.status.Status.TheVariants.{Done, Refused, Asserted, Spent, Memory, WriteFault}
use Rattle.qp_commands.specs.declared.values.Kind.{Kind}
use Rattle.qp_commands.specs.declared.values.Kind.TheVariants.{Journal, Frames}
use Rattle.qp_run_parts.specs.Loads.{EndsAtLoad, IsLoaded}

-- the code of a file whose journal doesn't have the form that is asked for
abbrev pub other_form : ℕ
other_form = 8

-- what a shelf holds, by name
abbrev pub Held : Type 0
Held = List ℕ → Option (List ℕ)

-- a journal in a form, as text or as frames
abbrev pub written : Kind → ℕ → journal.Journal → List ℕ
written Journal form j = text form j
written Frames form j = frames form j

-- why a text is refused, as an answer
abbrev pub text_refusal : text_fault.TextFault → Status
text_refusal text_faults.Memory = Memory
text_refusal (text_faults.Line number code) = Refused 1 code (Line number)

-- why frames are refused, as an answer
abbrev pub frame_refusal : frame_fault.FrameFault → Status
frame_refusal frame_faults.Memory = Memory
frame_refusal (frame_faults.At offset code want got) = Refused 1 code (Offset offset)

abbrev pub text_said : Result (ℕ × journal.Journal) (ℕ × ℕ) → Result (ℕ × journal.Journal) Status
text_said (Ok found) = Ok found
text_said (Err (number, code)) = Err (text_refusal (text_faults.Line number code))

abbrev pub frames_said : Result (ℕ × journal.Journal) frame_fault.FrameFault → Result (ℕ × journal.Journal) Status
frames_said (Ok found) = Ok found
frames_said (Err fault) = Err (frame_refusal fault)

-- what a file says: its form and its journal, or the answer that refuses it
unfoldable pub said : Kind → List ℕ → Result (ℕ × journal.Journal) Status
said Journal bytes = text_said (read_text bytes)
said Frames bytes = frames_said (decoded bytes)

-- a file's bytes are this journal in range, in its form
abbrev pub IsFoundIn : Kind → List ℕ → found.Found → Type 0
IsFoundIn kind bytes f = IsWritable f.form f.journal × (written kind f.form f.journal ≡ bytes)

-- an answer on what is in a file, or that memory was refused
abbrev pub is_of_content : Status → Bool
is_of_content Memory = true
is_of_content (Refused file code at) = true
is_of_content answer = false

-- a file's bytes are refused so, or memory was refused
abbrev pub RefusesFile : Kind → List ℕ → Status → Type 0
RefusesFile kind bytes answer = (is_of_content answer ≡ true) × ((answer ≡ Memory) ⊎ (said kind bytes ≡ Err answer))

-- the answer on what a file says, by the answer on its journal
abbrev pub answer_on : (journal.Journal → Status) → Result (ℕ × journal.Journal) Status → Status
answer_on on (Ok (form, j)) = on j
answer_on on (Err refusal) = refusal

-- the answer on a file with a journal as text or as frames, by the answer on its journal
abbrev pub AnswersJournal : Kind → (journal.Journal → Status) → Option (List ℕ) → Status → Type 0
AnswersJournal kind on held answer =
    EndsAtLoad 1 held answer ⊎ ((bytes : List ℕ) × IsLoaded held bytes × (answer ≡ answer_on on (said kind bytes)))

-- each journal is decoded
abbrev pub decode_on : journal.Journal → Status
decode_on j = Done

-- a journal that has the form is migrated to it
abbrev pub migrate_on : ℕ → journal.Journal → Status
migrate_on to j = if has_form to j then Done else Refused 1 other_form Nowhere

-- the file has this journal in this form, and the journal is in range
pub record HasJournal (held : Option Held) (name : List ℕ) (kind : Kind) (form : ℕ) (j : journal.Journal) : Type 0 where
  pub writable : IsWritable form j
  pub loaded : IfSome held (λ h. IsLoaded (h name) (written kind form j))

-- the text of the file's frames, in their own form
abbrev pub IsDecoded : Option Held → List ℕ → List ℕ → Type 0
IsDecoded held name whole = (form : ℕ) × (j : journal.Journal) × HasJournal held name Frames form j × (whole ≡ text form j)

-- the file's journal as such a file in another form, which it has
abbrev pub IsMigrated : Option Held → List ℕ → Kind → ℕ → List ℕ → Type 0
IsMigrated held name kind to whole =
    (form : ℕ) × (j : journal.Journal) × HasJournal held name kind form j × (has_form to j ≡ true) × (whole ≡ written kind to j)

-- such bytes, of a call that is done
abbrev pub WhenDone : (List ℕ → Type 0) → Status → List ℕ → Type 0
WhenDone IsWhole answer whole = (answer ≡ Done) × IsWhole whole

-- what the output got: all of such bytes, a part of them where a write failed, or nothing
abbrev pub PrintsOne : (Status → List ℕ → Type 0) → (old new : Option (List ℕ)) → Status → Type 0
PrintsOne IsWhole old new Done = (whole : List ℕ) × IsWhole Done whole × (new ≡ appended old whole)
PrintsOne IsWhole old new (Asserted code lane) = (whole : List ℕ) × IsWhole (Asserted code lane) whole × (new ≡ appended old whole)
PrintsOne IsWhole old new (Spent lane) = (whole : List ℕ) × IsWhole (Spent lane) whole × (new ≡ appended old whole)
PrintsOne IsWhole old new WriteFault = (new ≡ old) ⊎ ((told : Status) × (whole : List ℕ) × IsWhole told whole × AppendsPrefix old whole new)
PrintsOne IsWhole old new answer = new ≡ old

-- bytes were written, which is told so, or a part of them, and the fault was counted
abbrev pub IsWrittenAs : Status → List ℕ → (old new : Option (List ℕ)) → (faults faults' : ℕ) → Status → Type 0
IsWrittenAs told bytes old new faults faults' answer =
    ((answer ≡ told) × (new ≡ appended old bytes)) ⊎ ((answer ≡ WriteFault) × AppendsPrefix old bytes new × Rose faults faults')
