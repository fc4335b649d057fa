-- What a process does that runs the program.
use Rattle.std.specs.Prelude.{◌≡◌, ℕ, List, Option, None, Result, Ok, Err, String, drop, map, string_bytes}
use Rattle.std.specs.Global.{Global}
use Rattle.std.specs.IoError.{error_kind}
use Rattle.std.specs.declared.io.Error.{Error}
use Rattle.std.specs.declared.io.ErrorKind.{ErrorKind}
use Rattle.std.specs.declared.io.ErrorKind.TheVariants.{InvalidData}
use Rattle.std.specs.declared.vec.IntoIter.{IntoIter}
use Rattle.std.specs.Vec.Iter.{into_iter_items}
use Rattle.clap.specs.Words.{Text}
use Rattle.qp_run_parts.specs.declared.status.Status.{Status}
use Rattle.qp_run_parts.specs.declared.status.Status.TheVariants.{Words, Memory}
use Rattle.qp_run_parts.specs.Conversions.{Held}
use Rattle.qp_run_parts.specs.Notes.{status_number}
use Rattle.qp_run_parts.specs.Verdict.{Counts, IsCall, IsPutFor, Noted, AnswerStands, Stream}
use Rattle.qp_commands.specs.WordTable.{command_in}

-- the arguments of a process, as `env::args` gives them
abbrev pub Args : Type 0
Args = IntoIter (String Global) Global

-- the words of a call: all arguments but the first, which is the program's name
abbrev pub words_in : Args → List Text
words_in args = map string_bytes (drop 1 (into_iter_items args))

-- why arguments could not be had, as an answer
abbrev pub unread_answer : ErrorKind → Status
unread_answer InvalidData = Words
unread_answer kind = Memory

-- without arguments only the line of the answer was put, which says why
pub record IsUnread (error : Error) (n : Counts) (output note : Stream) (answer : Status) : Type 0 where
  pub told : AnswerStands n.notes (unread_answer (error_kind error)) answer
  pub out : output.after ≡ output.before
  pub notes : Noted None (IsPutFor (unread_answer (error_kind error))) n.notes note.before note.after answer

-- what the process answered
abbrev pub IsAnswered : Result Args Error → Option Held → Counts → (output note : Stream) → Status → Type 0
IsAnswered (Ok args) held n output note answer = IsCall held (command_in (words_in args)) n output note answer
IsAnswered (Err error) held n output note answer = IsUnread error n output note answer

-- it ended with the number of such an answer
abbrev pub EndsWith : ℕ → (Status → Type 0) → Type 0
EndsWith code IsAnswer = (answer : Status) × (code ≡ status_number answer) × IsAnswer answer

-- a stream of which nothing is told
abbrev pub stream_untold : Stream
stream_untold = record { before = None; after = None }

-- it ended so over the files and streams of the process, which tell nothing but what failed
abbrev pub EndsUntold : Result Args Error → ℕ → Type 0
EndsUntold args code = (n : Counts) × EndsWith code (IsAnswered args None n stream_untold stream_untold)
