-- Calls as a whole, once the line of their answer was put.
use Rattle.std.proofs.Common.{◌≡◌, ℕ, true, List, Option, Some, None, IfSome, refl, ap, sym, ◌∙◌, inl, inr}
use Rattle.std.proofs.lemmas.Bool.{false≢true}
use Rattle.qp_run_parts.specs.declared.status.Status.{Status}
use Rattle.qp_run_parts.specs.declared.status.Status.TheVariants.{Memory}
use Rattle.qp_run_parts.specs.Conversions.{Held}
use Rattle.qp_run_parts.specs.Notes.{names_file}
use Rattle.qp_run_parts.specs.Verdict.{Agrees, AnswersWords, Count, Counts, HasCause, IsCall, IsOutput, IsPutFor, Noted, Prints, AnswerStands, Stream, WouldAnswer, still_count}
use Rattle.qp_commands.specs.WordTable.{Asked}
use Rattle.qp_run_parts.proofs.CompleteLemmas.{complete}
use Rattle.qp_run_parts.proofs.VerdictLemmas.{agrees-stands, answers-stands, cause-stands, failure-agrees, prints-stands, noted-wider}

module _ (held : Option Held) (asked : Option Asked) (n : Counts) (output note : Stream) where
  -- an answer, and how it stands
  pub call-stands : (told answer : Status) → IfSome held (λ h. Agrees h asked told) → AnswersWords asked told → HasCause (record n { notes = still_count }) told
      → Prints held asked output.before output.after told → AnswerStands n.notes told answer
      → Noted asked (IsPutFor told) n.notes note.before note.after answer → IsCall held asked n output note answer
  call-stands told answer agrees words cause prints stands noted =
      let agree = agrees-stands held asked n.notes told answer agrees stands in
      let caused = cause-stands n told answer cause stands in
      record {
        told = agree;
        words_told = answers-stands asked n.notes told answer words stands;
        cause = caused;
        out = prints-stands (IsOutput held asked) output.before output.after n.notes told answer prints stands;
        complete = complete held asked n answer agree caused;
        notes = noted-wider asked (IsPutFor told) n.notes note.before note.after (WouldAnswer held asked output) would answer noted;
      }
    where
      stood : (put : Status) → IsPutFor told put → AnswerStands n.notes told put
      stood put (inl same) = inl same
      stood put (inr memory) = inr (inl memory)

      would : (put : Status) → IsPutFor told put → WouldAnswer held asked output put
      would put is = record {
        told = agrees-stands held asked n.notes told put agrees (stood put is);
        words_told = answers-stands asked n.notes told put words (stood put is);
        out = prints-stands (IsOutput held asked) output.before output.after n.notes told put prints (stood put is);
      }

-- want of memory answers any words
memory-words : (asked : Option Asked) → AnswersWords asked Memory
memory-words None = inr (inl refl)
memory-words (Some asked) = λ e. cc

-- memory was refused before anything was read or printed
pub memory-call : (held : Option Held) (asked : Option Asked) (n : Counts) (got : Option (List ℕ)) (note : Stream) (answer : Status)
    → AnswerStands n.notes Memory answer → Noted asked (IsPutFor Memory) n.notes note.before note.after answer
    → IsCall held asked n (record { before = got; after = got }) note answer
memory-call held asked n got note answer stands noted =
    call-stands held asked n (record { before = got; after = got }) note Memory answer (failure-agrees held asked Memory refl) (memory-words asked) tt refl stands noted

-- memory was refused to a line that names a file
pub stands-memory : (n : Count) (told answer : Status) → names_file told ≡ true → AnswerStands n Memory answer → AnswerStands n told answer
stands-memory n told answer names (inl memory) = inr (inl (memory, names))
stands-memory n told answer names (inr (inl (memory, none))) = inr (inl (memory, names))
stands-memory n told answer names (inr (inr (failed, rose, other))) = inr (inr (failed, rose, λ done. false≢true (ap names_file (sym done) ∙ names)))

-- the line of want of memory, in the place of one that names a file
pub memory-put : (told put : Status) → names_file told ≡ true → IsPutFor Memory put → IsPutFor told put
memory-put told put names (inl memory) = inr (memory, names)
memory-put told put names (inr (memory, none)) = inr (memory, names)
