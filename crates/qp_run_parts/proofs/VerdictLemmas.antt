-- What a call is to answer, file by file.
use Rattle.std.proofs.Common.{◌≡◌, ℕ, true, false, List, length, Option, Some, None, IfSome, Result, Ok, Err, ◌⊎◌, refl, sym, ap, subst, ◌∙◌, arith, inl, inr}
use Rattle.std.proofs.lemmas.Bool.{false≢true}
use Rattle.std.proofs.lemmas.List.{take_all}
use Rattle.std.proofs.lemmas.Option.{IfSome_then}
use Rattle.qp_base.specs.Counts.{Rose}
use Rattle.qp_base.specs.Sink.{AppendsPrefix, appended}
use Rattle.qp_model.specs.declared.stimulus.Stim.{Stim}
use Rattle.qp_model.specs.declared.systems.System.{System}
use Rattle.qp_stim.specs.Stimuli.{FaultLine, stimuli_of}
use Rattle.qp_system.specs.SystemOf.{IsSystemOf}
use Rattle.qp_run_parts.specs.declared.status.Status.{Status}
use Rattle.qp_run_parts.specs.declared.status.Status.TheVariants.{Done, Words, Absent, TooLong, Refused, Asserted, Spent, Memory, ReadFault, WriteFault, Unlawful}
use Rattle.qp_run_parts.specs.Conversions.{Held, PrintsOne, decode_on, migrate_on}
use Rattle.qp_commands.specs.declared.values.KernelName.{KernelName}
use Rattle.qp_commands.specs.declared.values.Kind.TheVariants.{Frames}
use Rattle.qp_run_parts.specs.Loads.{IsLoaded}
use Rattle.qp_run_parts.specs.Notes.{line_of, names_file, is_quiet_success}
use Rattle.qp_run_parts.specs.Refusals.{RefusesFirst, RefusesSecond}
use Rattle.qp_run_parts.specs.Verdict.{Agrees, AgreesCheck, AgreesFiles, AgreesJournal, AgreesRun, AnswersFiles, AnswersSystem, AnswersStimuli, AnswersWords, Count, Counts, FailsToLoad, HasCause, HasRisen, IsAnswer, IsInput, IsPutFor, Noted, AnswerStands, AnswersSources, EndsMade, EndsRun, is_failure, still_count}
use Rattle.qp_commands.specs.WordTable.{Asked, CheckWords, MigrateWords, RunWords, check, decode, generate, migrate, number_of_form, replay, run}

-- a fact of what the shelf holds, where it tells
pub IfSome-all : {A : Type 0} {P : A → Type 0} (o : Option A) → ((x : A) → P x) → IfSome o P
IfSome-all None f = tt
IfSome-all (Some x) f = f x

pub IfSome-both : {A : Type 0} {P Q R : A → Type 0} (o : Option A) → IfSome o P → IfSome o Q → ((x : A) → P x → Q x → R x) → IfSome o R
IfSome-both None p q f = p
IfSome-both (Some x) p q f = f x p q

-- words that ask for nothing
pub told-unnamed : (o : Option Held) → IfSome o (λ held. Agrees held None Words)
unfolding IsAnswer
told-unnamed o = IfSome-all o (λ held. inr refl)

-- what refuses the stimuli is the answer on them
refusal-answers : (sys : System) (kernel : KernelName) (budget : ℕ) (found : Result (List (List Stim)) FaultLine) (status : Status) → RefusesSecond found status → AnswersSources sys kernel budget found status
refusal-answers sys kernel budget (Err fault) status is = is
refusal-answers sys kernel budget (Ok sources) status is = absurd is

-- what is answered on two files is answered on a run of them
module _ (o : Option Held) (system stimuli : List ℕ) (kernel : KernelName) (budget : ℕ) where
  -- the system's file was not loaded
  pub told-load : (status : Status) → IfSome o (λ held. FailsToLoad 1 (held system) status) → AgreesRun o system stimuli kernel budget status
  unfolding AnswersFiles
  told-load status told = IfSome_then o told by
    where
      by : (held : Held) → FailsToLoad 1 (held system) status → AgreesFiles (held system) (held stimuli) kernel budget status
      by held (inl failed) = inl failed
      by held (inr ends) = inr (inl ends)

  module _ (bytes : List ℕ) (loaded : IfSome o (λ held. IsLoaded (held system) bytes)) where
    by-bytes : (held : Held) (answer : Status) → IsLoaded (held system) bytes → AnswersSystem bytes (held stimuli) kernel budget answer
        → AgreesFiles (held system) (held stimuli) kernel budget answer
    unfolding AnswersFiles
    by-bytes held answer is answers = inr (inr (bytes, is, answers))

    -- the system's file isn't taken
    pub told-system : (status : Status) → (status ≡ Memory) ⊎ RefusesFirst bytes status → AgreesRun o system stimuli kernel budget status
    told-system status (inl memory) = IfSome-all o (λ held. inl (ap is_failure memory))
    told-system status (inr refuses) = IfSome_then o loaded (λ held is. by-bytes held status is (inl refuses))

    module _ (sys : System) (read : IsSystemOf bytes sys) where
      by-system : (held : Held) (answer : Status) → IsLoaded (held system) bytes → AnswersStimuli (held stimuli) sys kernel budget answer
          → AgreesFiles (held system) (held stimuli) kernel budget answer
      by-system held answer is answers = by-bytes held answer is (inr (sys, read, answers))

      -- the stimuli's file was not loaded
      pub told-load-2 : (status : Status) → IfSome o (λ held. FailsToLoad 2 (held stimuli) status) → AgreesRun o system stimuli kernel budget status
      told-load-2 status told = IfSome-both o loaded told by
        where
          by : (held : Held) → IsLoaded (held system) bytes → FailsToLoad 2 (held stimuli) status → AgreesFiles (held system) (held stimuli) kernel budget status
          by held is (inl failed) = inl failed
          by held is (inr ends) = by-system held status is (inl ends)

      module _ (text : List ℕ) (loaded_text : IfSome o (λ held. IsLoaded (held stimuli) text)) where
        by-text : (status : Status) → AnswersSources sys kernel budget (stimuli_of sys text) status → AgreesRun o system stimuli kernel budget status
        by-text status says = IfSome-both o loaded loaded_text (λ held is is_text. by-system held status is (inr (text, is_text, says)))

        -- the stimuli's file isn't taken
        pub told-stimuli : (status : Status) → (status ≡ Memory) ⊎ RefusesSecond (stimuli_of sys text) status → AgreesRun o system stimuli kernel budget status
        told-stimuli status (inl memory) = IfSome-all o (λ held. inl (ap is_failure memory))
        told-stimuli status (inr refuses) = by-text status (refusal-answers sys kernel budget (stimuli_of sys text) status refuses)

        -- its stimuli are run
        pub told-sources : (sources : List (List Stim)) → stimuli_of sys text ≡ Ok sources → (status : Status) → EndsRun sys sources kernel budget status
            → AgreesRun o system stimuli kernel budget status
        told-sources sources says status ends = by-text status (subst (λ found. AnswersSources sys kernel budget found status) (sym says) ends)

  -- two files that are run are answered by how the run ended
  pub input-ends : (sys : System) (sources : List (List Stim)) → IsInput o system stimuli sys sources → (status : Status) → EndsRun sys sources kernel budget status
      → AgreesRun o system stimuli kernel budget status
  input-ends sys sources input status ends =
      told-sources input.system input.system_held sys input.system_read input.stimuli input.stimuli_held sources input.stimuli_read status ends

  failure-files : (status : Status) → is_failure status ≡ true → AgreesRun o system stimuli kernel budget status
  failure-files status failed = IfSome-all o (λ held. inl failed)

  -- and if not by that, by a failure
  pub told-run : (sys : System) (sources : List (List Stim)) (answer : Status) → IsInput o system stimuli sys sources
      → (is_failure answer ≡ true) ⊎ EndsRun sys sources kernel budget answer → AgreesRun o system stimuli kernel budget answer
  told-run sys sources answer input (inl failed) = failure-files answer failed
  told-run sys sources answer input (inr ends) = input-ends sys sources input answer ends

-- the answer on what a call asks for
module _ (o : Option Held) (answer : Status) where
  pub agrees-run : (w : RunWords) → AgreesRun o w.system w.stimuli w.kernel w.budget answer → IfSome o (λ held. Agrees held (Some (run w)) answer)
  unfolding IsAnswer
  agrees-run w told = told

  pub agrees-decode : (frames : List ℕ) → AgreesJournal o Frames decode_on frames answer
      → IfSome o (λ held. Agrees held (Some (decode frames)) answer)
  unfolding IsAnswer
  agrees-decode frames told = told

  pub agrees-migrate : (w : MigrateWords) → AgreesJournal o w.from (migrate_on (number_of_form w.to)) w.file answer
      → IfSome o (λ held. Agrees held (Some (migrate w)) answer)
  unfolding IsAnswer
  agrees-migrate w told = told

  pub agrees-check : (w : CheckWords) → AgreesCheck o w answer
      → IfSome o (λ held. Agrees held (Some (check w)) answer)
  unfolding IsAnswer
  agrees-check w told = told

  pub agrees-replay : (w : CheckWords) → AgreesCheck o w answer
      → IfSome o (λ held. Agrees held (Some (replay w)) answer)
  unfolding IsAnswer
  agrees-replay w told = told

  pub agrees-generate : (n : ℕ) → (is_failure answer ≡ true) ⊎ EndsMade n answer → IfSome o (λ held. Agrees held (Some (generate n)) answer)
  unfolding IsAnswer
  agrees-generate n told = IfSome-all o (λ held. told)

-- a failure needs no word of the files
pub failure-agrees : (o : Option Held) (asked : Option Asked) (status : Status) → is_failure status ≡ true → IfSome o (λ held. Agrees held asked status)
failure-agrees o asked status failed = IfSome-all o (λ held. inl failed)

-- an answer that isn't `Done`
pub not-done : (answer : Status) → is_quiet_success answer ≡ false → answer ≡ Done → ⊥
not-done answer other done = false≢true (sym other ∙ ap is_quiet_success done)

-- the line of an answer was put
module _ (asked : Option Asked) (WouldBe : Status → Type 0) (n : Count) (old new : Option (List ℕ)) where
  noted-line : (answer : Status) → (answer ≡ Done → ⊥) → new ≡ appended old (line_of asked answer) → Noted asked WouldBe n old new answer
  unfolding Noted
  noted-line Done other put = absurd (other refl)
  noted-line WriteFault other put = inl put
  noted-line Words other put = put
  noted-line (Absent file) other put = put
  noted-line (TooLong file len) other put = put
  noted-line (Refused file code at) other put = put
  noted-line (Asserted code lane) other put = put
  noted-line (Spent lane) other put = put
  noted-line Memory other put = put
  noted-line ReadFault other put = put
  noted-line (Unlawful definition at) other put = put

  noted-fault : (put : Status) → WouldBe put → HasRisen n → AppendsPrefix old (line_of asked put) new → Noted asked WouldBe n old new WriteFault
  unfolding Noted
  noted-fault put would rose part = inr (rose, (put, would, part))

  -- where each answer that would have been is one of these too
  pub noted-wider : (Wider : Status → Type 0) → ((put : Status) → WouldBe put → Wider put) → (answer : Status) → Noted asked WouldBe n old new answer → Noted asked Wider n old new answer
  unfolding Noted
  noted-wider Wider wider Done noted = noted
  noted-wider Wider wider WriteFault (inl put) = inl put
  noted-wider Wider wider WriteFault (inr (rose, (put, would, part))) = inr (rose, (put, wider put would, part))
  noted-wider Wider wider Words noted = noted
  noted-wider Wider wider (Absent file) noted = noted
  noted-wider Wider wider (TooLong file len) noted = noted
  noted-wider Wider wider (Refused file code at) noted = noted
  noted-wider Wider wider (Asserted code lane) noted = noted
  noted-wider Wider wider (Spent lane) noted = noted
  noted-wider Wider wider Memory noted = noted
  noted-wider Wider wider ReadFault noted = noted
  noted-wider Wider wider (Unlawful definition at) noted = noted

pub noted-put : (asked : Option Asked) (n : Count) (old new : Option (List ℕ)) (told answer : Status) (line : List ℕ) → (told ≡ Done → ⊥) → line ≡ line_of asked told
    → ((answer ≡ told) × (new ≡ appended old line)) ⊎ ((answer ≡ WriteFault) × Rose n.before n.after × AppendsPrefix old line new) → Noted asked (IsPutFor told) n old new answer
noted-put asked n old new told answer line other is (inl (same, put)) = rw same (noted-line asked (IsPutFor told) n old new told other (put ∙ ap (appended old) is))
noted-put asked n old new told answer line other is (inr (failed, rose, part)) =
    subst (λ a. Noted asked (IsPutFor told) n old new a) (sym failed) (noted-fault asked (IsPutFor told) n old new told (inl refl) rose (rw is at part))

-- nothing was put
pub noted-done : (asked : Option Asked) (WouldBe : Status → Type 0) (n : Count) (old : Option (List ℕ)) (answer : Status) → is_quiet_success answer ≡ true → Noted asked WouldBe n old old answer
unfolding Noted
noted-done asked WouldBe n old Done done = refl
noted-done asked WouldBe n old Words done = absurd (false≢true done)
noted-done asked WouldBe n old (Absent file) done = absurd (false≢true done)
noted-done asked WouldBe n old (TooLong file len) done = absurd (false≢true done)
noted-done asked WouldBe n old (Refused file code at) done = absurd (false≢true done)
noted-done asked WouldBe n old (Asserted code lane) done = absurd (false≢true done)
noted-done asked WouldBe n old (Spent lane) done = absurd (false≢true done)
noted-done asked WouldBe n old Memory done = absurd (false≢true done)
noted-done asked WouldBe n old ReadFault done = absurd (false≢true done)
noted-done asked WouldBe n old WriteFault done = absurd (false≢true done)
noted-done asked WouldBe n old (Unlawful definition at) done = absurd (false≢true done)

-- an answer as it stands once its line was put
widened : (n : Counts) (answer : Status) → HasCause (record n { notes = still_count }) answer → HasCause n answer
widened n WriteFault (inl out) = inl out
widened n WriteFault (inr notes) = absurd (omega (arith, notes))
widened n (Asserted code lane) cause = cause
widened n (Spent lane) cause = cause
widened n Done cause = cause
widened n Words cause = cause
widened n (Absent file) cause = cause
widened n (TooLong file len) cause = cause
widened n (Refused file code at) cause = cause
widened n Memory cause = cause
widened n ReadFault cause = cause
widened n (Unlawful definition at) cause = cause

pub cause-stands : (n : Counts) (told answer : Status) → HasCause (record n { notes = still_count }) told → AnswerStands n.notes told answer → HasCause n answer
cause-stands n told answer cause (inl same) = rw same (widened n told cause)
cause-stands n told answer cause (inr (inl (memory, names))) = rw memory tt
cause-stands n told answer cause (inr (inr (failed, rose, other))) = rw failed (inr rose)

pub agrees-stands : (o : Option Held) (asked : Option Asked) (n : Count) (told answer : Status) → IfSome o (λ held. Agrees held asked told) → AnswerStands n told answer → IfSome o (λ held. Agrees held asked answer)
agrees-stands o asked n told answer agrees (inl same) = rw same agrees
agrees-stands o asked n told answer agrees (inr (inl (memory, names))) = failure-agrees o asked answer (ap is_failure memory)
agrees-stands o asked n told answer agrees (inr (inr (failed, rose, other))) = failure-agrees o asked answer (ap is_failure failed)

answers_none : (n : Count) (told answer : Status) → AnswersWords None told → AnswerStands n told answer → AnswersWords None answer
answers_none n told answer told_so (inl same) = rw same told_so
answers_none n told answer told_so (inr (inl (memory, names))) = inr (inl memory)
answers_none n told answer told_so (inr (inr (failed, rose, other))) = inr (inr failed)

pub answers-stands : (asked : Option Asked) (n : Count) (told answer : Status) → AnswersWords asked told → AnswerStands n told answer → AnswersWords asked answer
answers-stands None n told answer words stands = answers_none n told answer words stands
answers-stands (Some asked) n told answer other (inl same) = rw same other
answers-stands (Some asked) n told answer other (inr (inl (memory, names))) = rw memory (λ e. cc)
answers-stands (Some asked) n told answer other (inr (inr (failed, rose, _))) = rw failed (λ e. cc)

-- all bytes are a part of them
pub prefix-whole : (old new : Option (List ℕ)) (whole : List ℕ) → new ≡ appended old whole → AppendsPrefix old whole new
prefix-whole old new whole got = (length whole, omega arith, got ∙ ap (appended old) (sym (take_all (length whole) whole (omega arith))))

module _ (IsWhole : Status → List ℕ → Type 0) (old new : Option (List ℕ)) where
  prints_named : (told : Status) → names_file told ≡ true → PrintsOne IsWhole old new told → new ≡ old
  prints_named (Absent file) names prints = prints
  prints_named (TooLong file len) names prints = prints
  prints_named (Refused file code at) names prints = prints
  prints_named Done names prints = absurd (false≢true names)
  prints_named Words names prints = absurd (false≢true names)
  prints_named (Asserted code lane) names prints = absurd (false≢true names)
  prints_named (Spent lane) names prints = absurd (false≢true names)
  prints_named Memory names prints = absurd (false≢true names)
  prints_named ReadFault names prints = absurd (false≢true names)
  prints_named WriteFault names prints = absurd (false≢true names)
  prints_named (Unlawful definition at) names prints = absurd (false≢true names)

  prints_failed : (told : Status) → (told ≡ Done → ⊥) → PrintsOne IsWhole old new told → PrintsOne IsWhole old new WriteFault
  prints_failed Done other prints = absurd (other refl)
  prints_failed WriteFault other prints = prints
  prints_failed Words other prints = inl prints
  prints_failed (Absent file) other prints = inl prints
  prints_failed (TooLong file len) other prints = inl prints
  prints_failed (Refused file code at) other prints = inl prints
  prints_failed (Asserted code lane) other (whole, is, got) = inr (Asserted code lane, whole, is, prefix-whole old new whole got)
  prints_failed (Spent lane) other (whole, is, got) = inr (Spent lane, whole, is, prefix-whole old new whole got)
  prints_failed Memory other prints = inl prints
  prints_failed ReadFault other prints = inl prints
  prints_failed (Unlawful definition at) other prints = inl prints

  pub prints-stands : (n : Count) (told answer : Status) → PrintsOne IsWhole old new told → AnswerStands n told answer → PrintsOne IsWhole old new answer
  prints-stands n told answer prints (inl same) = rw same prints
  prints-stands n told answer prints (inr (inl (memory, names))) = rw memory (prints_named told names prints)
  prints-stands n told answer prints (inr (inr (failed, rose, other))) = rw failed (prints_failed told other prints)
