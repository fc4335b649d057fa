-- Calls in which no count rose.
use Rattle.std.proofs.Common.{◌≡◌, ℕ, true, List, Option, Some, None, IfSome, refl, sym, ap, ◌∙◌, ◌⊎◌, inl, inr}
use Rattle.std.proofs.lemmas.Bool.{false≢true}
use Rattle.qp_model.specs.declared.journals.Journal as journal
use Rattle.qp_model.specs.declared.stimulus.Stim.{Stim}
use Rattle.qp_model.specs.declared.systems.System.{System}
use Rattle.qp_text.specs.TextLaw.{IsWritable}
use Rattle.qp_run_parts.specs.declared.status.Status.{Status}
use Rattle.qp_run_parts.specs.declared.status.Status.TheVariants.{Done, Words, Absent, TooLong, Refused, Asserted, Spent, Memory, ReadFault, WriteFault, Unlawful}
use Rattle.qp_commands.specs.declared.values.KernelName.{KernelName}
use Rattle.qp_commands.specs.declared.values.Kind.{Kind}
use Rattle.qp_commands.specs.declared.values.Kind.TheVariants.{Frames}
use Rattle.qp_run_parts.specs.Conversions.{AnswersJournal, Held, answer_on, decode_on, migrate_on, said, written}
use Rattle.qp_run_parts.specs.Loads.{IsLoaded}
use Rattle.qp_run_parts.specs.Verdict.{Agrees, AnswersFiles, Counts, AnswersUnlessRisen, EndsCall, EndsMade, EndsMaking, EndsRun, EndsRunning, EndsJudging, HasCause, IsAnswer, IsComplete, is_failure}
use Rattle.qp_run_parts.specs.Checks.{Judges, JudgesFiles}
use Rattle.qp_commands.specs.WordTable.{Asked, check, decode, generate, migrate, number_of_form, replay, run}
use Rattle.qp_run_parts.proofs.AnswerLaw.{files-run, loaded-goes_on, loaded-one}
use Rattle.qp_run_parts.proofs.CheckLemmas.{files-judged}
use Rattle.qp_run_parts.proofs.ConversionLemmas.{said-written}

-- a failure shows in a count, but for want of memory
failed-ends : (n : Counts) (wanted answer : Status) → is_failure answer ≡ true → HasCause n answer → AnswersUnlessRisen n wanted answer
failed-ends n wanted Memory f c = λ reads out notes. inr refl
failed-ends n wanted ReadFault f c = λ reads out notes. absurd (reads c)
failed-ends n wanted WriteFault f (inl risen) = λ reads out notes. absurd (out risen)
failed-ends n wanted WriteFault f (inr risen) = λ reads out notes. absurd (notes risen)
failed-ends n wanted Done f c = absurd (false≢true f)
failed-ends n wanted Words f c = absurd (false≢true f)
failed-ends n wanted (Absent file) f c = absurd (false≢true f)
failed-ends n wanted (TooLong file len) f c = absurd (false≢true f)
failed-ends n wanted (Refused file code at) f c = absurd (false≢true f)
failed-ends n wanted (Asserted code lane) f c = absurd (false≢true f)
failed-ends n wanted (Spent lane) f c = absurd (false≢true f)
failed-ends n wanted (Unlawful definition at) f c = absurd (false≢true f)

-- the answer is the wanted one, or a failure
ends-so : (n : Counts) (wanted answer : Status) → (is_failure answer ≡ true) ⊎ (answer ≡ wanted) → HasCause n answer → AnswersUnlessRisen n wanted answer
ends-so n wanted answer (inl failed) cause = failed-ends n wanted answer failed cause
ends-so n wanted answer (inr is) cause = λ reads out notes. inl is

-- the answer on a file with this journal
on-journal : (kind : Kind) (on : journal.Journal → Status) (held : Option (List ℕ)) (answer : Status) (form : ℕ) (j : journal.Journal)
    → IsWritable form j → IsLoaded held (written kind form j) → AnswersJournal kind on held answer → answer ≡ on j
on-journal kind on held answer form j writable loaded (inl ends) = absurd (loaded-goes_on 1 held (written kind form j) answer loaded ends)
on-journal kind on held answer form j writable loaded (inr (bytes, found, is)) =
    is ∙ ap (λ x. answer_on on (said kind x)) (loaded-one held bytes (written kind form j) found loaded)
    ∙ ap (answer_on on) (said-written kind form j writable)

-- the verdict on a journal, or a failure
judging-done : (system stimuli held : Option (List ℕ)) (n : Counts) (answer : Status) → JudgesFiles system stimuli held answer → EndsJudging system stimuli held n answer
unfolding EndsJudging
judging-done system stimuli held n answer is = λ bytes text sys sources form j first read second says writable third reads out notes.
    inl (files-judged system stimuli held bytes text sys sources form j first read second says writable third answer is)

judging-failed : (system stimuli held : Option (List ℕ)) (n : Counts) (answer : Status) → is_failure answer ≡ true → HasCause n answer → EndsJudging system stimuli held n answer
unfolding EndsJudging
judging-failed system stimuli held n answer failed cause = λ bytes text sys sources form j first read second says writable third reads out notes.
    by sys sources j (failed-ends n Done answer failed cause reads out notes)
  where
    by : (sys : System) (sources : List (List Stim)) (j : journal.Journal) → (answer ≡ Done) ⊎ (answer ≡ Memory) → Judges sys sources j answer ⊎ (answer ≡ Memory)
    by sys sources j (inl done) = absurd (false≢true (ap is_failure (sym done) ∙ failed))
    by sys sources j (inr memory) = inr memory

-- how the run ended, or a failure
running-done : (system stimuli : Option (List ℕ)) (kernel : KernelName) (budget : ℕ) (n : Counts) (answer : Status) → AnswersFiles system stimuli kernel budget answer → EndsRunning system stimuli kernel budget n answer
unfolding EndsRunning
running-done system stimuli kernel budget n answer is = λ bytes text sys sources first read second says reads out notes.
    inl (files-run system stimuli kernel budget bytes text sys sources first read second says answer is)

running-failed : (system stimuli : Option (List ℕ)) (kernel : KernelName) (budget : ℕ) (n : Counts) (answer : Status) → is_failure answer ≡ true → HasCause n answer → EndsRunning system stimuli kernel budget n answer
unfolding EndsRunning
running-failed system stimuli kernel budget n answer failed cause = λ bytes text sys sources first read second says reads out notes.
    by sys sources (failed-ends n Done answer failed cause reads out notes)
  where
    by : (sys : System) (sources : List (List Stim)) → (answer ≡ Done) ⊎ (answer ≡ Memory) → EndsRun sys sources kernel budget answer ⊎ (answer ≡ Memory)
    by sys sources (inl done) = absurd (false≢true (ap is_failure (sym done) ∙ failed))
    by sys sources (inr memory) = inr memory

-- how the run of what a number makes ended, or a failure
making : (number : ℕ) (n : Counts) (answer : Status) → (is_failure answer ≡ true) ⊎ EndsMade number answer → HasCause n answer → EndsMaking number n answer
making number n answer (inr is) cause = λ reads out notes. inl is
making number n answer (inl failed) cause = λ reads out notes. by (failed-ends n Done answer failed cause reads out notes)
  where
    by : (answer ≡ Done) ⊎ (answer ≡ Memory) → EndsMade number answer ⊎ (answer ≡ Memory)
    by (inl done) = absurd (false≢true (ap is_failure (sym done) ∙ failed))
    by (inr memory) = inr memory

ends-call : (held : Held) (asked : Option Asked) (n : Counts) (answer : Status) → Agrees held asked answer → HasCause n answer → EndsCall held asked n answer
unfolding IsAnswer
ends-call held None n answer agrees cause = ends-so n Words answer agrees cause
ends-call held (Some (run w)) n answer (inl failed) cause = running-failed (held w.system) (held w.stimuli) w.kernel w.budget n answer failed cause
ends-call held (Some (run w)) n answer (inr is) cause = running-done (held w.system) (held w.stimuli) w.kernel w.budget n answer is
ends-call held (Some (decode frames)) n answer (inl failed) cause = λ form j writable loaded. ends-so n _ answer (inl failed) cause
ends-call held (Some (decode frames)) n answer (inr is) cause = λ form j writable loaded.
    ends-so n _ answer (inr (on-journal Frames decode_on (held frames) answer form j writable loaded is)) cause
ends-call held (Some (migrate w)) n answer (inl failed) cause = λ form j writable loaded. ends-so n _ answer (inl failed) cause
ends-call held (Some (migrate w)) n answer (inr is) cause = λ form j writable loaded.
    ends-so n _ answer (inr (on-journal w.from (migrate_on (number_of_form w.to)) (held w.file) answer form j writable loaded is)) cause
ends-call held (Some (check w)) n answer (inl failed) cause = judging-failed (held w.system) (held w.stimuli) (held w.journal) n answer failed cause
ends-call held (Some (check w)) n answer (inr is) cause = judging-done (held w.system) (held w.stimuli) (held w.journal) n answer is
ends-call held (Some (replay w)) n answer (inl failed) cause = judging-failed (held w.system) (held w.stimuli) (held w.journal) n answer failed cause
ends-call held (Some (replay w)) n answer (inr is) cause = judging-done (held w.system) (held w.stimuli) (held w.journal) n answer is
ends-call held (Some (generate number)) n answer agrees cause = making number n answer agrees cause

pub complete : (o : Option Held) (asked : Option Asked) (n : Counts) (answer : Status) → IfSome o (λ held. Agrees held asked answer) → HasCause n answer → IsComplete o asked n answer
complete None asked n answer agrees cause = tt
complete (Some held) asked n answer agrees cause = ends-call held asked n answer agrees cause
