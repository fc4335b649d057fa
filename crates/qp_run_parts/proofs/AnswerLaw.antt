-- No call over files has two answers.
use Rattle.std.proofs.Common.{◌≡◌, ℕ, ◌≤◌, List, length, Option, Some, None, Result, Ok, Err, ◌⊎◌, refl, sym, ap, subst, ◌∙◌, arith, inl, inr}
use Rattle.qp_base.specs.Limits.{file_limit}
use Rattle.qp_model.specs.declared.stimulus.Stim.{Stim}
use Rattle.qp_model.specs.declared.systems.System.{System}
use Rattle.qp_stim.specs.Stimuli.{FaultLine, stimuli_of}
use Rattle.qp_system_tables.specs.declared.fault.SystemFault.{SystemFault}
use Rattle.qp_system_tables.specs.declared.fault.SystemFault.TheVariants.{Memory as NoMemory}
use Rattle.qp_system.specs.SystemOf.{IsSystemOf, RefusesSystem}
use Rattle.qp_system.proofs.LawLemmas.{systems_have_no_fault, refusals_are_one}
use Rattle.qp_system.proofs.SystemOne.{systems_are_one}
use Rattle.qp_check.specs.Judged.{IsVerdict, trials}
use Rattle.qp_check.proofs.VerdictLemmas.{verdicts_are_one}
use Rattle.qp_run_parts.specs.declared.status.Status.{Status}
use Rattle.qp_commands.specs.declared.values.KernelName.{KernelName}
use Rattle.qp_commands.specs.declared.values.KernelName.TheVariants.{Sim}
use Rattle.qp_commands.specs.declared.values.Kind.{Kind}
use Rattle.qp_commands.specs.declared.values.Kind.TheVariants.{Frames, Journal as Text}
use Rattle.qp_run_parts.specs.Checks.{JudgesFiles, JudgesFound, JudgesSecond, JudgesStimuli, JudgesSystem, JudgesThird, verdict_answer}
use Rattle.qp_system.specs.Made.{IsMade}
use Rattle.qp_run_parts.specs.Conversions.{AnswersJournal, Held, answer_on, decode_on, migrate_on, said}
use Rattle.qp_run_parts.specs.Endings.{ending_of}
use Rattle.qp_run_parts.specs.Laws.{EndRuns, MayBeTwo, OneAnswer}
use Rattle.qp_run_parts.specs.Loads.{EndsAtLoad, IsLoaded}
use Rattle.qp_model.specs.declared.journals.Journal.{Journal}
use Rattle.qp_run_parts.specs.Printed.{made_budget}
use Rattle.qp_commands.specs.WordTable.{check, decode, generate, migrate, number_of_form, replay, run}
use Rattle.qp_run_parts.specs.Verdict.{AnswersFiles, AnswersSources, AnswersStimuli, AnswersSystem, EndsMade, EndsRun, IsAnswer, IsInput}
use Rattle.qp_run_parts.specs.Refusals.{RefusesFirst, system_refusal}
use Rattle.qp_run_parts.proofs.RunLemmas.{journals-either}

-- a file that was not loaded has one answer
ends-one : (file : ℕ) (held : Option (List ℕ)) (a b : Status) → EndsAtLoad file held a → EndsAtLoad file held b → a ≡ b
ends-one file None a b p q = p ∙ sym q
ends-one file (Some bytes) a b p q = p.1 ∙ sym q.1

-- and a file that was loaded has none
pub loaded-goes_on : (file : ℕ) (held : Option (List ℕ)) (bytes : List ℕ) (a : Status) → IsLoaded held bytes → EndsAtLoad file held a → ⊥
loaded-goes_on file None bytes a loaded ends = let wrong = loaded.0 in cc
loaded-goes_on file (Some found) bytes a loaded ends =
    let same : found ≡ bytes = let is = loaded.0 in cc in
    let long = ends.0 in
    let short : length found ≤ file_limit = rw same loaded.1 in
    omega (arith, long, short)

pub loaded-one : (held : Option (List ℕ)) (x y : List ℕ) → IsLoaded held x → IsLoaded held y → x ≡ y
loaded-one held x y p q = let first = p.0 in let second = q.0 in cc

-- two answers on runs of one system are one, or may be two
ends-either : (AreNamed : System → List (List Stim) → Type 0) (kernel : KernelName) (budget : ℕ) (sys : System) (sources : List (List Stim)) → AreNamed sys sources
    → (a b : Status) → EndsRun sys sources kernel budget a → EndsRun sys sources kernel budget b → (a ≡ b) ⊎ EndRuns AreNamed kernel budget a b
ends-either AreNamed kernel budget sys sources named a b (i, is, ends) (j, are, others) = by (journals-either kernel budget sys sources i j is are)
  where
    by : (i ≡ j) ⊎ MayBeTwo kernel i j → (a ≡ b) ⊎ EndRuns AreNamed kernel budget a b
    by (inl same) = inl (ends ∙ ap ending_of same ∙ sym others)
    by (inr two) = inr (record { sys = sys; sources = sources; named = named; first = i; second = j; first_run = is; second_run = are; may_be_two = two }, ends, others)

-- a text of stimuli says the same to each system of the same bytes
pub stimuli-one : (bytes : List ℕ) (s t : System) (text : List ℕ) → IsSystemOf bytes s → IsSystemOf bytes t → stimuli_of s text ≡ stimuli_of t text
stimuli-one bytes s t text p q = ap (λ x. stimuli_of x text) (systems_are_one bytes s t p q)

-- the answers of two systems of the same bytes
module _ (bytes : List ℕ) where
  fault-one : (f g : SystemFault) (a b : Status) → RefusesSystem bytes f → (f ≡ NoMemory → ⊥) → a ≡ system_refusal f
      → RefusesSystem bytes g → (g ≡ NoMemory → ⊥) → b ≡ system_refusal g → a ≡ b
  fault-one f g a b p other is q another are = by (refusals_are_one bytes f g p q)
    where
      by : (f ≡ NoMemory) ⊎ (g ≡ NoMemory) ⊎ (f ≡ g) → a ≡ b
      by (inl memory) = absurd (other memory)
      by (inr (inl memory)) = absurd (another memory)
      by (inr (inr same)) = is ∙ ap system_refusal same ∙ sym are

  refusal-one : (a b : Status) → RefusesFirst bytes a → RefusesFirst bytes b → a ≡ b
  refusal-one a b (f, p, other, is) (g, q, another, are) = fault-one f g a b p other is q another are

  system-goes_on : (sys : System) (a : Status) → IsSystemOf bytes sys → RefusesFirst bytes a → ⊥
  system-goes_on sys a read (f, refuses, other, is) = other (systems_have_no_fault bytes sys f read refuses)

  -- a run of the one system is one of the other
  run-carries : (s t : System) → IsSystemOf bytes s → IsSystemOf bytes t → (sources : List (List Stim)) (kernel : KernelName) (budget : ℕ) (a : Status) → EndsRun s sources kernel budget a → EndsRun t sources kernel budget a
  run-carries s t p q sources kernel budget a is = subst (λ x. EndsRun x sources kernel budget a) (systems_are_one bytes s t p q) is

  module _ (AreNamed : System → List (List Stim) → Type 0) (kernel : KernelName) (budget : ℕ) (s t : System) (p : IsSystemOf bytes s) (q : IsSystemOf bytes t) where
    sources-run : (found : Result (List (List Stim)) FaultLine) → ((sources : List (List Stim)) → found ≡ Ok sources → AreNamed s sources) → (a b : Status)
        → AnswersSources s kernel budget found a → AnswersSources t kernel budget found b → (a ≡ b) ⊎ EndRuns AreNamed kernel budget a b
    sources-run (Err fault) named a b is are = inl (is ∙ sym are)
    sources-run (Ok sources) named a b is are = ends-either AreNamed kernel budget s sources (named sources refl) a b is (run-carries t s q p sources kernel budget b are)

    stimuli-run : (held : Option (List ℕ)) → ((text : List ℕ) (sources : List (List Stim)) → IsLoaded held text → stimuli_of s text ≡ Ok sources → AreNamed s sources)
        → (a b : Status) → AnswersStimuli held s kernel budget a → AnswersStimuli held t kernel budget b → (a ≡ b) ⊎ EndRuns AreNamed kernel budget a b
    stimuli-run held named a b (inl is) (inl are) = inl (ends-one 2 held a b is are)
    stimuli-run held named a b (inl is) (inr (text, loaded, are)) = absurd (loaded-goes_on 2 held text a loaded is)
    stimuli-run held named a b (inr (text, loaded, is)) (inl are) = absurd (loaded-goes_on 2 held text b loaded are)
    stimuli-run held named a b (inr (text, loaded, is)) (inr (other, found, are)) =
        sources-run (stimuli_of s text) (λ sources says. named text sources loaded says) a b is (subst (λ x. AnswersSources t kernel budget x b) same are)
      where
        same : stimuli_of t other ≡ stimuli_of s text
        same = ap (stimuli_of t) (loaded-one held other text found loaded) ∙ sym (stimuli-one bytes s t text p q)

  system-run : (AreNamed : System → List (List Stim) → Type 0) (kernel : KernelName) (budget : ℕ) (held : Option (List ℕ))
      → ((s : System) → IsSystemOf bytes s → (text : List ℕ) (sources : List (List Stim)) → IsLoaded held text → stimuli_of s text ≡ Ok sources → AreNamed s sources)
      → (a b : Status) → AnswersSystem bytes held kernel budget a → AnswersSystem bytes held kernel budget b → (a ≡ b) ⊎ EndRuns AreNamed kernel budget a b
  system-run AreNamed kernel budget held named a b (inl is) (inl are) = inl (refusal-one a b is are)
  system-run AreNamed kernel budget held named a b (inl is) (inr (sys, read, are)) = absurd (system-goes_on sys a read is)
  system-run AreNamed kernel budget held named a b (inr (sys, read, is)) (inl are) = absurd (system-goes_on sys b read are)
  system-run AreNamed kernel budget held named a b (inr (s, p, is)) (inr (t, q, are)) = stimuli-run AreNamed kernel budget s t p q held (named s p) a b is are

-- two answers on runs of two files are one, or are on two runs of what the files say
module _ (held : Held) (system stimuli : List ℕ) (kernel : KernelName) (budget : ℕ) where
  files-run-one : (a b : Status) → AnswersFiles (held system) (held stimuli) kernel budget a → AnswersFiles (held system) (held stimuli) kernel budget b
      → (a ≡ b) ⊎ EndRuns (IsInput (Some held) system stimuli) kernel budget a b
  unfolding AnswersFiles
  files-run-one a b (inl is) (inl are) = inl (ends-one 1 (held system) a b is are)
  files-run-one a b (inl is) (inr (bytes, loaded, are)) = absurd (loaded-goes_on 1 (held system) bytes a loaded is)
  files-run-one a b (inr (bytes, loaded, is)) (inl are) = absurd (loaded-goes_on 1 (held system) bytes b loaded are)
  files-run-one a b (inr (bytes, loaded, is)) (inr (other, found, are)) =
      system-run bytes (IsInput (Some held) system stimuli) kernel budget (held stimuli)
      (λ s read text sources has says. record { system = bytes; stimuli = text; system_held = loaded; stimuli_held = has; system_read = read; stimuli_read = says })
      a b is (subst (λ x. AnswersSystem x (held stimuli) kernel budget b) (loaded-one (held system) other bytes found loaded) are)

-- the answer where two files have a system and its stimuli
module _ (system stimuli : Option (List ℕ)) (kernel : KernelName) (budget : ℕ) (bytes text : List ℕ) (sys : System) (sources : List (List Stim))
    (system_held : IsLoaded system bytes) (read : IsSystemOf bytes sys) (stimuli_held : IsLoaded stimuli text) (says : stimuli_of sys text ≡ Ok sources) (answer : Status) where
  on-stimuli : (one : System) → IsSystemOf bytes one → AnswersStimuli stimuli one kernel budget answer → EndsRun one sources kernel budget answer
  on-stimuli one of (inl ends) = absurd (loaded-goes_on 2 stimuli text answer stimuli_held ends)
  on-stimuli one of (inr (found, loaded, is)) = subst (λ x. AnswersSources one kernel budget x answer) same is
    where
      same : stimuli_of one found ≡ Ok sources
      same = ap (stimuli_of one) (loaded-one stimuli found text loaded stimuli_held) ∙ stimuli-one bytes one sys text of read ∙ says

  on-system : AnswersSystem bytes stimuli kernel budget answer → EndsRun sys sources kernel budget answer
  on-system (inl refuses) = absurd (system-goes_on bytes sys answer read refuses)
  on-system (inr (one, of, is)) = run-carries bytes one sys of read sources kernel budget answer (on-stimuli one of is)

  pub files-run : AnswersFiles system stimuli kernel budget answer → EndsRun sys sources kernel budget answer
  unfolding AnswersFiles
  files-run (inl ends) = absurd (loaded-goes_on 1 system bytes answer system_held ends)
  files-run (inr (found, loaded, is)) = on-system (subst (λ b. AnswersSystem b stimuli kernel budget answer) (loaded-one system found bytes loaded system_held) is)

-- two answers on runs of what the same bytes say are one, or are on two runs that may leave two journals
runs-one : (AreNamed : System → List (List Stim) → Type 0) (bytes text : List ℕ) (s t : System) (xs ys : List (List Stim)) → AreNamed s xs
    → IsSystemOf bytes s → IsSystemOf bytes t → stimuli_of s text ≡ Ok xs → stimuli_of t text ≡ Ok ys
    → (kernel : KernelName) (budget : ℕ) (a b : Status) → EndsRun s xs kernel budget a → EndsRun t ys kernel budget b → (a ≡ b) ⊎ EndRuns AreNamed kernel budget a b
runs-one AreNamed bytes text s t xs ys named p q says tells kernel budget a b is are =
    let both : Ok ys ≡ Ok xs = sym tells ∙ sym (stimuli-one bytes s t text p q) ∙ says in
    let same : ys ≡ xs = cc in
    ends-either AreNamed kernel budget s xs named a b is (run-carries bytes t s q p xs kernel budget b (subst (λ zs. EndsRun t zs kernel budget b) same are))

-- and so are those of what a number makes
made-one : (n : ℕ) (a b : Status) → EndsMade n a → EndsMade n b → (a ≡ b) ⊎ EndRuns (IsMade n) Sim made_budget a b
unfolding EndsMade
made-one n a b (s, xs, made, is) (t, ys, makes, are) =
    runs-one (IsMade n) _ _ s t xs ys made made.system makes.system made.sources makes.sources Sim made_budget a b is are

-- a file has one journal, or none
journal-one : (kind : Kind) (on : Journal → Status) (held : Option (List ℕ)) (a b : Status) → AnswersJournal kind on held a → AnswersJournal kind on held b → a ≡ b
journal-one kind on held a b (inl is) (inl are) = ends-one 1 held a b is are
journal-one kind on held a b (inl is) (inr (bytes, loaded, are)) = absurd (loaded-goes_on 1 held bytes a loaded is)
journal-one kind on held a b (inr (bytes, loaded, is)) (inl are) = absurd (loaded-goes_on 1 held bytes b loaded are)
journal-one kind on held a b (inr (bytes, loaded, is)) (inr (other, found, are)) =
    is ∙ ap (λ x. answer_on on (said kind x)) (loaded-one held bytes other loaded found) ∙ sym are

-- the answers on a journal by two systems of the same bytes
module _ (bytes : List ℕ) where
  module _ (s t : System) (p : IsSystemOf bytes s) (q : IsSystemOf bytes t) where
    found-one : (sources : List (List Stim)) (found : Result (ℕ × Journal) Status) (a b : Status)
        → JudgesFound s sources found a → JudgesFound t sources found b → a ≡ b
    found-one sources (Err refusal) a b is are = is ∙ sym are
    found-one sources (Ok (form, j)) a b (v, judged, is) (w, also, are) =
        is ∙ ap verdict_answer (verdicts_are_one t sources j v w (subst (λ x. IsVerdict (trials x sources j) v) (systems_are_one bytes s t p q) judged) also) ∙ sym are

    third-one : (sources : List (List Stim)) (held : Option (List ℕ)) (a b : Status) → JudgesThird s sources held a → JudgesThird t sources held b → a ≡ b
    third-one sources held a b (inl is) (inl are) = ends-one 3 held a b is are
    third-one sources held a b (inl is) (inr (text, loaded, are)) = absurd (loaded-goes_on 3 held text a loaded is)
    third-one sources held a b (inr (text, loaded, is)) (inl are) = absurd (loaded-goes_on 3 held text b loaded are)
    third-one sources held a b (inr (text, loaded, is)) (inr (other, found, are)) =
        found-one sources (said Text text) a b is (subst (λ x. JudgesFound t sources (said Text x) b) (loaded-one held other text found loaded) are)

    sources-one : (held : Option (List ℕ)) (read : Result (List (List Stim)) FaultLine) (a b : Status)
        → JudgesStimuli s held read a → JudgesStimuli t held read b → a ≡ b
    sources-one held (Err fault) a b is are = is ∙ sym are
    sources-one held (Ok sources) a b is are = third-one sources held a b is are

    second-one : (stimuli held : Option (List ℕ)) (a b : Status) → JudgesSecond s stimuli held a → JudgesSecond t stimuli held b → a ≡ b
    second-one stimuli held a b (inl is) (inl are) = ends-one 2 stimuli a b is are
    second-one stimuli held a b (inl is) (inr (text, loaded, are)) = absurd (loaded-goes_on 2 stimuli text a loaded is)
    second-one stimuli held a b (inr (text, loaded, is)) (inl are) = absurd (loaded-goes_on 2 stimuli text b loaded are)
    second-one stimuli held a b (inr (text, loaded, is)) (inr (other, found, are)) =
        sources-one held (stimuli_of s text) a b is (subst (λ x. JudgesStimuli t held x b) same are)
      where
        same : stimuli_of t other ≡ stimuli_of s text
        same = ap (stimuli_of t) (loaded-one stimuli other text found loaded) ∙ sym (stimuli-one bytes s t text p q)

  judged-one : (stimuli held : Option (List ℕ)) (a b : Status) → JudgesSystem bytes stimuli held a → JudgesSystem bytes stimuli held b → a ≡ b
  judged-one stimuli held a b (inl (f, is, other, answer)) (inl (g, are, another, also)) = fault-one bytes f g a b is other answer are another also
  judged-one stimuli held a b (inl (f, is, other, answer)) (inr (t, q, are)) = absurd (other (systems_have_no_fault bytes t f q is))
  judged-one stimuli held a b (inr (s, p, is)) (inl (g, are, another, also)) = absurd (another (systems_have_no_fault bytes s g p are))
  judged-one stimuli held a b (inr (s, p, is)) (inr (t, q, are)) = second-one s t p q stimuli held a b is are

-- and so three files have one answer
files-judged-one : (system stimuli held : Option (List ℕ)) (a b : Status) → JudgesFiles system stimuli held a → JudgesFiles system stimuli held b → a ≡ b
unfolding JudgesFiles
files-judged-one system stimuli held a b (inl is) (inl are) = ends-one 1 system a b is are
files-judged-one system stimuli held a b (inl is) (inr (bytes, loaded, are)) = absurd (loaded-goes_on 1 system bytes a loaded is)
files-judged-one system stimuli held a b (inr (bytes, loaded, is)) (inl are) = absurd (loaded-goes_on 1 system bytes b loaded are)
files-judged-one system stimuli held a b (inr (bytes, loaded, is)) (inr (other, found, are)) =
    judged-one bytes stimuli held a b is (subst (λ x. JudgesSystem x stimuli held b) (loaded-one system other bytes found loaded) are)

pub one-answer : OneAnswer
unfolding IsAnswer
one-answer held None a b p q = inl (p ∙ sym q)
one-answer held (Some (run w)) a b p q = files-run-one held w.system w.stimuli w.kernel w.budget a b p q
one-answer held (Some (decode frames)) a b p q = inl (journal-one Frames decode_on (held frames) a b p q)
one-answer held (Some (migrate w)) a b p q = inl (journal-one w.from (migrate_on (number_of_form w.to)) (held w.file) a b p q)
one-answer held (Some (check w)) a b p q = inl (files-judged-one (held w.system) (held w.stimuli) (held w.journal) a b p q)
one-answer held (Some (replay w)) a b p q = inl (files-judged-one (held w.system) (held w.stimuli) (held w.journal) a b p q)
one-answer held (Some (generate n)) a b p q = made-one n a b p q
