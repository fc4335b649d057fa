-- A journal of three files, judged file by file.
use Rattle.std.proofs.Common.{◌≡◌, ℕ, ◌⊎◌, true, List, Option, IfSome, Result, Ok, Err, refl, sym, ap, subst, ◌∙◌, inl, inr}
use Rattle.std.proofs.lemmas.Option.{IfSome_then}
use Rattle.qp_check_words.specs.declared.verdict.Verdict.{Verdict}
use Rattle.qp_check_words.specs.declared.verdict.Verdict.TheVariants.{Lawful}
use Rattle.qp_check.specs.Judged.{IsVerdict, trials}
use Rattle.qp_check.proofs.JudgedLemmas.{lawful_where_none_fails}
use Rattle.qp_model.specs.declared.journals.Journal as journal
use Rattle.qp_model.specs.declared.stimulus.Stim.{Stim}
use Rattle.qp_model.specs.declared.systems.System.{System}
use Rattle.qp_stim.specs.Stimuli.{FaultLine, stimuli_of}
use Rattle.qp_model.specs.Sound.{IsSound}
use Rattle.qp_model.proofs.ObjectLemmas.{priorities-are_bytes}
use Rattle.qp_system.specs.SystemOf.{IsSystemOf}
use Rattle.qp_system.proofs.LawLemmas.{systems_have_no_fault}
use Rattle.qp_system.proofs.SystemOne.{systems_are_one}
use Rattle.qp_text.specs.TextLaw.{IsWritable}
use Rattle.qp_run_parts.specs.declared.status.Status.{Status}
use Rattle.qp_run_parts.specs.declared.status.Status.TheVariants.{Memory}
use Rattle.qp_commands.specs.declared.values.Kind.TheVariants.{Journal}
use Rattle.qp_run_parts.specs.Checks.{AreLawful, IsLawfulText, Judges, JudgesFiles, JudgesFound, JudgesSecond, JudgesSystem, JudgesThird, JudgesStimuli, verdict_answer}
use Rattle.qp_run_parts.specs.Conversions.{Held, said, written}
use Rattle.qp_run_parts.specs.Loads.{IsLoaded}
use Rattle.qp_run_parts.specs.Verdict.{AgreesCheck, FailsToLoad, JudgesCall, is_failure}
use Rattle.qp_run_parts.specs.Refusals.{RefusesFirst, RefusesSecond}
use Rattle.qp_commands.specs.WordTable.{CheckWords, check_words}
use Rattle.qp_run_parts.proofs.AnswerLaw.{loaded-goes_on, loaded-one, stimuli-one}
use Rattle.qp_run_parts.proofs.ConversionLemmas.{said-written}
use Rattle.qp_run_parts.proofs.VerdictLemmas.{IfSome-all, IfSome-both}

-- what a text says
pub text-said : (form : ℕ) (j : journal.Journal) (bytes : List ℕ) → IsWritable form j × (written Journal form j ≡ bytes) → said Journal bytes ≡ Ok (form, j)
text-said form j bytes of = subst (λ b. said Journal b ≡ Ok (form, j)) of.1 (said-written Journal form j of.0)

-- a text of a journal that the judge finds lawful
pub lawful-text : (sys : System) (sources : List (List Stim)) (bytes : List ℕ) (form : ℕ) (j : journal.Journal) → IsSound sys
    → IsWritable form j × (written Journal form j ≡ bytes) → IsVerdict (trials sys sources j) Lawful → IsLawfulText sys sources bytes form j
lawful-text sys sources bytes form j sound of all = record {
  writable = of.0;
  text = sym of.1;
  lawful = (lawful_where_none_fails sys sources j (priorities-are_bytes sys.objects sound.priorities)).0 all;
}

-- the answer on what the third file says

pub found-judged : (sys : System) (sources : List (List Stim)) (found : Result (ℕ × journal.Journal) Status) (form : ℕ) (j : journal.Journal) (v : Verdict)
    → found ≡ Ok (form, j) → IsVerdict (trials sys sources j) v → JudgesFound sys sources found (verdict_answer v)
found-judged sys sources found form j v is verdict =
    subst (λ x. JudgesFound sys sources x (verdict_answer v)) (sym is) (v, verdict, refl)

-- what is answered on the three files
module _ (o : Option Held) (system stimuli held : List ℕ) where
  abbrev Told : Status → Type 0
  Told status = AgreesCheck o (check_words system stimuli held) status

  pub told-first : (status : Status) → IfSome o (λ h. FailsToLoad 1 (h system) status) → Told status
  unfolding JudgesFiles
  told-first status told = IfSome_then o told by
    where
      by : (h : Held) → FailsToLoad 1 (h system) status → (is_failure status ≡ true) ⊎ JudgesFiles (h system) (h stimuli) (h held) status
      by h (inl failed) = inl failed
      by h (inr ends) = inr (inl ends)

  module _ (bytes : List ℕ) (loaded : IfSome o (λ h. IsLoaded (h system) bytes)) where
    by-bytes : (h : Held) (status : Status) → IsLoaded (h system) bytes → JudgesSystem bytes (h stimuli) (h held) status → JudgesFiles (h system) (h stimuli) (h held) status
    unfolding JudgesFiles
    by-bytes h status is judges = inr (bytes, is, judges)

    pub told-system : (status : Status) → (status ≡ Memory) ⊎ RefusesFirst bytes status → Told status
    told-system status (inl memory) = IfSome-all o (λ h. inl (ap is_failure memory))
    told-system status (inr refuses) = IfSome_then o loaded (λ h is. inr (by-bytes h status is (inl refuses)))

    module _ (sys : System) (read : IsSystemOf bytes sys) where
      by-system : (h : Held) (status : Status) → IsLoaded (h system) bytes → JudgesSecond sys (h stimuli) (h held) status → JudgesFiles (h system) (h stimuli) (h held) status
      by-system h status is judges = by-bytes h status is (inr (sys, read, judges))

      pub told-second : (status : Status) → IfSome o (λ h. FailsToLoad 2 (h stimuli) status) → Told status
      told-second status told = IfSome-both o loaded told by
        where
          by : (h : Held) → IsLoaded (h system) bytes → FailsToLoad 2 (h stimuli) status → (is_failure status ≡ true) ⊎ JudgesFiles (h system) (h stimuli) (h held) status
          by h is (inl failed) = inl failed
          by h is (inr ends) = inr (by-system h status is (inl ends))

      module _ (text : List ℕ) (text_loaded : IfSome o (λ h. IsLoaded (h stimuli) text)) where
        refused : (found : Result (List (List Stim)) FaultLine) (other : Option (List ℕ)) (status : Status) → RefusesSecond found status → JudgesStimuli sys other found status
        refused (Err fault) other status is = is
        refused (Ok sources) other status is = absurd is

        pub told-stimuli : (status : Status) → (status ≡ Memory) ⊎ RefusesSecond (stimuli_of sys text) status → Told status
        told-stimuli status (inl memory) = IfSome-all o (λ h. inl (ap is_failure memory))
        told-stimuli status (inr refuses) =
            IfSome-both o loaded text_loaded (λ h is is_text. inr (by-system h status is (inr (text, is_text, refused (stimuli_of sys text) (h held) status refuses))))

        both-loaded : IfSome o (λ h. IsLoaded (h system) bytes × IsLoaded (h stimuli) text)
        both-loaded = IfSome-both o loaded text_loaded (λ h is is_text. (is, is_text))

        module _ (sources : List (List Stim)) (says : stimuli_of sys text ≡ Ok sources) where
          by-stimuli : (h : Held) (status : Status) → IsLoaded (h system) bytes → IsLoaded (h stimuli) text → JudgesThird sys sources (h held) status
              → JudgesFiles (h system) (h stimuli) (h held) status
          by-stimuli h status is is_text judges =
              by-system h status is (inr (text, is_text, subst (λ x. JudgesStimuli sys (h held) x status) (sym says) judges))

          pub told-third : (status : Status) → IfSome o (λ h. FailsToLoad 3 (h held) status) → Told status
          told-third status told = IfSome-both o both-loaded told by
            where
              by : (h : Held) → IsLoaded (h system) bytes × IsLoaded (h stimuli) text → FailsToLoad 3 (h held) status
                  → (is_failure status ≡ true) ⊎ JudgesFiles (h system) (h stimuli) (h held) status
              by h both (inl failed) = inl failed
              by h both (inr ends) = inr (by-stimuli h status both.0 both.1 (inl ends))

          pub judged-third : (found : List ℕ) → IfSome o (λ h. IsLoaded (h held) found) → (status : Status) → JudgesFound sys sources (said Journal found) status
              → JudgesCall o (check_words system stimuli held) status
          judged-third found found_loaded status judges =
              IfSome-both o both-loaded found_loaded
              (λ h both is. by-stimuli h status both.0 both.1 (inr (found, is, judges)))

          pub told-judged : (found : List ℕ) → IfSome o (λ h. IsLoaded (h held) found) → (status : Status)
              → (is_failure status ≡ true) ⊎ JudgesFound sys sources (said Journal found) status → Told status
          told-judged found found_loaded status (inl failed) = IfSome-all o (λ h. inl failed)
          told-judged found found_loaded status (inr judges) = IfSome_then o (judged-third found found_loaded status judges) (λ h is. inr is)

-- a system, its stimuli and the text of a lawful journal of these
pub are-lawful : (o : Option Held) (w : CheckWords) (system stimuli bytes : List ℕ) (sys : System) (sources : List (List Stim)) (form : ℕ) (j : journal.Journal)
    → IfSome o (λ h. IsLoaded (h w.system) system) → IfSome o (λ h. IsLoaded (h w.stimuli) stimuli) → IfSome o (λ h. IsLoaded (h w.journal) bytes)
    → IsSystemOf system sys → stimuli_of sys stimuli ≡ Ok sources → IsLawfulText sys sources bytes form j → AreLawful o w sys sources form j
are-lawful o w system stimuli bytes sys sources form j first second third_held read says text = record {
  system = system;
  stimuli = stimuli;
  system_held = first;
  stimuli_held = second;
  system_read = read;
  stimuli_read = says;
  journal_held = record { writable = text.writable; loaded = IfSome_then o third_held (λ h loaded. subst (IsLoaded (h w.journal)) text.text loaded) };
  lawful = text.lawful;
}

-- the answer where three files have a system, stimuli and a journal
module _ (system stimuli held : Option (List ℕ)) (bytes text : List ℕ) (sys : System) (sources : List (List Stim)) (form : ℕ) (j : journal.Journal)
    (system_held : IsLoaded system bytes) (read : IsSystemOf bytes sys) (stimuli_held : IsLoaded stimuli text) (says : stimuli_of sys text ≡ Ok sources)
    (writable : IsWritable form j) (journal_held : IsLoaded held (written Journal form j)) (answer : Status) where
  on-third : (one : System) → JudgesThird one sources held answer → Judges one sources j answer
  on-third one (inl ends) = absurd (loaded-goes_on 3 held (written Journal form j) answer journal_held ends)
  on-third one (inr (found, loaded, is)) =
      subst (λ x. JudgesFound one sources x answer) (text-said form j found (writable, loaded-one held (written Journal form j) found journal_held loaded)) is

  on-stimuli : (one : System) → IsSystemOf bytes one → JudgesStimuli one held (stimuli_of one text) answer → Judges one sources j answer
  on-stimuli one of is = on-third one (subst (λ x. JudgesStimuli one held x answer) (stimuli-one bytes one sys text of read ∙ says) is)

  on-second : (one : System) → IsSystemOf bytes one → JudgesSecond one stimuli held answer → Judges one sources j answer
  on-second one of (inl ends) = absurd (loaded-goes_on 2 stimuli text answer stimuli_held ends)
  on-second one of (inr (found, loaded, is)) =
      on-stimuli one of (subst (λ b. JudgesStimuli one held (stimuli_of one b) answer) (loaded-one stimuli found text loaded stimuli_held) is)

  on-system : JudgesSystem bytes stimuli held answer → Judges sys sources j answer
  on-system (inl (fault, refuses, other, is)) = absurd (other (systems_have_no_fault bytes sys fault read refuses))
  on-system (inr (one, of, is)) = subst (λ x. Judges x sources j answer) (systems_are_one bytes one sys of read) (on-second one of is)

  pub files-judged : JudgesFiles system stimuli held answer → Judges sys sources j answer
  unfolding JudgesFiles
  files-judged (inl ends) = absurd (loaded-goes_on 1 system bytes answer system_held ends)
  files-judged (inr (found, loaded, is)) = on-system (subst (λ b. JudgesSystem b stimuli held answer) (loaded-one system found bytes loaded system_held) is)
