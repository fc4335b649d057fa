-- No call over files has two outputs, but for those of runs that may leave two journals and those of cycles.
use Rattle.std.proofs.Common.{◌≡◌, ℕ, List, Some, None, Result, Ok, ◌⊎◌, sym, ap, subst, ◌∙◌, inl, inr}
use Rattle.qp_model.specs.declared.journals.Journal as journal
use Rattle.qp_model.specs.declared.stimulus.Stim.{Stim}
use Rattle.qp_model.specs.declared.systems.System.{System}
use Rattle.qp_model.specs.OutputText.{text}
use Rattle.qp_model.specs.Sound.{IsSound}
use Rattle.qp_unique.proofs.LowestLemmas.{one-order}
use Rattle.qp_unique.proofs.SummaryLemmas.{one-summary}
use Rattle.qp_replay.specs.Replaying.{IsReplay}
use Rattle.qp_replay.specs.declared.places.Replayed.{Replayed}
use Rattle.qp_replay.specs.declared.places.Replayed.TheVariants.{Order, Cycle}
use Rattle.qp_replay.specs.Text.{replayed_text}
use Rattle.qp_stim.specs.Stimuli.{stimuli_of}
use Rattle.qp_summary.specs.Written.{lines_joined}
use Rattle.qp_system.specs.SystemOf.{IsSystemOf}
use Rattle.qp_system.proofs.LawLemmas.{systems_are_sound}
use Rattle.qp_system.proofs.SystemOne.{systems_are_one}
use Rattle.qp_commands.specs.declared.values.KernelName.{KernelName}
use Rattle.qp_commands.specs.declared.values.KernelName.TheVariants.{Sim}
use Rattle.qp_commands.specs.declared.values.Kind.{Kind}
use Rattle.qp_commands.specs.declared.values.Kind.TheVariants.{Frames, Journal as Text}
use Rattle.qp_commands.specs.declared.values.Output.{Output}
use Rattle.qp_commands.specs.declared.values.Output.TheVariants.{Whole, Summary}
use Rattle.qp_commands.specs.WordTable.{CheckWords, check, decode, generate, migrate, number_of_form, replay, run}
use Rattle.qp_run_parts.specs.declared.status.Status.{Status}
use Rattle.qp_run_parts.specs.Conversions.{HasJournal, Held, IsDecoded, IsMigrated, WhenDone, said, written}
use Rattle.qp_system.specs.Made.{IsMade}
use Rattle.qp_run_parts.specs.Checks.{AreLawful, PrintsLawful}
use Rattle.qp_run_parts.specs.Endings.{ending_of}
use Rattle.qp_run_parts.specs.Laws.{MayBeTwo, OneOutput, PrintCycles, PrintRuns}
use Rattle.qp_run_parts.specs.Printed.{IsPrintOf, PrintsMade, PrintsOf, PrintsRun, made_budget}
use Rattle.qp_run_parts.specs.Replays.{IsReplayText, IsReplayed}
use Rattle.qp_run_parts.specs.Verdict.{IsInput, IsRunOutput}
use Rattle.qp_run_parts.proofs.AnswerLaw.{loaded-one, stimuli-one}
use Rattle.qp_run_parts.proofs.ConversionLemmas.{said-written}
use Rattle.qp_run_parts.proofs.RunLemmas.{journals-either}

-- ---- runs

-- a print of a journal is one
print-one : (output : Output) (form : ℕ) (sys : System) → IsSound sys → (j : journal.Journal) (x y : List ℕ) → IsPrintOf output form sys j x → IsPrintOf output form sys j y → x ≡ y
unfolding IsPrintOf
print-one (Whole kind) form sys sound j x y is are = is ∙ sym are
print-one Summary form sys sound j x y (lines, is, first) (others, are, second) = first ∙ ap lines_joined (one-summary sys j lines others sound is are) ∙ sym second

-- two outputs of runs of one system are one, or may be two
prints-either : (AreNamed : System → List (List Stim) → Type 0) (kernel : KernelName) (budget : ℕ) (sys : System) (sources : List (List Stim)) → AreNamed sys sources → IsSound sys → (output : Output) (form : ℕ) (a b : Status) (x y : List ℕ)
    → PrintsRun sys sources kernel budget output form a x → PrintsRun sys sources kernel budget output form b y → ((a ≡ b) × (x ≡ y)) ⊎ PrintRuns AreNamed kernel budget output form a b x y
unfolding PrintsRun PrintsOf
prints-either AreNamed kernel budget sys sources named sound output form a b x y (i, is, shape, range, (ends, print)) (j, are, has, lies, (others, prints)) = by (journals-either kernel budget sys sources i j is are)
  where
    by : (i ≡ j) ⊎ MayBeTwo kernel i j → ((a ≡ b) × (x ≡ y)) ⊎ PrintRuns AreNamed kernel budget output form a b x y
    by (inl same) = inl (
      ends ∙ ap ending_of same ∙ sym others,
      print-one output form sys sound j x y (subst (λ k. IsPrintOf output form sys k x) same print) prints,
    )
    by (inr two) = inr (
      record { sys = sys; sources = sources; named = named; first = i; second = j; first_run = is; second_run = are; may_be_two = two },
      (ends, print),
      (others, prints),
    )

-- what is printed of a run of one of the systems of the same bytes is printed of the other's
prints-carry : (bytes : List ℕ) (s t : System) → IsSystemOf bytes s → IsSystemOf bytes t → (sources : List (List Stim)) (kernel : KernelName) (budget : ℕ) (output : Output) (form : ℕ) (a : Status) (x : List ℕ)
    → PrintsRun s sources kernel budget output form a x → PrintsRun t sources kernel budget output form a x
prints-carry bytes s t p q sources kernel budget output form a x is = subst (λ y. PrintsRun y sources kernel budget output form a x) (systems_are_one bytes s t p q) is

outputs-one : (AreNamed : System → List (List Stim) → Type 0) (bytes text : List ℕ) (s t : System) (xs ys : List (List Stim)) → AreNamed s xs → IsSystemOf bytes s → IsSystemOf bytes t → stimuli_of s text ≡ Ok xs → stimuli_of t text ≡ Ok ys
    → (kernel : KernelName) (budget : ℕ) (output : Output) (form : ℕ) (a b : Status) (x y : List ℕ)
    → PrintsRun s xs kernel budget output form a x → PrintsRun t ys kernel budget output form b y → ((a ≡ b) × (x ≡ y)) ⊎ PrintRuns AreNamed kernel budget output form a b x y
outputs-one AreNamed bytes text s t xs ys named p q says tells kernel budget output form a b x y is are =
    let both : Ok ys ≡ Ok xs = sym tells ∙ sym (stimuli-one bytes s t text p q) ∙ says in
    let same : ys ≡ xs = cc in
    prints-either AreNamed kernel budget s xs named (systems_are_sound bytes s p) output form a b x y is
    (prints-carry bytes t s q p xs kernel budget output form b y (subst (λ zs. PrintsRun t zs kernel budget output form b y) same are))

run-one : (held : Held) (system stimuli : List ℕ) (kernel : KernelName) (budget : ℕ) (output : Output) (form : ℕ) (a b : Status) (x y : List ℕ)
    → IsRunOutput (Some held) system stimuli kernel budget output form a x → IsRunOutput (Some held) system stimuli kernel budget output form b y
    → ((a ≡ b) × (x ≡ y)) ⊎ PrintRuns (IsInput (Some held) system stimuli) kernel budget output form a b x y
run-one held system stimuli kernel budget output form a b x y (s, xs, input, is) (t, ys, other, are) =
    let first : other.system ≡ input.system = loaded-one (held system) other.system input.system other.system_held input.system_held in
    let second : other.stimuli ≡ input.stimuli = loaded-one (held stimuli) other.stimuli input.stimuli other.stimuli_held input.stimuli_held in
    outputs-one (IsInput (Some held) system stimuli) input.system input.stimuli s t xs ys input input.system_read (subst (λ bytes. IsSystemOf bytes t) first other.system_read)
    input.stimuli_read (subst (λ bytes. stimuli_of t bytes ≡ Ok ys) second other.stimuli_read) kernel budget output form a b x y is are

made-one : (n : ℕ) (a b : Status) (x y : List ℕ) → PrintsMade n a x → PrintsMade n b y → ((a ≡ b) × (x ≡ y)) ⊎ PrintRuns (IsMade n) Sim made_budget Summary 1 a b x y
unfolding PrintsMade
made-one n a b x y (s, xs, made, is) (t, ys, makes, are) =
    outputs-one (IsMade n) _ _ s t xs ys made made.system makes.system made.sources makes.sources Sim made_budget Summary 1 a b x y is are

-- ---- other calls

found-one : (x y : ℕ × journal.Journal) (found : Result (ℕ × journal.Journal) Status) → found ≡ Ok x → found ≡ Ok y → x ≡ y
found-one x y found is are = cc

module _ (held : Held) (name : List ℕ) (kind : Kind) where
  -- a file has one journal in one form
  journal-one : (form : ℕ) (i : journal.Journal) (other : ℕ) (j : journal.Journal) → HasJournal (Some held) name kind form i → HasJournal (Some held) name kind other j
      → (form ≡ other) × (i ≡ j)
  journal-one form i other j is are =
      let bytes : written kind form i ≡ written kind other j = loaded-one (held name) (written kind form i) (written kind other j) is.loaded are.loaded in
      let same = found-one (form, i) (other, j) (said kind (written kind form i)) (said-written kind form i is.writable)
      (ap (said kind) bytes ∙ said-written kind other j are.writable) in
      (ap (λ (x : ℕ × journal.Journal). x.0) same, ap (λ (x : ℕ × journal.Journal). x.1) same)

module _ (a b : Status) (x y : List ℕ) (Two : Type 0) where
  -- an output of a call that is done
  done-one : (IsWhole : List ℕ → Type 0) → (IsWhole x → IsWhole y → (x ≡ y) ⊎ Two) → WhenDone IsWhole a x → WhenDone IsWhole b y → ((a ≡ b) × (x ≡ y)) ⊎ Two
  done-one IsWhole one (done, is) (ends, are) = by (one is are)
    where
      by : (x ≡ y) ⊎ Two → ((a ≡ b) × (x ≡ y)) ⊎ Two
      by (inl same) = inl (done ∙ sym ends, same)
      by (inr two) = inr two

module _ (held : Held) (x y : List ℕ) where
  decoded-one : (name : List ℕ) → IsDecoded (Some held) name x → IsDecoded (Some held) name y → (x ≡ y) ⊎ ⊥
  decoded-one name (form, i, has, is) (other, j, also, are) =
      let same = journal-one held name Frames form i other j has also in
      inl (is ∙ (λ n. text (same.0 n) (same.1 n)) ∙ sym are)

  migrated-one : (name : List ℕ) (kind : Kind) (to : ℕ) → IsMigrated (Some held) name kind to x → IsMigrated (Some held) name kind to y → (x ≡ y) ⊎ ⊥
  migrated-one name kind to (form, i, has, fits, is) (other, j, also, can, are) =
      let same = journal-one held name kind form i other j has also in
      inl (is ∙ ap (written kind to) same.1 ∙ sym are)

  checked-one : (w : CheckWords) → PrintsLawful (Some held) w x → PrintsLawful (Some held) w y → (x ≡ y) ⊎ ⊥
  checked-one w (lawful, is) (also, are) = inl (is ∙ sym are)

  -- an order is one, and where there is one there is no cycle
  places-one : (w : CheckWords) (sys : System) (sources : List (List Stim)) (form : ℕ) (j : journal.Journal) → AreLawful (Some held) w sys sources form j
      → (first second : Replayed) → IsReplay j.lanes first → IsReplay j.lanes second
      → x ≡ replayed_text form j.lanes first → y ≡ replayed_text form j.lanes second → (x ≡ y) ⊎ PrintCycles held w x y
  places-one w sys sources form j lawful (Order xs) (Order ys) one two is are = inl (is ∙ ap (λ order. replayed_text form j.lanes (Order order)) (one-order j.lanes xs ys one.0.0 two.0.0) ∙ sym are)
  places-one w sys sources form j lawful (Order xs) (Cycle ys) one two is are = absurd (one.0.1 ys two)
  places-one w sys sources form j lawful (Cycle xs) (Order ys) one two is are = absurd (two.0.1 xs one)
  places-one w sys sources form j lawful (Cycle xs) (Cycle ys) one two is are = inr (sys, sources, form, j, lawful, xs, ys, one, two, is, are)

  replayed-one : (w : CheckWords) → IsReplayed (Some held) w x → IsReplayed (Some held) w y → (x ≡ y) ⊎ PrintCycles held w x y
  unfolding IsReplayText
  replayed-one w (sys, sources, form, i, lawful, (first, is, whole)) (t, others, other, j, also, (second, are, all)) =
      let same = journal-one held w.journal Text form i other j lawful.journal_held also.journal_held in
      places-one w sys sources form i lawful first second is (subst (λ k. IsReplay k.lanes second) (sym same.1) are) whole (all ∙ (λ n. replayed_text (sym same.0 n) (sym same.1 n).lanes second))

pub one-output : OneOutput
one-output held None a b x y is are = absurd is
one-output held (Some (run w)) a b x y is are = run-one held w.system w.stimuli w.kernel w.budget w.out (number_of_form w.form) a b x y is are
one-output held (Some (decode frames)) a b x y is are = done-one a b x y ⊥ (IsDecoded (Some held) frames) (decoded-one held x y frames) is are
one-output held (Some (migrate w)) a b x y is are = done-one a b x y ⊥ (IsMigrated (Some held) w.file w.from (number_of_form w.to)) (migrated-one held x y w.file w.from (number_of_form w.to)) is are
one-output held (Some (check w)) a b x y is are = done-one a b x y ⊥ (PrintsLawful (Some held) w) (checked-one held x y w) is are
one-output held (Some (replay w)) a b x y is are = done-one a b x y (PrintCycles held w x y) (IsReplayed (Some held) w) (replayed-one held x y w) is are
one-output held (Some (generate n)) a b x y is are = made-one n a b x y is are
