-- Runs that were printed, with their answers.
use Rattle.std.proofs.Common.{◌≡◌, ◌∙◌, ℕ, true, List, IsTrue, Option, Ok, Err, refl, sym, ap, subst, ◌⊎◌, inl, inr}
use Rattle.qp_model.specs.declared.journals.Journal.{Journal}
use Rattle.qp_model.specs.declared.stimulus.Stim.{Stim}
use Rattle.qp_model.specs.declared.systems.System.{System}
use Rattle.qp_model.specs.Output.{has_form, is_in_range}
use Rattle.qp_system.specs.Made.{IsMade}
use Rattle.qp_summary.specs.declared.summary.SummaryFault.TheVariants as fault
use Rattle.qp_summary.specs.Written.{SummaryFails, Writes, lines_joined}
use Rattle.qp_run_parts.specs.declared.status.Status.{Status}
use Rattle.qp_run_parts.specs.declared.status.Status.TheVariants.{Words, Memory, WriteFault}
use Rattle.qp_commands.specs.declared.values.KernelName.{KernelName}
use Rattle.qp_commands.specs.declared.values.KernelName.TheVariants.{Sim}
use Rattle.qp_commands.specs.declared.values.Kind.{Kind}
use Rattle.qp_commands.specs.declared.values.Output.{Output}
use Rattle.qp_commands.specs.declared.values.Output.TheVariants.{Whole, Summary}
use Rattle.qp_run_parts.specs.Conversions.{Held, IsWrittenAs, PrintsOne, written}
use Rattle.qp_run_parts.specs.Endings.{ending_of}
use Rattle.qp_run_parts.specs.Printed.{IsPrintOf, IsPrinted, IsRunUnder, PrintsMade, PrintsOf, PrintsRun, made_budget}
use Rattle.qp_run_parts.specs.Verdict.{Count, EndsMade, EndsRun, HasCause, IsInput, IsRunOutput, is_failure, still_count}
use Rattle.qp_run_parts.proofs.EndingLemmas.{written-about, written-cause, written-prints}

-- ---- what was printed of a journal

module _ (sys : System) (j : Journal) (told : Status) (ends : told ≡ ending_of j) (old new : Option (List ℕ)) (faults faults' : ℕ) where
  pub whole-printed : (kind : Kind) (form : ℕ) (answer : Status) → IsWrittenAs told (written kind form j) old new faults faults' answer
      → IsPrinted (PrintsOf (Whole kind) form sys j) old new faults faults' answer
  unfolding IsPrinted PrintsOf IsPrintOf
  whole-printed kind form answer wrote = inr (told, written kind form j, (ends, refl), wrote)

  module _ (form : ℕ) where
    pub summary-printed : {T : Type 0} (x : T) → Writes {T = T} (Ok x) sys j old new faults faults' → IsPrinted (PrintsOf Summary form sys j) old new faults faults' told
    unfolding IsPrinted PrintsOf IsPrintOf Writes
    summary-printed x (lines, is, got, same) = inr (told, lines_joined lines, (ends, (lines, is, refl)), inl (refl, got))

    pub summary-failed : (T : Type 0) → Writes {T = T} (Err fault.Failed) sys j old new faults faults' → IsPrinted (PrintsOf Summary form sys j) old new faults faults' WriteFault
    unfolding IsPrinted PrintsOf IsPrintOf Writes SummaryFails
    summary-failed T (lines, is, part, rose) = inr (told, lines_joined lines, (ends, (lines, is, refl)), inr (refl, part, rose))

    pub summary-memory : (T : Type 0) → Writes {T = T} (Err fault.Memory) sys j old new faults faults' → IsPrinted (PrintsOf Summary form sys j) old new faults faults' Memory
    unfolding IsPrinted Writes SummaryFails
    summary-memory T (same, still) = inl (refl, same)

-- memory was refused before anything was printed
pub memory-printed : (P : Status → List ℕ → Type 0) (got : Option (List ℕ)) (faults : ℕ) → IsPrinted P got got faults faults Memory
unfolding IsPrinted
memory-printed P got faults = inl (refl, refl)

-- ---- what was printed of a run

-- what was printed of a run's journal
pub journal-printed : (sys : System) (sources : List (List Stim)) (kernel : KernelName) (budget : ℕ) (j : Journal) → IsRunUnder kernel sys sources budget j
    → (output : Output) (form : ℕ) → IsTrue (has_form form j) → IsTrue (is_in_range form j) → (old new : Option (List ℕ)) (faults faults' : ℕ) (answer : Status) → IsPrinted (PrintsOf output form sys j) old new faults faults' answer
    → IsPrinted (PrintsRun sys sources kernel budget output form) old new faults faults' answer
unfolding IsPrinted PrintsRun
journal-printed sys sources kernel budget j is output form shape range old new faults faults' answer (inl none) = inl none
journal-printed sys sources kernel budget j is output form shape range old new faults faults' answer (inr (told, whole, prints, wrote)) =
    inr (told, whole, (j, is, shape, range, prints), wrote)

module _ (sys : System) (sources : List (List Stim)) (kernel : KernelName) (budget : ℕ) (output : Output) (form : ℕ) where
  abbrev Prints : Status → List ℕ → Type 0
  Prints = PrintsRun sys sources kernel budget output form

  -- its answer is what the records of some journal say
  prints-ends : (told : Status) (whole : List ℕ) → Prints told whole → EndsRun sys sources kernel budget told
  unfolding PrintsRun PrintsOf
  prints-ends told whole (j, is, shape, range, (ends, print)) = (j, is, ends)

  module _ (old new : Option (List ℕ)) (faults faults' : ℕ) (answer : Status) where
    wrote-ending : (told : Status) (whole : List ℕ) (ends : EndsRun sys sources kernel budget told) → IsWrittenAs told whole old new faults faults' answer
        → IsWrittenAs (ending_of ends.0) whole old new faults faults' answer
    wrote-ending told whole ends wrote = subst (λ s. IsWrittenAs s whole old new faults faults' answer) ends.2 wrote

    pub run-about : IsPrinted Prints old new faults faults' answer → answer ≡ Words → ⊥
    unfolding IsPrinted
    run-about (inl (memory, same)) words = let wrong : Memory ≡ Words = sym memory ∙ words in cc
    run-about (inr (told, whole, prints, wrote)) words =
        let ends = prints-ends told whole prints in
        written-about ends.0 whole old new faults faults' answer (wrote-ending told whole ends wrote) words

    pub run-cause : IsPrinted Prints old new faults faults' answer
        → (reads misses : Count) → HasCause (record { reads = reads; misses = misses; out = record { before = faults; after = faults' }; notes = still_count }) answer
    unfolding IsPrinted
    run-cause (inl (memory, same)) reads misses =
        subst (HasCause (record { reads = reads; misses = misses; out = record { before = faults; after = faults' }; notes = still_count })) (sym memory) tt
    run-cause (inr (told, whole, prints, wrote)) reads misses =
        let ends = prints-ends told whole prints in
        written-cause ends.0 whole old new faults faults' answer (wrote-ending told whole ends wrote) reads misses

    pub run-told : IsPrinted Prints old new faults faults' answer → (is_failure answer ≡ true) ⊎ EndsRun sys sources kernel budget answer
    unfolding IsPrinted
    run-told (inl (memory, same)) = inl (ap is_failure memory)
    run-told (inr (told, whole, prints, inl (is, got))) = inr (subst (EndsRun sys sources kernel budget) (sym is) (prints-ends told whole prints))
    run-told (inr (told, whole, prints, inr (failed, part, rose))) = inl (ap is_failure failed)

    -- what it printed, as another word for it
    run-prints : (IsWhole : Status → List ℕ → Type 0) → ((told : Status) (whole : List ℕ) → Prints told whole → IsWhole told whole)
        → IsPrinted Prints old new faults faults' answer → PrintsOne IsWhole old new answer
    unfolding IsPrinted
    run-prints IsWhole each (inl (memory, same)) = subst (PrintsOne IsWhole old new) (sym memory) same
    run-prints IsWhole each (inr (told, whole, prints, wrote)) =
        let ends = prints-ends told whole prints in
        written-prints ends.0 whole old new faults faults' answer (wrote-ending told whole ends wrote) IsWhole
        (λ other is. subst (λ s. IsWhole s whole) (ends.2 ∙ sym is) (each told whole prints))

    -- of two files
    pub files-printed : (held : Option Held) (system stimuli : List ℕ) → IsInput held system stimuli sys sources
        → IsPrinted Prints old new faults faults' answer → PrintsOne (IsRunOutput held system stimuli kernel budget output form) old new answer
    files-printed held system stimuli input printed =
        run-prints (IsRunOutput held system stimuli kernel budget output form) (λ told whole prints. (sys, sources, input, prints)) printed

-- ---- what was printed of what a number makes

module _ (n : ℕ) (sys : System) (sources : List (List Stim)) (made : IsMade n sys sources) (old new : Option (List ℕ)) (faults faults' : ℕ) (answer : Status)
    (printed : IsPrinted (PrintsRun sys sources Sim made_budget Summary 1) old new faults faults' answer) where
  made-prints : (told : Status) (whole : List ℕ) → PrintsRun sys sources Sim made_budget Summary 1 told whole → PrintsMade n told whole
  unfolding PrintsMade
  made-prints told whole prints = (sys, sources, made, prints)

  made-ends : (is_failure answer ≡ true) ⊎ EndsRun sys sources Sim made_budget answer → (is_failure answer ≡ true) ⊎ EndsMade n answer
  unfolding EndsMade
  made-ends (inl failed) = inl failed
  made-ends (inr ends) = inr (sys, sources, made, ends)

  pub made-printed : PrintsOne (PrintsMade n) old new answer
  made-printed = run-prints sys sources Sim made_budget Summary 1 old new faults faults' answer (PrintsMade n) made-prints printed

  pub made-told : (is_failure answer ≡ true) ⊎ EndsMade n answer
  made-told = made-ends (run-told sys sources Sim made_budget Summary 1 old new faults faults' answer printed)
