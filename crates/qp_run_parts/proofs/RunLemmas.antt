-- What a run with one thread leaves is the only journal of its kind.
use Rattle.std.proofs.Common.{◌≡◌, ◌∙◌, ℕ, Bool, true, false, List, Result, Ok, Err, IfOk, ◌⊎◌, inl, inr, refl, sym, ap}
use Rattle.std.specs.List.{list_any}
use Rattle.qp_model.specs.declared.journals.Journal.{Journal}
use Rattle.qp_model.specs.declared.stimulus.Stim.{Stim}
use Rattle.qp_model.specs.declared.systems.System.{System}
use Rattle.qp_model.specs.Ends.{is_spill}
use Rattle.qp_model.specs.History.{all_items}
use Rattle.qp_model.specs.Sound.{IsSound}
use Rattle.qp_stim.specs.Rules.{StimuliFit}
use Rattle.qp_unique.specs.JournalLaws.{IsOneThreadJournal}
use Rattle.qp_unique.proofs.OnlyLemmas.{all-one, unspilt-one}
use Rattle.qp_model.specs.Kernels.{sim, qv, has_one_order}
use Rattle.qp_model.specs.Lawful.{Lawful}
use Rattle.qp_kernel_runs.specs.SimRun.{IsQvRun, IsSimRun}
use Rattle.qp_commands.specs.declared.values.KernelName.{KernelName}
use Rattle.qp_commands.specs.declared.values.KernelName.TheVariants.{Sim, Qk, Port, Wait, Qv}
use Rattle.qp_unique.specs.Tidy.{LacksStimulus, has_short_lanes}
use Rattle.qp_run_parts.specs.Laws.{HasSpill, HaveSpilt, MayBeTwo, MayLeave}
use Rattle.qp_run_parts.specs.Printed.{HaltedFull, IsOnlyRun, IsRunUnder}

-- runs of one system, its stimuli and a budget under one kernel, which has one thread
module _ (sys : System) (sources : List (List Stim)) (kernel budget : ℕ) (single : has_one_order kernel ≡ true) (IsRun : Journal → Type 0)
    (runs : (j : Journal) → IsRun j → (j.kernel ≡ kernel) × (j.budget ≡ budget) × Lawful sys sources j) (sound : IsSound sys) (fit : StimuliFit sys sources) where
  its-journal : (j : Journal) → IsRun j → IsOneThreadJournal sys sources j
  its-journal j is = let run = runs j is in record { lawful = run.2; one_thread = ap has_one_order run.0 ∙ single }

  only-run : (j : Journal) → IsRun j → IsOnlyRun IsRun j
  only-run j is = record {
    run = is;
    only = λ short other others. halted other (all-one sys sources j other sound fit (its-journal j is) (its-journal other others) (kernels other others) (budgets other others) short);
    only_unspilt = λ unspilt other others clean. unspilt-one sys sources j other sound fit (its-journal j is) (its-journal other others) (kernels other others) (budgets other others) unspilt clean;
  }
    where
      kernels : (other : Journal) → IsRun other → other.kernel ≡ j.kernel
      kernels other others = (runs other others).0 ∙ sym (runs j is).0

      budgets : (other : Journal) → IsRun other → j.budget ≡ other.budget
      budgets other others = (runs j is).1 ∙ sym (runs other others).1

      halted : (other : Journal) → (other ≡ j) ⊎ LacksStimulus sys sources other → (other ≡ j) ⊎ HaltedFull other
      halted other (inl same) = inl same
      halted other (inr lacks) = inr lacks.spilt

  only-runs : {T E : Type 0} (journal : T → Journal) (result : Result T E) → IfOk result (λ x. IsRun (journal x)) → IfOk result (λ x. IsOnlyRun IsRun (journal x))
  only-runs journal (Ok x) is = only-run (journal x) is
  only-runs journal (Err e) is = is

module _ (sys : System) (sources : List (List Stim)) (budget : ℕ) (sound : IsSound sys) (fit : StimuliFit sys sources) {T E : Type 0} (journal : T → Journal) (result : Result T E) where
  pub sim-runs : IfOk result (λ x. IsSimRun sys sources budget (journal x)) → IfOk result (λ x. IsRunUnder Sim sys sources budget (journal x))
  sim-runs is = only-runs sys sources sim budget refl (λ j. IsSimRun sys sources budget j) (λ j run. (run.kernel, run.budget_is, run.lawful)) sound fit journal result is

  pub qv-runs : IfOk result (λ x. IsQvRun sys sources budget (journal x)) → IfOk result (λ x. IsRunUnder Qv sys sources budget (journal x))
  qv-runs is = only-runs sys sources qv budget refl (λ j. IsQvRun sys sources budget j) (λ j run. (run.run.kernel, run.run.budget_is, run.run.lawful)) sound fit journal result is

-- beside a short journal another is the same, or its lane 0 ended with a `spill`
beside : (IsRun : Journal → Type 0) (i j : Journal) → IsOnlyRun IsRun i → IsOnlyRun IsRun j → (j ≡ i) ⊎ MayLeave i j
beside IsRun i j is are = by (has_short_lanes i) refl
  where
    on : (j ≡ i) ⊎ HaltedFull j → (j ≡ i) ⊎ MayLeave i j
    on (inl same) = inl same
    on (inr halted) = inr (inr halted)

    by : (b : Bool) → has_short_lanes i ≡ b → (j ≡ i) ⊎ MayLeave i j
    by true short = on (is.only short j are.run)
    by false long = inr (inl long)

-- two journals of such runs are one, or a lane of one ended with a `spill`
runs-either : (IsRun : Journal → Type 0) (i j : Journal) → IsOnlyRun IsRun i → IsOnlyRun IsRun j → (i ≡ j) ⊎ HaveSpilt i j
runs-either IsRun i j is are =
    by (list_any (λ x. is_spill x.body) (all_items i.lanes)) refl (list_any (λ x. is_spill x.body) (all_items j.lanes)) refl (beside IsRun i j is are) (beside IsRun j i are is)
  where
    both : HasSpill i ⊎ HasSpill j → (j ≡ i) ⊎ MayLeave i j → (i ≡ j) ⊎ MayLeave j i → (i ≡ j) ⊎ HaveSpilt i j
    both spilt (inl same) other = inl (sym same)
    both spilt (inr one) (inl same) = inl same
    both spilt (inr one) (inr two) = inr (spilt, (one, two))

    by : (x : Bool) → list_any (λ x. is_spill x.body) (all_items i.lanes) ≡ x → (y : Bool) → list_any (λ x. is_spill x.body) (all_items j.lanes) ≡ y
        → (j ≡ i) ⊎ MayLeave i j → (i ≡ j) ⊎ MayLeave j i → (i ≡ j) ⊎ HaveSpilt i j
    by true spilt y other one two = both (inl spilt) one two
    by false clean true spilt one two = both (inr spilt) one two
    by false clean false unspilt one two = inl (are.only_unspilt unspilt i is.run clean)

-- two journals of runs are one, or may be two
pub journals-either : (kernel : KernelName) (budget : ℕ) (sys : System) (sources : List (List Stim)) (i j : Journal) → IsRunUnder kernel sys sources budget i → IsRunUnder kernel sys sources budget j
    → (i ≡ j) ⊎ MayBeTwo kernel i j
journals-either Sim budget sys sources i j is are = runs-either (λ other. IsSimRun sys sources budget other) i j is are
journals-either Qk budget sys sources i j is are = inr tt
journals-either Port budget sys sources i j is are = inr tt
journals-either Wait budget sys sources i j is are = inr tt
journals-either Qv budget sys sources i j is are = runs-either (λ other. IsQvRun sys sources budget other) i j is are
