-- How a run ended.
use Rattle.std.proofs.Common.{◌≡◌, ℕ, List, Option, refl, sym, ◌∙◌, inl, inr, subst}
use Rattle.qp_base.specs.Sink.{appended}
use Rattle.qp_model.specs.declared.journals.Journal.{Journal}
use Rattle.qp_run_parts.specs.declared.status.Status.{Status}
use Rattle.qp_run_parts.specs.declared.status.Status.TheVariants.{Done, Words, Asserted, Spent, WriteFault}
use Rattle.qp_run_parts.specs.Conversions.{IsWrittenAs, PrintsOne, WhenDone}
use Rattle.qp_kernel_end.specs.declared.journal.Outcome.{Outcome}
use Rattle.qp_kernel_end.specs.declared.journal.Outcome.TheVariants as outcome
use Rattle.qp_kernel_end.specs.Outcome.{outcome_of}
use Rattle.qp_run_parts.specs.Endings.{ending_of, status_of}
use Rattle.qp_run_parts.specs.Verdict.{Count, Counts, HasCause, still_count}

-- it is done, or ended at an assertion, or ran out
ending-by : (P : Status → Type 0) → P Done → ((code n : ℕ) → P (Asserted code n)) → ((n : ℕ) → P (Spent n)) → (j : Journal) → P (ending_of j)
unfolding ending_of
ending-by P done asserts spends j = by (outcome_of j)
  where
    by : (o : Outcome) → P (status_of o)
    by outcome.Quiet = done
    by (outcome.Asserted code n) = asserts code n
    by (outcome.Spent n) = spends n

pub ending-not_words : (j : Journal) → ending_of j ≡ Words → ⊥
ending-not_words j = ending-by (λ s. s ≡ Words → ⊥) (λ e. cc) (λ code n e. cc) (λ n e. cc) j

ending-cause : (n : Counts) (j : Journal) → HasCause n (ending_of j)
ending-cause n j = ending-by (HasCause n) tt (λ code lane. tt) (λ lane. tt) j

ending-prints : (IsWhole : Status → List ℕ → Type 0) (old new : Option (List ℕ)) (whole : List ℕ) (j : Journal)
    → ((told : Status) → told ≡ ending_of j → IsWhole told whole) → new ≡ appended old whole → PrintsOne IsWhole old new (ending_of j)
ending-prints IsWhole old new whole j is got =
    (ending-by (λ s. IsWhole s whole → PrintsOne IsWhole old new s) (λ w. (whole, w, got)) (λ code n w. (whole, w, got)) (λ n w. (whole, w, got)) j) (is (ending_of j) refl)

-- a journal was written, and the answer is how its run ended
module _ (j : Journal) (bytes : List ℕ) (old new : Option (List ℕ)) (faults faults' : ℕ) (answer : Status) (wrote : IsWrittenAs (ending_of j) bytes old new faults faults' answer) where
  pub written-about : answer ≡ Words → ⊥
  written-about words = by wrote
    where
      by : IsWrittenAs (ending_of j) bytes old new faults faults' answer → ⊥
      by (inl (is, got)) = ending-not_words j (sym is ∙ words)
      by (inr (failed, part, rose)) = let wrong : WriteFault ≡ Words = sym failed ∙ words in cc

  pub written-prints : (IsWhole : Status → List ℕ → Type 0) → ((told : Status) → told ≡ ending_of j → IsWhole told bytes) → PrintsOne IsWhole old new answer
  written-prints IsWhole is = by wrote
    where
      by : IsWrittenAs (ending_of j) bytes old new faults faults' answer → PrintsOne IsWhole old new answer
      by (inl (same, got)) = subst (PrintsOne IsWhole old new) (sym same) (ending-prints IsWhole old new bytes j is got)
      by (inr (failed, part, rose)) = subst (PrintsOne IsWhole old new) (sym failed) (inr (ending_of j, bytes, is (ending_of j) refl, part))

  pub written-cause : (reads misses : Count) → HasCause (record { reads = reads; misses = misses; out = record { before = faults; after = faults' }; notes = still_count }) answer
  written-cause reads misses = by wrote
    where
      n : Counts
      n = record { reads = reads; misses = misses; out = record { before = faults; after = faults' }; notes = still_count }

      by : IsWrittenAs (ending_of j) bytes old new faults faults' answer → HasCause n answer
      by (inl (same, got)) = subst (HasCause n) (sym same) (ending-cause n j)
      by (inr (failed, part, rose)) = subst (HasCause n) (sym failed) (inl rose)

-- what another call printed
pub done-prints : (IsWhole : List ℕ → Type 0) (bytes : List ℕ) (old new : Option (List ℕ)) (faults faults' : ℕ) (answer : Status) → IsWhole bytes
    → IsWrittenAs Done bytes old new faults faults' answer → PrintsOne (WhenDone IsWhole) old new answer
done-prints IsWhole bytes old new faults faults' answer is (inl (same, got)) =
    subst (PrintsOne (WhenDone IsWhole) old new) (sym same) (bytes, (refl, is), got)
done-prints IsWhole bytes old new faults faults' answer is (inr (failed, part, rose)) =
    subst (PrintsOne (WhenDone IsWhole) old new) (sym failed) (inr (Done, bytes, (refl, is), part))
