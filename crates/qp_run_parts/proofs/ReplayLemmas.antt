-- What was printed of a replay.
use Rattle.std.proofs.Common.{◌≡◌, ◌≢◌, ◌∙◌, ℕ, List, Option, refl, sym, ap, subst, inl, inr}
use Rattle.std.proofs.lemmas.Option.{IfSome_then}
use Rattle.qp_model.specs.declared.journals.Journal.{Journal}
use Rattle.qp_model.specs.declared.stimulus.Stim.{Stim}
use Rattle.qp_model.specs.declared.systems.System.{System}
use Rattle.qp_replay.specs.Replaying.{IsReplay}
use Rattle.qp_replay.specs.declared.places.Replayed.{Replayed}
use Rattle.qp_replay.specs.Text.{replayed_text}
use Rattle.qp_commands.specs.WordTable.{CheckWords}
use Rattle.qp_run_parts.specs.declared.status.Status.{Status}
use Rattle.qp_run_parts.specs.declared.status.Status.TheVariants.{Done, Words, Memory, WriteFault}
use Rattle.qp_run_parts.specs.Checks.{AreLawful}
use Rattle.qp_run_parts.specs.Conversions.{Held, IsWrittenAs, PrintsOne, WhenDone}
use Rattle.qp_run_parts.specs.Printed.{IsPrinted}
use Rattle.qp_run_parts.specs.Replays.{IsReplayed, IsReplayText}
use Rattle.qp_run_parts.specs.Verdict.{AgreesCheck, Count, HasCause, JudgesCall, is_failure, still_count}
use Rattle.qp_run_parts.proofs.EndingLemmas.{done-prints}
use Rattle.qp_run_parts.proofs.VerdictLemmas.{IfSome-all}

-- the lines were written, or a part of them
pub replay-written : (form : ℕ) (j : Journal) (replayed : Replayed) → IsReplay j.lanes replayed
    → (old new : Option (List ℕ)) (faults faults' : ℕ) (answer : Status) → IsWrittenAs Done (replayed_text form j.lanes replayed) old new faults faults' answer
    → IsPrinted (WhenDone (IsReplayText form j)) old new faults faults' answer
unfolding IsPrinted IsReplayText
replay-written form j replayed is old new faults faults' answer wrote =
    inr (Done, replayed_text form j.lanes replayed, (refl, (replayed, is, refl)), wrote)

module _ (IsWhole : List ℕ → Type 0) (old new : Option (List ℕ)) (faults faults' : ℕ) (answer : Status)
    (printed : IsPrinted (WhenDone IsWhole) old new faults faults' answer) where
  pub replay-about : answer ≢ Words
  unfolding IsPrinted
  replay-about words = by printed
    where
      by : IsPrinted (WhenDone IsWhole) old new faults faults' answer → ⊥
      by (inl (memory, same)) = let wrong : Memory ≡ Words = sym memory ∙ words in cc
      by (inr (told, whole, (done, is), inl (same, got))) = let wrong : Done ≡ Words = sym (same ∙ done) ∙ words in cc
      by (inr (told, whole, is, inr (failed, part, rose))) = let wrong : WriteFault ≡ Words = sym failed ∙ words in cc

  pub replay-told : (o : Option Held) (w : CheckWords) → JudgesCall o w Done → AgreesCheck o w answer
  unfolding IsPrinted
  replay-told o w judged = by printed
    where
      by : IsPrinted (WhenDone IsWhole) old new faults faults' answer → AgreesCheck o w answer
      by (inl (memory, same)) = IfSome-all o (λ h. inl (ap is_failure memory))
      by (inr (told, whole, (done, is), inl (same, got))) = subst (AgreesCheck o w) (sym (same ∙ done)) (IfSome_then o judged (λ h fact. inr fact))
      by (inr (told, whole, is, inr (failed, part, rose))) = IfSome-all o (λ h. inl (ap is_failure failed))

  pub replay-cause : (reads misses : Count) → HasCause (record { reads = reads; misses = misses; out = record { before = faults; after = faults' }; notes = still_count }) answer
  unfolding IsPrinted
  replay-cause reads misses = by printed
    where
      by : IsPrinted (WhenDone IsWhole) old new faults faults' answer
          → HasCause (record { reads = reads; misses = misses; out = record { before = faults; after = faults' }; notes = still_count }) answer
      by (inl (memory, same)) = rw memory tt
      by (inr (told, whole, (done, is), inl (same, got))) = rw (same ∙ done) tt
      by (inr (told, whole, is, inr (failed, part, rose))) = rw failed (inl rose)

  pub replay-prints : (IsOther : List ℕ → Type 0) → ((whole : List ℕ) → IsWhole whole → IsOther whole) → PrintsOne (WhenDone IsOther) old new answer
  unfolding IsPrinted
  replay-prints IsOther each = by printed
    where
      by : IsPrinted (WhenDone IsWhole) old new faults faults' answer → PrintsOne (WhenDone IsOther) old new answer
      by (inl (memory, same)) = subst (PrintsOne (WhenDone IsOther) old new) (sym memory) same
      by (inr (told, whole, (done, is), wrote)) =
          done-prints IsOther whole old new faults faults' answer (each whole is) (subst (λ s. IsWrittenAs s whole old new faults faults' answer) done wrote)

-- of three files
pub files-replayed : (held : Option Held) (w : CheckWords) (sys : System) (sources : List (List Stim)) (form : ℕ) (j : Journal)
    → AreLawful held w sys sources form j → (whole : List ℕ) → IsReplayText form j whole → IsReplayed held w whole
files-replayed held w sys sources form j are whole is = (sys, sources, form, j, are, is)
