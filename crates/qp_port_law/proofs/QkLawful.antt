-- A run under `qk` leaves a lawful journal.
use Rattle.std.proofs.Common.{◌≡◌, ℕ, suc, ◌+◌, ◌==◌, true, false, List, [], ◌∷◌, length, drop, refl, sym, ap, subst, arith}
use Rattle.std.specs.Prelude.{⊤}
use Rattle.std.specs.Bool.{MatchBool}
use Rattle.std.proofs.lemmas.Bool.Decides.{nat_tests}
use Rattle.qp_model.specs.declared.record.Rec.{Rec}
use Rattle.qp_model.specs.declared.stimulus.Stim.{Stim}
use Rattle.qp_model.specs.declared.systems.System.{System}
use Rattle.qp_model.specs.declared.journals.Journal.{Journal}
use Rattle.qp_model.specs.History.{lane_items}
use Rattle.qp_model.specs.Home.{lane_at}
use Rattle.qp_model.specs.Knowing.{told_lane}
use Rattle.qp_model.specs.Kernels.{port, has_one_order}
use Rattle.qp_model.specs.Lawful.{facts_of, source_lanes, lanes_before, KernelHolds, SourceLanes, SourcesHold, OrderHolds, EndHolds, Lawful}
use Rattle.qp_model_order.specs.RunOrder.{has_stim}
use Rattle.qp_kernel.specs.ZeroEnds.{ZeroEnds}
use Rattle.qp_kernel.proofs.ZeroLawful.{objects, kernel, end-holds}
use Rattle.qp_port_law.specs.QkRun.{most_idle, IsQkRun}
use Rattle.qp_port_law.proofs.LeavingLemmas.{lanes-from, beside-from}

module _ (sys : System) (stimuli : List (List Stim)) (j : Journal) (run : IsQkRun sys stimuli j) where
  no_port : (j.kernel == port) ≡ false
  no_port = rw run.kernel refl

  zero : ZeroEnds sys j.kernel j.budget j.end (most_idle j) (told_lane (facts_of sys j) 0 (lane_items (lane_at j 0))) (has_stim (source_lanes sys j))
  zero = subst (λ k. ZeroEnds sys k j.budget j.end (most_idle j) (told_lane (facts_of sys j) 0 (lane_items (lane_at j 0))) (has_stim (source_lanes sys j))) (sym run.kernel) run.zero

  one_before : lanes_before sys j ≡ 1
  one_before = rw no_port refl

  sources : SourcesHold sys stimuli j
  sources = record {
    lanes = subst (λ n. SourceLanes sys j n stimuli) (sym one_before) (lanes-from sys j 1 stimuli run.sources);
    empty = rw no_port refl;
    count = rw one_before (counted (length j.lanes) run.count);
    order = subst (λ k. MatchBool (has_one_order k) (OrderHolds sys stimuli j) ⊤) (sym run.kernel) tt;
  }
    where
      counted : (n : ℕ) → n ≡ 1 + length stimuli → (n == 1 + length stimuli) ≡ true
      counted n e = grind (arith, nat_tests, e)

  pub lawful : Lawful sys stimuli j
  lawful = record {
    words = run.words;
    objects = objects sys j (most_idle j) run.sound no_port zero;
    kernel = subst (λ b. MatchBool b ⊤ (KernelHolds sys j)) (sym no_port) (kernel sys j (most_idle j) run.sound no_port zero (rw run.kernel refl) (omega arith));
    sources = sources;
    end = by j.lanes refl;
  }
    where
      by : (ls : List (List Rec)) → j.lanes ≡ ls → EndHolds sys j
      by [] at = let none : length j.lanes ≡ 0 = ap length at in let count = run.count in absurd (omega (arith, none, count))
      by (l ∷ ls) at =
          let all : length j.lanes ≡ suc (length ls) = ap length at in
          let count = run.count in
          let same : length ls ≡ length stimuli = omega (arith, all, count) in
          end-holds sys j (most_idle j) run.sound no_port zero l ls at (beside-from sys j 1 ls stimuli (ap (drop 1) at) run.sources same) run.stated run.room run.queues run.blocks
