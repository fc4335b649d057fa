-- What a run under `qv` leaves, in the words of the subject.
use Rattle.std.proofs.Common.{◌≡◌, ℕ, true, List, sym, ◌∙◌}
use Rattle.std.specs.Prelude.{IfOk, Result, Ok, Err}
use Rattle.qp_model.specs.declared.stimulus.Stim.{Stim}
use Rattle.qp_model.specs.declared.systems.System.{System}
use Rattle.qp_model.specs.declared.journals.Journal.{Journal}
use Rattle.qp_model.specs.Kernels.{port}
use Rattle.qp_model.specs.Sound.{IsSound}
use Rattle.qp_model.proofs.LawLemmas.{cooperative_steps_stand_alone, kernel_rests_where_all_are_empty}
use Rattle.qp_kernel.specs.Turning.{under}
use Rattle.qp_kernel_runs.specs.SimRun.{IsQvRun, IsRunOf}

pub qv-run : (sys : System) (stimuli : List (List Stim)) (budget : ℕ) (j : Journal) → IsSound sys → IsRunOf sys stimuli (under true budget) j → IsQvRun sys stimuli budget j
qv-run sys stimuli budget j sound run = record {
  run = run;
  steps = cooperative_steps_stand_alone sys stimuli j run.lawful run.kernel sound.priorities;
  rests = kernel_rests_where_all_are_empty sys stimuli j run.lawful (λ e. let wrong : 3 ≡ port = sym run.kernel ∙ e in absurd (cc));
}

pub if-ok : {A B : Type 0} (P Q : A → Type 0) (r : Result A B) → ((x : A) → P x → Q x) → IfOk r P → IfOk r Q
if-ok P Q (Ok x) go h = go x h
if-ok P Q (Err e) go h = h
