-- What a run of `qk` leaves, sealed.
use Rattle.std.proofs.Common.{◌≡◌, ℕ, Bool, true, List, sym, subst, Ok, Err}
use Rattle.std.specs.declared.result.Result.{Result}
use Rattle.std.specs.Result.{IfOk}
use Rattle.qp_model.specs.declared.stimulus.Stim.{Stim}
use Rattle.qp_model.specs.declared.systems.System.{System}
use Rattle.qp_model.specs.Ends.{quiet}
use Rattle.qp_model.specs.Kernels.{qk}
use Rattle.qp_model.specs.Sound.{IsSound}
use Rattle.qp_calls.specs.LaneView.{LaneView}
use Rattle.qp_kernel_end.specs.declared.rest.Rest.{Rest}
use Rattle.qp_kernel_end.specs.Rests.{AreRestsIn}
use Rattle.qp_port_law.specs.Sealed.{SealsLanes}
use Rattle.qp_port_law.specs.ThreadRun.{IsThreadRun}
use Rattle.qp_port_qk.specs.Ends.{HasQkRun}
use Rattle.qp_port_qk.specs.Laws.{SealedQkRunsAreLawful}
use Rattle.qp_port_runs.specs.declared.sealing.Threaded.{Threaded}

module _ (law : SealedQkRunsAreLawful) (sys : System) (stimuli : List (List Stim)) (budget : ℕ) (done : Bool) (rests : List Rest) (vs : List LaneView) (sound : IsSound sys) (run : HasQkRun sys stimuli budget done rests vs) where
  pub qk-run : {E : Type 0} (result : Result Threaded E) → IfOk result (λ x. SealsLanes sys qk budget vs x.sealed.journal) → IfOk result (λ x. x.sealed.journal.end ≡ quiet → done ≡ true)
      → IfOk result (λ x. IsThreadRun qk sys stimuli budget x.sealed.journal)
  qk-run (Err e) seals whole = tt
  qk-run (Ok x) seals whole =
      let is = (law sys stimuli budget done rests vs x.sealed.journal sound run seals whole).0 in
      record { kernel_is = is.kernel_is; budget_is = is.budget_is; lawful = is.lawful; first = is.first }

  pub qk-rests : {E : Type 0} (result : Result Threaded E) → IfOk result (λ x. SealsLanes sys qk budget vs x.sealed.journal) → IfOk result (λ x. x.sealed.journal.end ≡ quiet → done ≡ true)
      → IfOk result (λ x. x.rests.items ≡ rests) → IfOk result (λ x. AreRestsIn sys x.sealed.journal x.rests.items)
  qk-rests (Err e) seals whole are = tt
  qk-rests (Ok x) seals whole are =
      let both = law sys stimuli budget done rests vs x.sealed.journal sound run seals whole in
      subst (AreRestsIn sys x.sealed.journal) (sym are) both.1
