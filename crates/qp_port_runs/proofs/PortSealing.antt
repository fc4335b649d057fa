-- What a port's run leaves, sealed.
use Rattle.std.proofs.Common.{◌≡◌, ℕ, Bool, true, List, sym, subst, Ok, Err}
use Rattle.std.specs.declared.result.Result.{Result}
use Rattle.std.specs.Result.{IfOk}
use Rattle.qp_model.specs.declared.stimulus.Stim.{Stim}
use Rattle.qp_model.specs.declared.systems.System.{System}
use Rattle.qp_model.specs.Ends.{quiet}
use Rattle.qp_model.specs.Kernels.{port}
use Rattle.qp_model.specs.Sound.{IsSound}
use Rattle.qp_calls.specs.LaneView.{LaneView}
use Rattle.qp_kernel_end.specs.declared.rest.Rest.{Rest}
use Rattle.qp_kernel_end.specs.Rests.{AreRestsIn}
use Rattle.qp_port_law.specs.Sealed.{SealsLanes}
use Rattle.qp_port.specs.Ends.{HasRun}
use Rattle.qp_port_law.specs.ThreadRun.{IsThreadRun}
use Rattle.qp_port.proofs.Sealing.{sealed}
use Rattle.qp_port_runs.specs.declared.sealing.Threaded.{Threaded}

module _ (sys : System) (stimuli : List (List Stim)) (budget : ℕ) (done : Bool) (rests : List Rest) (vs : List LaneView) (sound : IsSound sys) (run : HasRun sys stimuli budget done rests vs) where
  pub port-run : {E : Type 0} (result : Result Threaded E) → IfOk result (λ x. SealsLanes sys port budget vs x.sealed.journal) → IfOk result (λ x. x.sealed.journal.end ≡ quiet → done ≡ true)
      → IfOk result (λ x. IsThreadRun port sys stimuli budget x.sealed.journal)
  port-run (Err e) seals whole = tt
  port-run (Ok x) seals whole = (sealed sys stimuli budget done rests vs x.sealed.journal sound run seals whole).0

  pub port-rests : {E : Type 0} (result : Result Threaded E) → IfOk result (λ x. SealsLanes sys port budget vs x.sealed.journal) → IfOk result (λ x. x.sealed.journal.end ≡ quiet → done ≡ true)
      → IfOk result (λ x. x.rests.items ≡ rests) → IfOk result (λ x. AreRestsIn sys x.sealed.journal x.rests.items)
  port-rests (Err e) seals whole are = tt
  port-rests (Ok x) seals whole are =
      let both = sealed sys stimuli budget done rests vs x.sealed.journal sound run seals whole in
      subst (AreRestsIn sys x.sealed.journal) (sym are) both.1
