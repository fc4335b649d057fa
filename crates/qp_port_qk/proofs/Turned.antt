-- The kernel's lane at the end of a turn.
use Rattle.std.proofs.Common.{◌≡◌, ℕ, true, [], refl, sym, ap, subst, inl, inr, Some}
use Rattle.std.specs.Prelude.{◌⊎◌, pos}
use Rattle.qp_chart.specs.StateTree.{has}
use Rattle.qp_model.specs.declared.systems.System.{System}
use Rattle.qp_model.specs.declared.systems.ObjectDef.{ObjectDef}
use Rattle.qp_model.specs.Acts.{Config}
use Rattle.qp_model.specs.Ends.{may_cut, quiet}
use Rattle.qp_model.specs.Sites.{object_at}
use Rattle.qp_model_order.specs.RunOrder.{has_stim}
use Rattle.qp_calls.specs.LaneView.{LaneView}
use Rattle.qp_kernel.specs.Happenings.{lanes_of}
use Rattle.qp_kernel.specs.Stages as stage
use Rattle.qp_kernel.specs.Stages.{Stage, is_resting}
use Rattle.qp_kernel.specs.LaneZero.{Agree}
use Rattle.qp_kernel.specs.Turning.{KernelState, under_qk}
use Rattle.qp_kernel.proofs.KernelLaws.{run_stops_elsewhere}
use Rattle.qp_kernel_turns.specs.declared.objects.Objects.{Objects}
use Rattle.qp_kernel_turns.specs.Knowing.{HasStack}
use Rattle.qp_kernel_turns.specs.Turning.{EndsSo, Stand}
use Rattle.qp_kernel_turns.proofs.Ends.{ends-so}
use Rattle.qp_kernel_turns.proofs.Halted.{agreed}
use Rattle.qp_kernel_turns.proofs.Keeping.{rests-kept}
use Rattle.qp_kernel_turns.proofs.SoundObjects.{able, numbered}
use Rattle.qp_kernel_turns.proofs.Staying.{all-wait}
use Rattle.qp_port_qk.proofs.Based.{based-quiet}
use Rattle.qp_port_qk.specs.RestLaws.{HasTurned, TurnedKernelsEnd, TurnedKernelsRest}

-- what an object at rest has
abbrev rest_of : Config → Stage → Config
rest_of none (stage.Resting c) = c
rest_of none _ = none

resting-is : (none : Config) (s : Stage) → is_resting s ≡ true → s ≡ stage.Resting (rest_of none s)
resting-is none stage.Unstarted h = absurd (cc)
resting-is none (stage.Resting c) h = refl
resting-is none (stage.Begun ev e left c) h = absurd (cc)
resting-is none (stage.Paused ev e left c) h = absurd (cc)

-- an object that has nothing
abbrev nobody : Config
nobody = record { leaf = 0; vars = []; ok = pos 0; kept = []; former = 0 }

module _ (sys : System) (budget : ℕ) (xs : Objects) (v : LaneView) (b : Stand) (turned : HasTurned sys budget xs v b) where
  abbrev s : KernelState
  s = turned.rests.knows.state

  resting : (d : ObjectDef) → object_at sys d.priority ≡ Some d → is_resting (s.stages d.priority) ≡ true
  resting d found = turned.rests.at.stack.rests d found (ap (λ ps. has ps d.priority) turned.rests.at.base)

  waits : HasStack sys s.reading.running s
  waits = subst (λ ps. HasStack sys ps s) (sym turned.rests.at.base) turned.rests.at.stack

  agree : Agree s.upto (has_stim (lanes_of b.lane)) s.now
  agree = agreed s (has_stim (lanes_of b.lane)) turned.rests.knows.now

  pub ends-as : (end : ℕ) → (end ≡ quiet) ⊎ (may_cut end ≡ true) → EndsSo sys (under_qk budget) end b.lane.told (has_stim (lanes_of b.lane))
  ends-as end (inl is) =
      subst (λ ts. EndsSo sys (under_qk budget) end ts (has_stim (lanes_of b.lane))) turned.rests.knows.told
      (subst (λ n. EndsSo sys (under_qk budget) n s.told (has_stim (lanes_of b.lane))) (sym is)
      (ends-so sys (under_qk budget) quiet s.told (has_stim (lanes_of b.lane)) s.reading.idle
      (based-quiet sys budget s (has_stim (lanes_of b.lane)) (numbered sys turned.sound) (able sys turned.sound) turned.rests.knows.stands agree turned.rests.at.owed turned.rests.at.stack.started
      turned.rests.at.base turned.rests.at.whole resting)))
  ends-as end (inr early) =
      subst (λ ts. EndsSo sys (under_qk budget) end ts (has_stim (lanes_of b.lane))) turned.rests.knows.told
      (ends-so sys (under_qk budget) end s.told (has_stim (lanes_of b.lane)) s.reading.idle
      (run_stops_elsewhere sys (under_qk budget) end s (has_stim (lanes_of b.lane)) (numbered sys turned.sound) (able sys turned.sound) turned.rests.knows.stands agree early turned.rests.at.stack.started
      (all-wait sys s waits)))

pub turned_kernels_end : TurnedKernelsEnd
turned_kernels_end sys budget xs v b end turned how = ends-as sys budget xs v b turned end how

pub turned_kernels_rest : TurnedKernelsRest
turned_kernels_rest sys budget xs v b sources turned looks none =
    let k = turned.rests.knows in
    let keeps : ℕ → Config = λ p. rest_of nobody (k.state.stages p) in
    let rest : (d : ObjectDef) → object_at sys d.priority ≡ Some d → k.state.stages d.priority ≡ stage.Resting (keeps d.priority) =
    λ d found. resting-is nobody (k.state.stages d.priority) (resting sys budget xs v b turned d found) in
    record {
      looks = looks;
      state = k.state;
      told = sym k.told;
      stands = k.stands;
      owed = turned.rests.at.owed;
      keeps = keeps;
      rest = rest;
      hands = rests-kept sys xs b.objects v b.lane turned.sound turned.made turned.none turned.follows k.state.stages k.state.entries k.objects keeps rest;
      idle = none;
    }
