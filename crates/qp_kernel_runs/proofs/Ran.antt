-- What a run has come to when its parts have ended.
use Rattle.std.proofs.Common.{◌≡◌, ℕ, Bool, true, false, [], refl, sym, ◌∙◌, ap, subst, Some}
use Rattle.std.specs.Prelude.{pos}
use Rattle.qp_chart.specs.StateTree.{has}
use Rattle.qp_model.specs.declared.systems.System.{System}
use Rattle.qp_model.specs.declared.systems.ObjectDef.{ObjectDef}
use Rattle.qp_model.specs.Acts.{Config}
use Rattle.qp_model.specs.Sites.{object_at}
use Rattle.qp_model.specs.Sound.{IsSound}
use Rattle.qp_calls.specs.Clauses.{Stops}
use Rattle.qp_calls.specs.LaneView.{LaneView}
use Rattle.qp_model_order.specs.RunOrder.{has_stim}
use Rattle.qp_kernel.specs.Happenings.{lanes_of}
use Rattle.qp_kernel.specs.Stages as stage
use Rattle.qp_kernel.specs.Stages.{Stage, is_resting}
use Rattle.qp_kernel_turns.specs.declared.objects.Objects.{Objects}
use Rattle.qp_kernel_turns.specs.Objects.{AreMade}
use Rattle.qp_dispatch.specs.declared.objects.Turn.{Turn}
use Rattle.qp_dispatch.specs.declared.objects.Turn.TheVariants as turn
use Rattle.qp_kernel_turns.specs.Ordering.{IdlesInOrder, StopsInOrder, TurnsInOrder}
use Rattle.qp_kernel_turns.specs.Starting.{AllStarted, IsFreshLane, StartStopped}
use Rattle.qp_kernel_turns.specs.Turning.{Idled, Stand, TurnStopped, TurnsTo, idle_in}
use Rattle.qp_kernel_turns.specs.Knowing.{HandsFollow}
use Rattle.qp_kernel_turns.proofs.Keeping.{rests-kept}
use Rattle.qp_kernel_turns.proofs.Places.{follow-then}
use Rattle.qp_kernel_runs.specs.Left.{IsIdle, HasStoppedEarly}
use Rattle.qp_kernel_runs.specs.Running.{RunsOn, KernelRunsTo}
use Rattle.qp_kernel.specs.Turning.{Terms, kernel_in}
use Rattle.qp_kernel.specs.ZeroEnds.{ZeroEnds}
use Rattle.qp_kernel.proofs.AlikeKernels.{one-row}
use Rattle.qp_model.specs.Ends.{may_cut}

-- what an object at rest has
abbrev rest_of : Config → Stage → Config
rest_of none (stage.Resting c) = c
rest_of none _ = none

resting-is : (none : Config) (s : Stage) → is_resting s ≡ true → s ≡ stage.Resting (rest_of none s)
resting-is none stage.Unstarted h = absurd (cc)
resting-is none (stage.Resting c) h = refl
resting-is none (stage.Begun ev e left c) h = absurd (cc)
resting-is none (stage.Paused ev e left c) h = absurd (cc)

-- an object that has nothing
abbrev nobody : Config
nobody = record { leaf = 0; vars = []; ok = pos 0; kept = []; former = 0 }

-- a kernel of one thread has at most one row without a step
one-row_stop : (sys : System) (terms : Terms) → terms.threaded ≡ false → (v w : LaneView) → TurnStopped sys terms v w
    → (end : ℕ) → may_cut end ≡ true → ZeroEnds sys (kernel_in terms) terms.budget end 1 w.told (has_stim (lanes_of w))
one-row_stop sys terms single v w stop end cut =
    subst (λ most. ZeroEnds sys (kernel_in terms) terms.budget end most w.told (has_stim (lanes_of w))) (one-row terms (idle_in sys terms w.told (has_stim (lanes_of w))) single) (stop.zero end cut)

module _ (sys : System) (terms : Terms) (single : terms.threaded ≡ false) (sound : IsSound sys) (xs : Objects) (v : LaneView) (made : AreMade sys xs) (fresh : IsFreshLane sys v) where
  module _ (ys : Objects) (u : LaneView) (started : AllStarted sys xs ys v u) (a b : Stand) (from : a.lane ≡ u) (those : a.objects ≡ ys) where
    pub idle-is : Idled sys terms a b → IdlesInOrder true sys b → IsIdle sys terms b.lane
    idle-is idled order =
        let k = idled.knows.knows in
        let at = idled.knows.at in
        let keeps : ℕ → Config = λ p. rest_of nobody (k.state.stages p) in
        let rest : (d : ObjectDef) → object_at sys d.priority ≡ Some d → k.state.stages d.priority ≡ stage.Resting (keeps d.priority) =
        λ d found. resting-is nobody (k.state.stages d.priority) (at.stack.rests d found (ap (λ ps. has ps d.priority) at.base)) in
        let first = started.grows.hands in
        let next = subst (λ o. HandsFollow o a.lane b.objects b.lane) those idled.onward.hands in
        let follow = follow-then xs v ys u b.objects b.lane first (subst (λ l. HandsFollow ys l b.objects b.lane) from next) in
        record {
          single = single;
          state = k.state;
          told = k.told;
          stands = k.stands;
          looks = b.looks;
          settled = k.settled;
          now = λ n few. ap (λ (f : ℕ → Bool). f n) (sym k.now);
          in_order = order.order.order refl;
          owed = at.owed;
          started = at.stack.started;
          base = at.base;
          over = at.over;
          keeps = keeps;
          rest = rest;
          hands = rests-kept sys xs b.objects v b.lane sound made fresh.new.hands follow k.state.stages k.state.entries k.objects keeps rest;
          next = order.none refl;
          empties = λ d found. let e = order.empties d found in (e.f, e.l, e.m, e.says, e.none);
        }

    pub idle-on : Idled sys terms a b → RunsOn v b.lane
    idle-on idled = record {
      of = idled.knows.knows.lane.of ∙ sym fresh.of;
      plan = idled.onward.plan ∙ ap (λ (l : LaneView). l.plan) from ∙ started.grows.gains.plan;
    }

    pub stop-is : (w : LaneView) → TurnStopped sys terms u w → StopsInOrder true sys u w → HasStoppedEarly sys terms w
    stop-is w stop order = record { single = single; zero = one-row_stop sys terms single u w stop; in_order = order.order refl }

    pub stop-on : (w : LaneView) → StopsInOrder true sys u w → RunsOn v w
    stop-on w order = record { of = order.of ∙ started.grows.gains.sys; plan = order.plan ∙ started.grows.gains.plan }

    -- whatever the turn came to
    pub turned : (t : Turn) → TurnsTo sys terms a b t → TurnsInOrder true sys a b t → KernelRunsTo sys terms v b.lane t
    turned turn.Idle goes order = (idle-on goes, idle-is goes order)
    turned turn.Stopped goes order = (stop-on b.lane (subst (λ l. StopsInOrder true sys l b.lane) from order), stop-is b.lane (subst (λ l. TurnStopped sys terms l b.lane) from goes) (subst (λ l. StopsInOrder true sys l b.lane) from order))
    turned turn.Memory goes order = tt

  pub start-stop_is : (w : LaneView) → StartStopped sys v w → HasStoppedEarly sys terms w
  start-stop_is w stop = record { single = single; zero = one-row_stop sys terms single v w (stop.turn terms); in_order = stop.order }

  pub start-stop_on : (w : LaneView) → StartStopped sys v w → RunsOn v w
  start-stop_on w stop = by-stops stop.grows.mid stop.grows.stops stop.grows.gains.sys stop.grows.gains.plan
    where
      by-stops : (mid : LaneView) → Stops stop.code mid w → mid.sys ≡ v.sys → mid.plan ≡ v.plan → RunsOn v w
      by-stops mid stops of plan = record { of = ap (λ (l : LaneView). l.sys) stops ∙ of; plan = ap (λ (l : LaneView). l.plan) stops ∙ plan }
