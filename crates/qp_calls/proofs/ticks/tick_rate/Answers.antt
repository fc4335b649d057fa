use Rattle.std.proofs.Common.{◌∙◌, ◌≤◌, List, length, ap, refl, subst}
use Rattle.std.proofs.lemmas.Result.{err_from_is_err_and}
use Rattle.qp_model.specs.declared.systems.System.{System}
use Rattle.qp_model.specs.declared.systems.TimerDef.{TimerDef}
use Rattle.qp_calls.proofs.Flushing.{fault-still}
use Rattle.qp_calls.proofs.TickLemmas.{at, sound-at, ticked-end, ticked-left, ticked-none, ticked-round, ticked-skip, ticked-stop, timer-object, timer-static}
use Rattle.qp_calls.proofs.ticks.tick_rate.Goals as goal
use Rattle.qp_calls.proofs.ticks.tick_rate.Goals.{then-d-rate+in_ok-tick_timer+in-Value, else-d-rate}

pub loop-i-init : goal.loop-i-init
loop-i-init g c = ticked-none c.args.rate _

pub tick_timer-requires-clause-object : goal.tick_timer-requires-clause-object
tick_timer-requires-clause-object g c =
    let listed = c.deref-d-items.ensures.value ∙ ap (λ (s : System). s.timers) c.sys.view_is in
    let here = at c.args.sys.now.timers c.deref-d-items.result.now c.loop-i.i (record { object = 0; sig = 0; rate = 0 }) listed c.loop-i-test.true in
    rw (c.loop-i.invariant.grows.sys, c.requires.of) (timer-object c.args.sys.now _ (sound-at c.args.sys.now c.loop-i.i _ c.requires.sound here))

pub tick_timer-requires-clause-fixed : goal.tick_timer-requires-clause-fixed
tick_timer-requires-clause-fixed g c =
    let listed = c.deref-d-items.ensures.value ∙ ap (λ (s : System). s.timers) c.sys.view_is in
    let here = at c.args.sys.now.timers c.deref-d-items.result.now c.loop-i.i (record { object = 0; sig = 0; rate = 0 }) listed c.loop-i-test.true in
    rw (c.loop-i.invariant.grows.sys, c.requires.of) (timer-static c.args.sys.now _ (sound-at c.args.sys.now c.loop-i.i _ c.requires.sound here))

pub loop-i-preserved : goal.loop-i-preserved
loop-i-preserved g c =
    let lane = g.O.Ops.lane in
    let listed = c.deref-d-items.ensures.value ∙ ap (λ (s : System). s.timers) c.sys.view_is in
    let here = at c.args.sys.now.timers c.deref-d-items.result.now c.loop-i.i (record { object = 0; sig = 0; rate = 0 }) listed c.loop-i-test.true in
    elim c.if-d-rate.branch [
      | then-d-rate+in_ok-tick_timer+in-Value w ↦
          ticked-round c.args.rate c.loop-i.i _ w.in-Value.field-0 c.args.sys.now.timers _ w.in_ok-tick_timer.field-0 _ (lane c.loop-i.ops) (lane w.tick_timer.new.ops) _ c.loop-i.invariant here
          w.if-d-rate.true refl w.in_ok-tick_timer.ensures w.in-Value.is (ap lane w.ops-is)
      | else-d-rate w ↦ ticked-skip c.args.rate c.loop-i.i c.args.sys.now.timers _ _ (lane c.loop-i.ops) _ c.loop-i.invariant here w.if-d-rate.false (ap lane w.ops-is)
    ]

pub returns-in-Assert : goal.returns-in-Assert
returns-in-Assert g c =
    let listed = c.deref-d-items.ensures.value ∙ ap (λ (s : System). s.timers) c.sys.view_is in
    let here = at c.args.sys.now.timers c.deref-d-items.result.now c.loop-i.i (record { object = 0; sig = 0; rate = 0 }) listed c.loop-i-test.true in
    ticked-stop c.args.rate c.loop-i.i _ c.in-Assert.code c.args.sys.now.timers _ c.in_ok-tick_timer.field-0 _ (g.O.Ops.lane c.loop-i.ops) _ c.loop-i.invariant here
    (ap (λ (s : System). s.timers) c.requires.of) c.if-d-rate.true refl c.in_ok-tick_timer.ensures c.in-Assert.is

pub returns-in_err-tick_timer : goal.returns-in_err-tick_timer
returns-in_err-tick_timer g c =
    let p = err_from_is_err_and c.from_residual.result c.from_residual.ensures.1 in
    let e = c.in_err-tick_timer.ensures in
    let listed = c.deref-d-items.ensures.value ∙ ap (λ (s : System). s.timers) c.sys.view_is in
    let here = at c.args.sys.now.timers c.deref-d-items.result.now c.loop-i.i (record { object = 0; sig = 0; rate = 0 }) listed c.loop-i-test.true in
    rw (p.1, p.2)
    (ticked-left c.args.rate c.loop-i.i c.args.sys.now.timers _ _ _ _ c.loop-i.invariant here (ap (λ (s : System). s.timers) c.requires.of) c.if-d-rate.true e.0, fault-still c.in_err-tick_timer.field-0.0 _ _ e.0 e.1)

pub returns : goal.returns
returns g c =
    let listed = c.deref-d-items.ensures.value ∙ ap (λ (s : System). s.timers) c.sys.view_is in (
      refl,
      ticked-end c.args.rate c.loop-i.i c.args.sys.now.timers _ _ c.loop-i.invariant (ap (λ (s : System). s.timers) c.requires.of)
          (subst (λ (ts : List TimerDef). length ts ≤ c.loop-i.i) listed c.loop-i-test.false),
    )
