use Rattle.std.proofs.Common.{◌≡◌, suc, ◌≤◌, ◌+◌, ◌==◌, ◌∙◌, true, false, [], ◌∷◌, arith, refl, subst, sym}
use Rattle.qp_model.specs.declared.bodies.Body.TheVariants as body
use Rattle.qp_model.specs.Told.{plain}
use Rattle.qp_calls.proofs.Growing.{gains-none, room-then}
use Rattle.qp_calls.proofs.Noting.{may-note}
use Rattle.qp_kernel.specs.Turning.{look_told}
use Rattle.qp_kernel_turns.specs.declared.halting.Halt.TheVariants as halt
use Rattle.qp_kernel_turns.specs.Halting.{asked_once}
use Rattle.qp_kernel_turns.specs.Ordering.{LookedInOrder}
use Rattle.qp_kernel_turns.specs.TurnRows.{bare_row, idle_rows}
use Rattle.qp_kernel_turns.specs.Turning.{stand_of, terms_of}
use Rattle.qp_kernel_turns.proofs.BaseRows.{few-more, idle-is}
use Rattle.qp_kernel_turns.proofs.Halted.{halts-few, halts-turn}
use Rattle.qp_kernel_turns.proofs.Asking.{asks-kept}
use Rattle.qp_kernel_turns.proofs.Lanes.{asked-goes, gains-goes, goes-then, halts-lane, happened-goes, memory-halts, nothing-goes, stopped-halts, stops-memory}
use Rattle.qp_kernel_turns.proofs.Ordered.{halts-behind, halts-in_order, in_order-once, none-in_order, some-in_order, stopped-in_order, unset-still}
use Rattle.qp_kernel_turns.proofs.Resting.{rests-halted, rests-noted}
use Rattle.qp_kernel_turns.proofs.Staying.{all-wait}
use Rattle.qp_kernel_turns.proofs.Turns.{looked-none, looked-some, looked-stopped, noted, row-stopped}
use Rattle.std.proofs.lemmas.Result.{err_from_is_err_and}
use Rattle.qp_kernel_turns.proofs.turning.look.Goals as goal

pub returns-in_err-ready : goal.returns-in_err-ready
returns-in_err-ready g c =
    let k = c.requires.knows in
    let sys = c.args.at.now.sys.now in
    let lane = g.W.Ops.lane in
    let p = err_from_is_err_and c.from_residual.result c.from_residual.ensures.1 in
    rw (p.1, p.2) (record {
      goes =
          halts-turn sys c.requires.sound (terms_of c.args.at.now) k.knows.state (lane c.args.world.now) (lane c.ready.new.ops) c.in_err-ready.field-0.0 k.knows.told k.knows.stands k.knows.now k.at.stack.started (all-wait sys k.knows.state k.at.stack)
          c.in_err-ready.ensures;
      order = halts-in_order g.W.World.acts sys c.args.kernel.now.looks (lane c.args.world.now) (lane c.ready.new.ops) c.in_err-ready.field-0.0 c.in_err-ready.ensures c.requires.order;
      rests = rests-halted sys c.requires.sound (terms_of c.args.at.now) c.args.kernel.now.looks c.args.kernel.now.stack.items c.args.objects.now (lane c.args.world.now) k.knows _ k.at.stack (lane c.ready.new.ops) c.in_err-ready.field-0.0 c.in_err-ready.ensures;
      lane = halts-lane g.W.World.acts (lane c.args.world.now) (lane c.ready.new.ops) c.in_err-ready.field-0.0 c.in_err-ready.ensures;
      steps = refl;
      asks = asks-kept g.W.World.acts c.args.kernel.now c.args.kernel.now (lane c.args.world.now) (lane c.ready.new.ops) refl refl (halts-lane g.W.World.acts (lane c.args.world.now) (lane c.ready.new.ops) c.in_err-ready.field-0.0 c.in_err-ready.ensures).keeps.asks;
      rows = few-more sys (terms_of c.args.at.now) k.knows.state.reading.idle (idle_rows sys (terms_of c.args.at.now) (lane c.args.world.now) + bare_row sys) (lane c.ready.new.ops) c.in_err-ready.field-0.0
          (let own = idle-is sys (terms_of c.args.at.now) (lane c.args.world.now) k.knows.state k.knows.stands k.knows.told k.knows.now in omega (arith, own))
          (halts-few sys c.requires.sound (terms_of c.args.at.now) k.knows.state (lane c.args.world.now) (lane c.ready.new.ops) c.in_err-ready.field-0.0 k.knows.told k.knows.stands k.knows.now k.at.stack.started (all-wait sys k.knows.state k.at.stack)
          c.in_err-ready.ensures);
    })

pub note-requires : goal.note-requires
note-requires g c =
    let spare = c.in_ok-ready.ensures.spare in
    may-note 0 (body.Look (c.args.kernel.now.looks + 1) c.args.floor) c.look.result (g.W.Ops.lane c.ready.new.ops) c.look.ensures refl (omega (arith, spare))

pub returns-in-Happened : goal.returns-in-Happened
returns-in-Happened g c =
    let lane = g.W.Ops.lane in
    let sys = c.args.at.now.sys.now in
    let n = c.args.kernel.now.looks + 1 in
    let v1 = lane c.ready.new.ops in
    let v2 = lane c.note.new.self in
    let v3 = lane c.interrupt.new.self in
    let note = noted 0 (body.Look n c.args.floor) c.look.result v1 v2 c.look.ensures c.note.ensures.grows in
    let gains = room-then (look_told n c.args.floor ∷ []) (asked_once (lane c.args.world.now)) v1 v2 c.in_ok-ready.ensures.roomier note in
    record {
      goes = looked-some sys c.requires.sound (terms_of c.args.at.now) _ c.requires.knows n c.args.floor refl c.requires.floor v1 v2 v3 c.in_ok-ready.ensures.roomier note _ c.in-Happened.ensures.1;
      order =
          subst (λ f. LookedInOrder g.W.World.acts sys (f == 0) (record { looks = n; stack = c.args.kernel.now.stack.items; objects = c.args.objects.now; lane = v3 }) true) c.requires.floor
          (some-in_order g.W.World.acts sys c.args.kernel.now.looks n c.args.floor _ (asked_once (lane c.args.world.now)) v2 v3 c.requires.knows.knows.lane.of gains refl refl (in_order-once g.W.World.acts sys c.args.kernel.now.looks (lane c.args.world.now) c.requires.order) (stand_of c.args.kernel.now c.args.objects.now (lane c.args.world.now)) c.in-Happened.ensures.1);
      rests = tt;
      lane = goes-then g.W.World.acts (lane c.args.world.now) v2 v3 (asked-goes g.W.World.acts (look_told n c.args.floor ∷ []) (lane c.args.world.now) v2 gains) (happened-goes g.W.World.acts _ n v2 v3 c.in-Happened.ensures.0 c.in-Happened.ensures.1);
      steps = refl;
      asks = λ apart. let wrong : true ≡ false = sym c.in-Happened.ensures.0 ∙ apart in absurd (cc);
      rows = λ came. c.in-Happened.ensures.0;
    }

pub returns-in-Nothing : goal.returns-in-Nothing
returns-in-Nothing g c =
    let lane = g.W.Ops.lane in
    let sys = c.args.at.now.sys.now in
    let n = c.args.kernel.now.looks + 1 in
    let v1 = lane c.ready.new.ops in
    let v2 = lane c.note.new.self in
    let v3 = lane c.interrupt.new.self in
    let note = noted 0 (body.Look n c.args.floor) c.look.result v1 v2 c.look.ensures c.note.ensures.grows in
    let gains = room-then (look_told n c.args.floor ∷ []) (asked_once (lane c.args.world.now)) v1 v2 c.in_ok-ready.ensures.roomier note in
    record {
      goes = looked-none sys c.requires.sound (terms_of c.args.at.now) _ c.requires.knows n c.args.floor refl c.requires.floor v1 v2 v3 c.in_ok-ready.ensures.roomier note _ _ c.in-Nothing.ensures;
      order =
          subst (λ f. LookedInOrder g.W.World.acts sys (f == 0) (record { looks = n; stack = c.args.kernel.now.stack.items; objects = c.args.objects.now; lane = v3 }) false) c.requires.floor
          (none-in_order g.W.World.acts sys c.args.kernel.now.looks n c.args.floor _ (asked_once (lane c.args.world.now)) v2 v3 c.requires.knows.knows.lane.of gains refl refl (in_order-once g.W.World.acts sys c.args.kernel.now.looks (lane c.args.world.now) c.requires.order) (stand_of c.args.kernel.now c.args.objects.now (lane c.args.world.now)) c.in-Nothing.ensures);
      rests = tt;
      lane = goes-then g.W.World.acts (lane c.args.world.now) v2 v3 (asked-goes g.W.World.acts (look_told n c.args.floor ∷ []) (lane c.args.world.now) v2 gains) (nothing-goes g.W.World.acts _ v2 v3 c.in-Nothing.ensures);
      steps = refl;
      asks = λ apart.
          let once = asked_once (lane c.args.world.now) in
          let more : suc (lane c.args.world.now).asked ≤ v3.asked = (goes-then g.W.World.acts once v2 v3 (gains-goes g.W.World.acts (look_told n c.args.floor ∷ []) once v2 gains) (nothing-goes g.W.World.acts _ v2 v3 c.in-Nothing.ensures)).keeps.asks apart in
          omega (arith, more);
      rows = λ came. absurd (cc);
    }

pub returns-in-Stopped : goal.returns-in-Stopped
returns-in-Stopped g c =
    let lane = g.W.Ops.lane in
    let sys = c.args.at.now.sys.now in
    let n = c.args.kernel.now.looks + 1 in
    let v1 = lane c.ready.new.ops in
    let v2 = lane c.note.new.self in
    let v3 = lane c.interrupt.new.self in
    let note = noted 0 (body.Look n c.args.floor) c.look.result v1 v2 c.look.ensures c.note.ensures.grows in
    let gains = room-then (look_told n c.args.floor ∷ []) (asked_once (lane c.args.world.now)) v1 v2 c.in_ok-ready.ensures.roomier note in
    record {
      goes = looked-stopped sys c.requires.sound (terms_of c.args.at.now) _ c.requires.knows n c.args.floor refl c.requires.floor v1 v2 v3 c.in_ok-ready.ensures.roomier note _ c.in-Stopped.ensures.1;
      order =
          halts-behind g.W.World.acts sys (lane c.args.world.now) (asked_once (lane c.args.world.now)) v3 halt.Stopped refl refl
          (stopped-in_order g.W.World.acts sys c.args.kernel.now.looks n c.args.floor _ (asked_once (lane c.args.world.now)) v2 v3 c.requires.knows.knows.lane.of gains refl refl
          (in_order-once g.W.World.acts sys c.args.kernel.now.looks (lane c.args.world.now) c.requires.order)
          c.in-Stopped.ensures.1 (unset-still (look_told n c.args.floor ∷ []) (asked_once (lane c.args.world.now)) v2 gains c.in_ok-ready.ensures.unset));
      rests = rests-noted sys c.requires.sound (terms_of c.args.at.now) c.args.kernel.now.looks c.args.kernel.now.stack.items c.args.objects.now (lane c.args.world.now) c.requires.knows.knows _ c.requires.knows.at.stack n v3 (plain (body.Look n c.args.floor)) (c.in-Stopped.ensures.1.kept.told ∙ gains.told);
      lane = stopped-halts g.W.World.acts _ n (lane c.args.world.now) v2 v3 c.in-Stopped.ensures.0 (asked-goes g.W.World.acts (look_told n c.args.floor ∷ []) (lane c.args.world.now) v2 gains) c.in-Stopped.ensures.1;
      steps = refl;
      asks = λ apart. let wrong : true ≡ false = sym c.in-Stopped.ensures.0 ∙ apart in absurd (cc);
      rows = row-stopped sys c.requires.sound (terms_of c.args.at.now) _ c.requires.knows n c.args.floor refl c.requires.floor v1 v2 v3 c.in_ok-ready.ensures.roomier note _ c.in-Stopped.ensures.1;
    }

pub returns-in-Memory : goal.returns-in-Memory
returns-in-Memory g c =
    let lane = g.W.Ops.lane in
    let n = c.args.kernel.now.looks + 1 in
    let v1 = lane c.ready.new.ops in
    let v2 = lane c.note.new.self in
    let note = noted 0 (body.Look n c.args.floor) c.look.result v1 v2 c.look.ensures c.note.ensures.grows in
    let gains = room-then (look_told n c.args.floor ∷ []) (asked_once (lane c.args.world.now)) v1 v2 c.in_ok-ready.ensures.roomier note in
    record {
      goes = tt;
      order = tt;
      rests = tt;
      lane = memory-halts g.W.World.acts (lane c.args.world.now) v2 (lane c.interrupt.new.self) (lane c.stop-in-Memory.new.self) c.in-Memory.ensures.0 (asked-goes g.W.World.acts (look_told n c.args.floor ∷ []) (lane c.args.world.now) v2 gains) c.in-Memory.ensures.1 c.stop-in-Memory.ensures;
      steps = refl;
      asks = λ apart. let wrong : true ≡ false = sym c.in-Memory.ensures.0 ∙ apart in absurd (cc);
      rows = tt;
    }

pub returns-then-kernel-clause-lane : goal.returns-then-kernel-clause-lane
returns-then-kernel-clause-lane g c =
    let lane = g.W.Ops.lane in
    let v = lane c.args.world.now in
    let w = lane c.ready.new.ops in
    stops-memory g.W.World.acts v w (lane c.stop.new.self) (asked-goes g.W.World.acts [] v w (room-then [] (asked_once v) w w c.in_ok-ready.ensures.roomier (gains-none w))) c.stop.ensures

pub returns-then-kernel-clause-asks : goal.returns-then-kernel-clause-asks
returns-then-kernel-clause-asks g c =
    let lane = g.W.Ops.lane in
    let v = lane c.args.world.now in
    let w = lane c.ready.new.ops in
    asks-kept g.W.World.acts c.args.kernel.now c.args.kernel.now v (lane c.stop.new.self) refl refl
    (stops-memory g.W.World.acts v w (lane c.stop.new.self) (asked-goes g.W.World.acts [] v w (room-then [] (asked_once v) w w c.in_ok-ready.ensures.roomier (gains-none w))) c.stop.ensures).keeps.asks
