use Rattle.std.proofs.Common.{[], ◌∷◌, arith, refl}
use Rattle.std.proofs.lemmas.Result.{err_from_is_err_and}
use Rattle.qp_model.specs.declared.bodies.Body.TheVariants as body
use Rattle.qp_calls.proofs.Growing.{room-then}
use Rattle.qp_calls.proofs.Noting.{may-note}
use Rattle.qp_kernel.specs.Turning.{rest_told}
use Rattle.qp_kernel_turns.specs.Halting.{asked_once}
use Rattle.qp_kernel_turns.specs.Turning.{stand_of, terms_of}
use Rattle.qp_kernel_turns.proofs.Halted.{halts-turn}
use Rattle.qp_kernel_turns.proofs.Lanes.{asked-goes, halts-lane}
use Rattle.qp_kernel_turns.proofs.Ordered.{halts-in_order}
use Rattle.qp_kernel_turns.proofs.Resting.{rests-halted}
use Rattle.qp_kernel_turns.proofs.Staying.{all-wait}
use Rattle.qp_kernel_turns.proofs.Turns.{noted}
use Rattle.qp_vanilla.proofs.Rests.{rested, rested-in_order}
use Rattle.qp_vanilla.proofs.turning.rest.Goals as goal

pub returns-in_err-ready : goal.returns-in_err-ready
returns-in_err-ready g c =
    let k = c.requires.knows in
    let sys = c.args.at.now.sys.now in
    let lane = g.W.Ops.lane in
    let p = err_from_is_err_and c.from_residual.result c.from_residual.ensures.1 in
    rw (p.1, p.2) (record {
      goes =
          halts-turn sys c.requires.sound (terms_of c.args.at.now) k.knows.state (lane c.args.world.now) (lane c.ready.new.ops) c.in_err-ready.field-0.0 k.knows.told k.knows.stands k.knows.now k.at.stack.started (all-wait sys k.knows.state k.at.stack)
          c.in_err-ready.ensures;
      order = halts-in_order g.W.World.acts sys c.args.kernel.now.looks (lane c.args.world.now) (lane c.ready.new.ops) c.in_err-ready.field-0.0 c.in_err-ready.ensures c.requires.order;
      rests = rests-halted sys c.requires.sound (terms_of c.args.at.now) c.args.kernel.now.looks c.args.kernel.now.stack.items c.args.objects.now (lane c.args.world.now) k.knows _ k.at.stack (lane c.ready.new.ops) c.in_err-ready.field-0.0 c.in_err-ready.ensures;
      lane = halts-lane g.W.World.acts (lane c.args.world.now) (lane c.ready.new.ops) c.in_err-ready.field-0.0 c.in_err-ready.ensures;
    })

pub note-requires : goal.note-requires
note-requires g c =
    let spare = c.in_ok-ready.ensures.spare in
    may-note 0 (body.Rest c.args.kernel.now.looks) c.rest.result (g.W.Ops.lane c.ready.new.ops) c.rest.ensures refl (omega (arith, spare))

pub returns : goal.returns
returns g c =
    let sys = c.args.at.now.sys.now in
    let lane = g.W.Ops.lane in
    let a = stand_of c.args.kernel.now c.args.objects.now (lane c.args.world.now) in
    record {
      goes =
          rested sys c.requires.sound (terms_of c.args.at.now) c.requires.single c.requires.cooperative a c.requires.base c.requires.knows c.rest.result (lane c.ready.new.ops) (lane c.note.new.self) c.in_ok-ready.ensures.roomier
          c.rest.ensures c.note.ensures.grows;
      order =
          rested-in_order sys c.requires.sound (terms_of c.args.at.now) c.requires.single c.requires.cooperative a c.requires.base c.requires.knows c.rest.result (lane c.ready.new.ops) (lane c.note.new.self) c.in_ok-ready.ensures.roomier
          c.rest.ensures c.note.ensures.grows g.W.World.acts c.requires.order c.requires.empty;
      rests = tt;
      lane =
          asked-goes g.W.World.acts (rest_told c.args.kernel.now.looks ∷ []) (lane c.args.world.now) (lane c.note.new.self)
          (room-then (rest_told c.args.kernel.now.looks ∷ []) (asked_once (lane c.args.world.now)) (lane c.ready.new.ops) (lane c.note.new.self) c.in_ok-ready.ensures.roomier
          (noted 0 (body.Rest c.args.kernel.now.looks) c.rest.result (lane c.ready.new.ops) (lane c.note.new.self) c.rest.ensures c.note.ensures.grows));
    }
