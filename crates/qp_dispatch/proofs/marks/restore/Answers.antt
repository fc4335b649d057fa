use Rattle.std.proofs.Common.{refl, None, ◌∷◌, []}
use Rattle.qp_chart.specs.Task as task
use Rattle.qp_model.specs.declared.bodies.Body.TheVariants.{Unlock}
use Rattle.qp_dispatch.proofs.PartLemmas.{cut-still, goes-restore, rec-mine, rec-note, rec-told}
use Rattle.qp_dispatch.proofs.marks.restore.Goals as goal

pub note-requires-clause-mine : goal.note-requires-clause-mine
note-requires-clause-mine g c = rec-mine c.args.me (Unlock c.args.lasting.now.former) c.unlock.result (g.O.Ops.lane c.args.ops.now) c.unlock.ensures c.requires.mine

pub note-requires-clause-note : goal.note-requires-clause-note
note-requires-clause-note g c = rec-note c.args.me (Unlock c.args.lasting.now.former) c.unlock.result c.unlock.ensures refl

pub returns-in-Err : goal.returns-in-Err
returns-in-Err g c = λ at. cut-still c.args.me at (task.Restore ∷ []) c.args.lasting.now None c.in-Err.fault _ _ c.in-Err.ensures.err

pub returns-in-Ok : goal.returns-in-Ok
returns-in-Ok g c = λ at.
    let lane = g.O.Ops.lane in
    goes-restore c.args.me c.args.ceiling.now at c.args.lasting.now (lane c.args.ops.now) (lane c.note.new.ops)
    (rec-told c.args.me (Unlock c.args.lasting.now.former) c.unlock.result (lane c.args.ops.now) (lane c.note.new.ops) c.unlock.ensures c.in-Ok.ensures.ok)
