use Rattle.std.proofs.Common.{refl, arith}
use Rattle.qp_calls.proofs.Noting.{may-note}
use Rattle.qp_calls.proofs.CountLemmas.{stand-front}
use Rattle.qp_plain_tests.proofs.DeskLemmas.{by-goes, done-goes, released-goes}
use Rattle.qp_plain_tests.proofs.desk.step_on.Goals as goal

pub work-requires : goal.work-requires
work-requires g c = by-goes c.args.sys.now _ c.args.me _ _ c.by-former.ensures.set c.requires

pub note-requires : goal.note-requires
note-requires g c = may-note c.args.me _ c.done.result _ c.done.ensures refl (omega (arith, c.in-Ok.ensures.ok))

pub end_step-requires : goal.end_step-requires
end_step-requires g c =
    stand-front c.args.e _ _ (done-goes c.args.sys.now _ c.args.me c.done.result _ _ _ c.done.ensures c.room.ensures.stays c.note.ensures.grows c.in-Whole.ensures).stand

pub returns : goal.returns
returns g c =
    let may = done-goes c.args.sys.now _ c.args.me c.done.result _ _ _ c.done.ensures c.room.ensures.stays c.note.ensures.grows c.in-Whole.ensures in
    by-goes c.args.sys.now _ _ _ _ c.by.ensures.set (released-goes c.args.sys.now c.args.e _ c.in-Ok-end_step.field-0 _ _ c.in-Ok-end_step.ensures.ok may)
