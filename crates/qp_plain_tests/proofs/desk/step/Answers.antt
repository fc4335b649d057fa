use Rattle.qp_plain_tests.proofs.DeskLemmas.{empty-goes, room-goes, taken-goes}
use Rattle.qp_plain_tests.proofs.desk.step.Goals as goal

pub step_on-requires : goal.step_on-requires
step_on-requires g c = taken-goes c.args.sys.now c.args.me c.in-Taken.e _ _ _ c.in-Taken.ensures (room-goes c.args.sys.now _ _ _ c.room.ensures.stays c.requires)

pub returns-in-Empty : goal.returns-in-Empty
returns-in-Empty g c = empty-goes c.args.sys.now c.args.me c.in-Empty.f c.in-Empty.l c.in-Empty.m _ _ _ c.in-Empty.ensures (room-goes c.args.sys.now _ _ _ c.room.ensures.stays c.requires)
