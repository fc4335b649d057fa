use Rattle.qp_plain_tests.proofs.DeskLemmas.{chosen-goes}
use Rattle.qp_plain_tests.proofs.desk.make.Goals as goal

pub work_outside-requires : goal.work_outside-requires
work_outside-requires g c = chosen-goes c.args.sys.now _ _ _ _ c.go.ensures.goes c.requires

pub step-requires : goal.step-requires
step-requires g c = chosen-goes c.args.sys.now _ _ _ _ c.go.ensures.goes c.requires
