use Rattle.qp_check_shapes.proofs.ObjectReleaseLemmas.{release-decided}
use Rattle.qp_check_shapes.proofs.object_shape.is_release_front.Goals as goal

pub returns : goal.returns
returns c = release-decided c.args.e c.args.told.now c.release_front.result c.release_front.ensures
