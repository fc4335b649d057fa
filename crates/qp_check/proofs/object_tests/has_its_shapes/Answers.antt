use Rattle.std.proofs.Common.{◌∙◌}
use Rattle.qp_check_calls.specs.AsPiece.{as_cut}
use Rattle.qp_check.proofs.ObjectTestLemmas.{shapes-alone}
use Rattle.qp_check.proofs.object_tests.has_its_shapes.Goals as goal

pub returns : goal.returns
returns c =
    shapes-alone c.args.sys.now c.args.j.now c.args.d.now (as_cut c.cut_of-cut.result) c.deref.result.now c.cut_of-cut.ensures c.if-j-eq-PORT.false
    (c.deref.ensures.value ∙ c.told.view_is ∙ c.requires.told) c.has_shape.result c.has_shape.ensures
