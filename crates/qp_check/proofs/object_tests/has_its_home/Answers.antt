use Rattle.std.proofs.Common.{◌∙◌, ap}
use Rattle.qp_model.specs.Ends.{may_cut}
use Rattle.qp_model.specs.History.{lane_items}
use Rattle.qp_model.specs.Home.{lane_at}
use Rattle.qp_model.specs.HomeLane.{is_home_lane}
use Rattle.qp_check_calls.specs.AsPiece.{as_cut}
use Rattle.qp_check.proofs.ObjectTestLemmas.{shapes-broken, shapes-home}
use Rattle.qp_check.proofs.object_tests.has_its_home.Goals as goal

pub returns-then-not-has_shape : goal.returns-then-not-has_shape
returns-then-not-has_shape c =
    shapes-broken c.args.sys.now c.args.j.now c.args.d.now (as_cut c.cut_of-cut.result) c.deref.result.now c.cut_of-cut.ensures c.requires.port (c.deref.ensures.value ∙ c.told.view_is ∙ c.in_ok-told.ensures)
    c.has_shape.result c.has_shape.ensures c.if-not-has_shape.true

pub returns : goal.returns
returns c =
    shapes-home c.args.sys.now c.args.j.now c.args.d.now (as_cut c.cut_of-cut.result) c.deref.result.now c.cut_of-cut.ensures c.requires.port (c.deref.ensures.value ∙ c.told.view_is ∙ c.in_ok-told.ensures)
    c.has_shape.result c.has_shape.ensures c.if-not-has_shape.false c.in_ok-is_home.is_home
    (c.in_ok-is_home.ensures
    ∙ ap (λ b. is_home_lane c.args.d.now.priority c.args.j.now.budget b (lane_items c.lane_at.result.now)) c.may_cut.ensures
    ∙ ap (λ lane. is_home_lane c.args.d.now.priority c.args.j.now.budget (may_cut c.args.j.now.end) (lane_items lane)) (c.lane_at.ensures ∙ ap (lane_at c.args.j.now) c.home_lane-home.ensures))
