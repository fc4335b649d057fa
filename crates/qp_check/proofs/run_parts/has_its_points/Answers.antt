use Rattle.std.proofs.Common.{◌≡◌, ◌∙◌, map}
use Rattle.qp_model.specs.History.{lane_items}
use Rattle.qp_model.specs.Home.{lane_at}
use Rattle.qp_model.specs.Lawful.{cut_of, facts_of, setting_of}
use Rattle.qp_model.specs.Points.{lane_pieces}
use Rattle.qp_check_calls.specs.AsPiece.{as_cut, as_piece}
use Rattle.qp_check.proofs.run_parts.has_its_points.Goals as goal

pub returns : goal.returns
returns c =
    let pieces : map as_piece c.of.result.now ≡ lane_pieces (facts_of c.args.sys.now c.args.j.now) (setting_of c.args.sys.now c.args.j.now) c.args.d.now.priority (lane_items (lane_at c.args.j.now 0)) =
    c.of.ensures ∙ c.requires.pieces c.args.d.now.priority in
    let cut : as_cut c.cut_of-cut.result ≡ cut_of c.args.sys.now c.args.j.now c.args.d.now.priority = c.cut_of-cut.ensures in
    rw (← cut, ← pieces) c.in_ok-follows.ensures
