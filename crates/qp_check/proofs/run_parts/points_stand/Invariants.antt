use Rattle.qp_model.specs.Course.{FollowsTo}
use Rattle.qp_model.specs.History.{lane_items}
use Rattle.qp_model.specs.Home.{lane_at}
use Rattle.qp_model.specs.Lawful.{cut_of, facts_of, setting_of}
use Rattle.qp_model.specs.Points.{lane_pieces}
use Rattle.qp_check.proofs.SourceFindLemmas.{AllFrom}
use Rattle.qp_check.proofs.run_parts.points_stand.Given as goal

abbrev pub invariant-loop-d : goal.invariant-loop-d
invariant-loop-d l =
    AllFrom (λ d. FollowsTo l.sys d (cut_of l.sys l.j d.priority) (lane_pieces (facts_of l.sys l.j) (setting_of l.sys l.j) d.priority (lane_items (lane_at l.j 0)))) l.d-items l.d-index
