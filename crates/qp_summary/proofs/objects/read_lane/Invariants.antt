use Rattle.std.proofs.Common.{◌≤◌, drop}
use Rattle.qp_model.specs.History.{lane_items}
use Rattle.qp_model.specs.Knowing.{records_of}
use Rattle.qp_check_knowledge.specs.Knowledge.{known_facts}
use Rattle.qp_summary.specs.Coming.{IsOnCourse}
use Rattle.qp_summary.proofs.objects.read_lane.Given as goal

abbrev pub invariant-loop-r : goal.invariant-loop-r
invariant-loop-r l = record {
  on : IsOnCourse l.sys l.d l.came (records_of (known_facts l.knowledge) l.d.priority l.ceiling (lane_items (drop l.r-index l.lane))) (records_of (known_facts l.knowledge) l.d.priority 0 (lane_items l.lane));
  few : l.came.taken ≤ l.r-index;
}
