use Rattle.std.proofs.Common.{sym, ap, ◌∙◌}
use Rattle.qp_model.specs.History.{lane_items}
use Rattle.qp_table.specs.Lane.{lane_of, event_seen}
use Rattle.qp_shared_ends.proofs.Telling.{bare-tell}
use Rattle.qp_shared_ends.proofs.Sealing.{untold-bare}
use Rattle.qp_shared_lane.specs.Holds.{told_by}
use Rattle.qp_shared.proofs.lane.SharedLane.records.Goals as goal

pub returns-clause-items : goal.returns-clause-items
unfolding lane_of
returns-clause-items c = let l = c.args.self.now.state in
    ap lane_items c.as_slice.ensures.value ∙ sym (untold-bare (told_by l.log l.numbers.list l.seat.me.0) ∙ bare-tell (event_seen l.seat.me.0.contents) l.log.recs.items l.numbers.list l.holds.beside)
