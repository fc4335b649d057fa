use Rattle.qp_shared.proofs.Roots.{kept-views}
use Rattle.qp_shared.proofs.shared.Shared.keep.Goals as goal

pub seated-requires-clause-views : goal.seated-requires-clause-views
seated-requires-clause-views c = kept-views c.args.count c.args.root.seat.me.0 c.args.root.side.me.0 c.become_lane.new.root.me.0 c.requires.few c.requires.root.table c.requires.root.side_table c.become_lane.ensures.root
