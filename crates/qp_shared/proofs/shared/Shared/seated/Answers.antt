use Rattle.std.proofs.Common.{refl, ap, sym, subst, length}
use Rattle.qp_model.specs.Sound.{IsSound}
use Rattle.qp_side.specs.declared.view.SideView.{SideView}
use Rattle.qp_table.specs.declared.view.View.{View}
use Rattle.qp_table.specs.Lane.{lane_of}
use Rattle.qp_shared_lane.specs.Used.{HasEnds}
use Rattle.qp_shared_lane.proofs.Used.{ends-none}
use Rattle.qp_shared.specs.Starting.{world_name}
use Rattle.qp_shared.proofs.First.{holds-at, starts-at, side-fitting}
use Rattle.qp_shared.proofs.shared.Shared.seated.Goals as goal

pub invariant_of-result : goal.invariant_of-result
invariant_of-result c = record {
  own = c.requires.beside.0;
  wide = c.args.self.now.side_wide;
  fitting = side-fitting c.args.self.now.side.shared.key (subst IsSound (sym c.args.self.now.side_key) c.requires.sound);
  lane = ap (λ (z : SideView). length z.view.logs) c.requires.views.side;
  bare = ap length c.requires.beside.1;
}

pub invariant_of-result-2 : goal.invariant_of-result-2
invariant_of-result-2 c = record {
  own = c.requires.own;
  wide = c.args.self.now.wide;
  key = c.args.self.now.key;
  side_key = c.args.self.now.side_key;
  rings_key = c.of.ensures;
  ended = subst (HasEnds c.none.result.at) (sym (ap (λ (z : View). z.used) c.requires.views.table)) (ends-none c.none.result.at);
  holds = holds-at c.args.self.now.sys.now c.requires.sound c.args.count c.args._number c.args.log c.requires.bare c.new.result.list c.new.ensures c.args.seat.me.0 c.args.side.me.0 c.requires.views;
}

pub returns : goal.returns
unfolding lane_of
returns c = record {
  starts = starts-at c.args.self.now.sys.now c.requires.sound c.args.count c.args._number c.args.log c.requires.bare c.new.result.list c.new.ensures c.args.seat.me.0 c.args.side.me.0 c.requires.views (world_name c.args.self.now c.args.count);
  serve = λ o. refl;
}
