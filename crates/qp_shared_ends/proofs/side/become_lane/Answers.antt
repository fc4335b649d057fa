use Rattle.std.proofs.Common.{refl, sym, subst, List, ℕ, set, arith}
use lib.Seq.{set-get_or}
use Rattle.qp_side.specs.Rule.{SideHolds}
use Rattle.qp_shared_ends.specs.Seats.{as_lane_seat}
use Rattle.qp_shared_ends.proofs.Numbering.{becomes}
use Rattle.qp_shared_ends.proofs.side.become_lane.Goals as goal

pub look-requires-clause-own : goal.look-requires-clause-own
look-requires-clause-own c = let w = c.requires.wide in (c.requires.own, omega arith)

pub look-requires-clause-keeps : goal.look-requires-clause-keeps
look-requires-clause-keeps c words views holds at small = (
  as_lane_seat c.args.number c.args.root.now.me.0,
  subst (λ (z : List ℕ). SideHolds c.args.words.now.shared.key z (set views c.args.root.now.id (as_lane_seat c.args.number c.args.root.now.me.0))) (sym (set-get_or words 0 0))
      (becomes c.args.words.now.shared.key words views holds c.args.root.now.id c.args.root.now.me.0 at c.args.number c.requires.few c.requires.left c.requires.bare),
  refl,
)
