use Rattle.std.proofs.Common.{refl, sym, subst, List, ℕ, arith}
use lib.Seq.{set-get_or}
use Rattle.atomic_table.proofs.Lists.{set_again}
use Rattle.qp_table.specs.Rule.{Holds}
use Rattle.qp_table.specs.declared.view.View.{View}
use Rattle.qp_shared_ends.proofs.SeatPasts.{one-past}
use Rattle.qp_shared_ends.proofs.table.know_past.Goals as goal

pub look-requires-clause-own : goal.look-requires-clause-own
look-requires-clause-own c = let w = c.requires.wide in (c.requires.own, omega arith)

pub look-requires-clause-keeps : goal.look-requires-clause-keeps
look-requires-clause-keeps c words views holds at small = (
  c.args.seat.now.me.0,
  subst (λ (z : List ℕ × List View). Holds c.args.words.now.shared.key z.0 z.1) (λ i. (sym (set-get_or words 0 0) i, sym (set_again views c.args.seat.now.id c.args.seat.now.me.0 at) i)) holds,
  (refl, one-past c.args.words.now.shared.key words views holds c.args.seat.now.id c.args.seat.now.me.0 at),
)
