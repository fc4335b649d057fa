use Rattle.std.proofs.Common.{◌≡◌, map, refl, sym, ◌∙◌, ap, subst}
use Rattle.qp_plain_sound.specs.Log.{log_of}
use Rattle.qp_plain.specs.declared.book.Book.{Book}
use Rattle.qp_plain.specs.declared.world.PlainWorld.{PlainWorld}
use Rattle.qp_plain.specs.Books.{log_recs}
use Rattle.qp_plain.specs.Book.{lists_of, logs_of}
use Rattle.qp_plain.specs.World.{StopIs, WorldHolds}
use Rattle.qp_plain.proofs.world.PlainWorld.go.Goals as goal

same-lists : (a b : Book) → logs_of b ≡ logs_of a → lists_of b ≡ lists_of a
same-lists a b e = ap (map log_recs) e

moved : (w : PlainWorld) (b : Book) → logs_of b ≡ logs_of w.book → b.order.items ≡ w.book.order.items
    → WorldHolds w.sys.now (lists_of b) b.order.items w.pools.items w.blocks.items w.cells.items w.queues.items w.signals.items w.timers.items
moved w b logs order =
    subst (λ ls. WorldHolds w.sys.now ls b.order.items w.pools.items w.blocks.items w.cells.items w.queues.items w.signals.items w.timers.items) (sym (same-lists w.book b logs))
    (subst (λ xs. WorldHolds w.sys.now (lists_of w.book) xs w.pools.items w.blocks.items w.cells.items w.queues.items w.signals.items w.timers.items) (sym order) w.holds)

pub invariant_of-self : goal.invariant_of-self
invariant_of-self c = record {
  holds = moved c.args.self.now c.go.new.self c.go.ensures.logs c.go.ensures.order;
  stops = subst (StopIs c.args.self.now.stop) (sym c.go.ensures.logs) c.args.self.now.stops;
}

pub returns-clause-goes : goal.returns-clause-goes
returns-clause-goes c = record {
  sys_is = refl;
  logs = c.go.ensures.logs;
  order = c.go.ensures.order;
  log = ap (λ ls. log_of ls c.go.new.self.order.items) (same-lists c.args.self.now.book c.go.new.self c.go.ensures.logs) ∙ ap (log_of (lists_of c.args.self.now.book)) c.go.ensures.order;
  lanes = c.go.ensures.lanes;
  by_is = refl;
  stop_is = refl;
  at = c.go.ensures.at;
}
