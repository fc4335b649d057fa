-- Time events in their table: where one stands, and the world with it changed or as it was.
use Rattle.std.proofs.Common.{◌≡◌, ℕ, ◌-◌, ◌<◌, length, get_or, slice_set, sym, ap, subst, arith, IsTrue}
use Rattle.qp_model.specs.TimeEvents.{Clock}
use Rattle.qp_plain_sound.specs.WordStates.{clock_in}
use Rattle.qp_model.specs.WordLaw.{is_timer}
use Rattle.qp_plain.specs.declared.book.Book.{Book}
use Rattle.qp_plain.specs.declared.world.PlainWorld.{PlainWorld}
use Rattle.qp_plain.specs.Book.{lists_of}
use Rattle.qp_plain.specs.World.{WorldHolds}
use Rattle.qp_plain.proofs.Calling.{lent-same}
use Rattle.qp_plain.proofs.Few.{clock-few}
use Rattle.qp_plain.proofs.Holding.{timer-in}

pub there : (w : PlainWorld) (t k : ℕ) → IsTrue (is_timer w.sys.now t) → k ≡ t → k - 1 < length w.timers.items
there w t k h at = let few = timer-in w.sys.now t h in omega (arith, few.0, few.1, at, w.holds.timers_hold.long)

pub put : (w : PlainWorld) (b : Book) (t k : ℕ) (x : Clock) → k ≡ t → WorldHolds w.sys.now (lists_of b) b.order.items w.pools.items w.blocks.items w.cells.items w.queues.items w.signals.items (slice_set w.timers.items (t - 1) x)
    → WorldHolds w.sys.now (lists_of b) b.order.items w.pools.items w.blocks.items w.cells.items w.queues.items w.signals.items (slice_set w.timers.items (k - 1) x)
put w b t k x at h = subst (λ z. WorldHolds w.sys.now (lists_of b) b.order.items w.pools.items w.blocks.items w.cells.items w.queues.items w.signals.items (slice_set w.timers.items (z - 1) x)) (sym at) h

pub kept : (w : PlainWorld) (b : Book) (k : ℕ) (q : Clock) → q ≡ get_or w.timers.items (k - 1) q → WorldHolds w.sys.now (lists_of b) b.order.items w.pools.items w.blocks.items w.cells.items w.queues.items w.signals.items w.timers.items
    → WorldHolds w.sys.now (lists_of b) b.order.items w.pools.items w.blocks.items w.cells.items w.queues.items w.signals.items (slice_set w.timers.items (k - 1) q)
kept w b k q e h = subst (WorldHolds w.sys.now (lists_of b) b.order.items w.pools.items w.blocks.items w.cells.items w.queues.items w.signals.items) (sym (lent-same w.timers.items (k - 1) q e)) h

pub few : (w : PlainWorld) (t : ℕ) (q : Clock) → IsTrue (is_timer w.sys.now t) → q ≡ clock_in (lists_of w.book) t → q.count < 4294967295
few w t q h is = let le = clock-few w.sys.now w.book w.holds.world.sound.words t h in let e = ap (λ x. x.count) is in omega (arith, le, e)
