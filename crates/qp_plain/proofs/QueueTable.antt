-- Queues in their table: where one stands, and the world with it changed or as it was.
use Rattle.std.proofs.Common.{◌≡◌, ℕ, ◌+◌, ◌<◌, ◌≤◌, length, get_or, slice_set, sym, ap, subst, arith, IsTrue}
use Rattle.qp_plain_words.specs.Queue.{Queue}
use Rattle.qp_plain_sound.specs.View.{view_of}
use Rattle.qp_plain_sound.specs.WordStates.{line_in}
use Rattle.qp_model.specs.WordLaw.{is_object}
use Rattle.qp_model.specs.Sites.{ring_of}
use Rattle.qp_plain.specs.declared.book.Book.{Book}
use Rattle.qp_plain.specs.declared.world.PlainWorld.{PlainWorld}
use Rattle.qp_plain.specs.Book.{lists_of}
use Rattle.qp_plain.specs.World.{WorldHolds}
use Rattle.qp_plain.specs.WorldView.{world_view}
use Rattle.qp_plain.proofs.Calling.{lent-same}
use Rattle.qp_plain.proofs.Few.{line-few}

pub mine : (w : PlainWorld) (a : ℕ) → IsTrue (is_object (world_view w).sys a) → IsTrue (is_object w.sys.now a)
unfolding view_of
mine w a h = h

pub there : (w : PlainWorld) (a k : ℕ) → IsTrue (is_object w.sys.now a) → k ≡ a → k < length w.queues.items
there w a k h at = let few = w.holds.limits.objects a h in omega (arith, few.1, at, w.holds.queues_hold.long)

pub put : (w : PlainWorld) (b : Book) (a k : ℕ) (x : Queue) → k ≡ a → WorldHolds w.sys.now (lists_of b) b.order.items w.pools.items w.blocks.items w.cells.items (slice_set w.queues.items a x) w.signals.items w.timers.items
    → WorldHolds w.sys.now (lists_of b) b.order.items w.pools.items w.blocks.items w.cells.items (slice_set w.queues.items k x) w.signals.items w.timers.items
put w b a k x at h = subst (λ z. WorldHolds w.sys.now (lists_of b) b.order.items w.pools.items w.blocks.items w.cells.items (slice_set w.queues.items z x) w.signals.items w.timers.items) (sym at) h

pub kept : (w : PlainWorld) (b : Book) (k : ℕ) (q : Queue) → q ≡ get_or w.queues.items k q → WorldHolds w.sys.now (lists_of b) b.order.items w.pools.items w.blocks.items w.cells.items w.queues.items w.signals.items w.timers.items
    → WorldHolds w.sys.now (lists_of b) b.order.items w.pools.items w.blocks.items w.cells.items (slice_set w.queues.items k q) w.signals.items w.timers.items
kept w b k q e h = subst (λ z. WorldHolds w.sys.now (lists_of b) b.order.items w.pools.items w.blocks.items w.cells.items z w.signals.items w.timers.items) (sym (lent-same w.queues.items k q e)) h

pub few : (w : PlainWorld) (a : ℕ) (q : Queue) → IsTrue (is_object w.sys.now a) → q ≡ record { line = line_in w.sys.now (lists_of w.book) a; ring = ring_of w.sys.now a } → q.line.f + q.line.l + q.line.m ≤ 49000049
few w a q h is =
    let le = line-few w.sys.now w.book w.holds.world.sound.words a h in
    let line = ap (λ x. x.line) is in
    subst (λ x. x.f + x.l + x.m ≤ 49000049) (sym line) le
