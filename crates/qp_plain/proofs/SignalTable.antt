-- Signals in their table: where one stands, and the world with it changed or as it was.
use Rattle.std.proofs.Common.{◌≡◌, ℕ, zero, suc, ◌-◌, ◌<◌, ◌==◌, true, false, length, get_or, slice_set, refl, sym, subst, arith, IsTrue}
use Rattle.std.proofs.lemmas.Bool.Decides.{nat_tests}
use Rattle.qp_plain_words.specs.declared.signal.SignalWord.{SignalWord}
use Rattle.qp_plain_sound.specs.View.{view_of}
use Rattle.qp_plain_sound.specs.WordStates.{set_in}
use Rattle.qp_model.specs.WordLaw.{is_object, is_signal}
use Rattle.qp_plain.specs.declared.book.Book.{Book}
use Rattle.qp_plain.specs.declared.world.PlainWorld.{PlainWorld}
use Rattle.qp_plain.specs.Book.{lists_of}
use Rattle.qp_plain.specs.Tables.{SignalIs}
use Rattle.qp_plain.specs.World.{WorldHolds}
use Rattle.qp_plain.specs.WorldView.{world_view}
use Rattle.qp_plain.proofs.Calling.{lent-same}
use Rattle.qp_plain.proofs.Few.{set-few}
use Rattle.qp_plain.proofs.Holding.{signal-in}

pub there : (w : PlainWorld) (s k : ℕ) → IsTrue (is_signal w.sys.now s) → k ≡ s → k - 4 < length w.signals.items
there w s k h at = let few = signal-in w.sys.now s h in omega (arith, few.0, few.1, at, w.holds.signals_hold.long)

pub put : (w : PlainWorld) (b : Book) (s k : ℕ) (x : SignalWord) → k ≡ s → WorldHolds w.sys.now (lists_of b) b.order.items w.pools.items w.blocks.items w.cells.items w.queues.items (slice_set w.signals.items (s - 4) x) w.timers.items
    → WorldHolds w.sys.now (lists_of b) b.order.items w.pools.items w.blocks.items w.cells.items w.queues.items (slice_set w.signals.items (k - 4) x) w.timers.items
put w b s k x at h = subst (λ z. WorldHolds w.sys.now (lists_of b) b.order.items w.pools.items w.blocks.items w.cells.items w.queues.items (slice_set w.signals.items (z - 4) x) w.timers.items) (sym at) h

pub kept : (w : PlainWorld) (b : Book) (k : ℕ) (q : SignalWord) → q ≡ get_or w.signals.items (k - 4) q → WorldHolds w.sys.now (lists_of b) b.order.items w.pools.items w.blocks.items w.cells.items w.queues.items w.signals.items w.timers.items
    → WorldHolds w.sys.now (lists_of b) b.order.items w.pools.items w.blocks.items w.cells.items w.queues.items (slice_set w.signals.items (k - 4) q) w.timers.items
kept w b k q e h = subst (λ z. WorldHolds w.sys.now (lists_of b) b.order.items w.pools.items w.blocks.items w.cells.items w.queues.items z w.timers.items) (sym (lent-same w.signals.items (k - 4) q e)) h

pub few : (w : PlainWorld) (s : ℕ) (q : SignalWord) → IsTrue (is_signal w.sys.now s) → SignalIs q (set_in (lists_of w.book) s) → q.ops < 4294967295
few w s q h is = let le = set-few w.sys.now w.book w.holds.world.sound.words s h in omega (arith, le, is.ops)

pub mine : (w : PlainWorld) → IsTrue (is_object (world_view w).sys (world_view w).by) → IsTrue (is_object w.sys.now w.by)
unfolding view_of
mine w h = h

pub named : (w : PlainWorld) (s : ℕ) → IsTrue (is_signal (world_view w).sys s) → IsTrue (is_signal w.sys.now s)
unfolding view_of
named w s h = h

pub bit-one : (x : ℕ) → true ≡ (x == 1) → x ≡ 1
bit-one x h = grind (arith, nat_tests)

pub bit-none : (x : ℕ) → x < 2 → false ≡ (x == 1) → x ≡ 0
bit-none zero lt h = refl
bit-none (suc zero) lt h = absurd (cc)
bit-none (suc (suc x)) lt h = absurd (omega (arith, lt))
