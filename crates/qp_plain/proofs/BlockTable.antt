-- Blocks in their table: where one stands, and the world with it changed or as it was.
use Rattle.std.proofs.Common.{◌≡◌, ℕ, ◌<◌, slice_set, sym, ◌∙◌, ap, subst, arith, IsTrue}
use Rattle.qp_plain_words.specs.declared.block.BlockWord.{BlockWord}
use Rattle.qp_model.specs.WordLaw.{is_block}
use Rattle.qp_plain.specs.declared.book.Book.{Book}
use Rattle.qp_plain.specs.declared.world.PlainWorld.{PlainWorld}
use Rattle.qp_plain.specs.Book.{lists_of}
use Rattle.qp_plain.specs.Tables.{block_place}
use Rattle.qp_plain.specs.World.{WorldHolds}
use Rattle.qp_plain.proofs.Calling.{BlockIs}
use Rattle.qp_plain.proofs.Few.{refs-few, names-counted}
use Rattle.qp_calls.specs.Tokens.{Hold}

pub put : (w : PlainWorld) (b : Book) (p k at : ℕ) (x : BlockWord) → at ≡ block_place p k → WorldHolds w.sys.now (lists_of b) b.order.items w.pools.items (slice_set w.blocks.items (block_place p k) x) w.cells.items w.queues.items w.signals.items w.timers.items
    → WorldHolds w.sys.now (lists_of b) b.order.items w.pools.items (slice_set w.blocks.items at x) w.cells.items w.queues.items w.signals.items w.timers.items
put w b p k at x e h = subst (λ z. WorldHolds w.sys.now (lists_of b) b.order.items w.pools.items (slice_set w.blocks.items z x) w.cells.items w.queues.items w.signals.items w.timers.items) (sym e) h

pub small : (w : PlainWorld) (p k : ℕ) (q : BlockWord) → IsTrue (is_block w.sys.now p k) → BlockIs w p k q → q.ops < 4294967295
small w p k q h is = let le = refs-few w.sys.now w.book w.holds.world.sound.words p k h in omega (arith, le, is.ops)

pub small-refs : (w : PlainWorld) (p k : ℕ) (q : BlockWord) → IsTrue (is_block w.sys.now p k) → BlockIs w p k q → q.refs < 4294967295
small-refs w p k q h is =
    let le = refs-few w.sys.now w.book w.holds.world.sound.words p k h in
    let names = names-counted (lists_of w.book) p k in
    omega (arith, le, is.refs, names)

pub same : (p q b c n m : ℕ) → p ≡ q → b ≡ c → n ≡ m → ◌≡◌ {A = Hold} (record { pool = p; block = b; name = n }) (record { pool = q; block = c; name = m })
same p q b c n m e f g = ap (λ x. record { pool = x; block = b; name = n }) e ∙ ap (λ x. record { pool = q; block = x; name = n }) f ∙ ap (λ x. record { pool = q; block = c; name = x }) g
