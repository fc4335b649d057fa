use Rattle.std.proofs.Common.{◌≡◌, ℕ, ◌-◌, ◌<◌, ◌≤◌, length, get_or, slice_set, sym, ◌∙◌, ap, subst, arith, IsTrue}
use Rattle.qp_base.specs.declared.event.Ev.{Ev}
use Rattle.qp_model.specs.declared.words.Word.TheVariants as word
use Rattle.qp_model.specs.FreeBlocks.{Pool}
use Rattle.qp_plain_sound.specs.View.{view_of}
use Rattle.qp_model.specs.WordLaw.{is_pool}
use Rattle.qp_plain.specs.declared.book.Book.{Book}
use Rattle.qp_plain.specs.declared.world.PlainWorld.{PlainWorld}
use Rattle.qp_plain.specs.Book.{lists_of}
use Rattle.qp_plain.specs.Tables.{block_place}
use Rattle.qp_plain.specs.World.{WorldHolds}
use Rattle.qp_plain.specs.WorldView.{world_view}
use Rattle.qp_plain.proofs.Calling.{view_with, stop-stays, pool-at, block-at, lent-same}
use Rattle.qp_plain.proofs.Few.{pool-few}
use Rattle.qp_plain.proofs.Holding.{pool-in}
use Rattle.qp_plain.proofs.Turns.{tries-drawn, tries-shown}
use Rattle.qp_calls.specs.Clauses.{GivesBlock, event_of}
use Rattle.qp_calls.specs.declared.answers.Give.TheVariants as give
use Rattle.qp_plain.proofs.EventCalls.{free-block, pool-fits}
use Rattle.qp_plain.proofs.BlockCalls as block
use Rattle.qp_plain.proofs.calls.PlainWorldOps.give.Goals as goal

there : (w : PlainWorld) (p k : ℕ) → IsTrue (is_pool w.sys.now p) → k ≡ p → k - 1 < length w.pools.items
there w p k h at = let few = pool-in w.sys.now p h in omega (arith, few.0, few.1, at, w.holds.pools_hold.long)

kept : (w : PlainWorld) (b : Book) (k : ℕ) (q : Pool) → q ≡ get_or w.pools.items (k - 1) q → WorldHolds w.sys.now (lists_of b) b.order.items w.pools.items w.blocks.items w.cells.items w.queues.items w.signals.items w.timers.items
    → WorldHolds w.sys.now (lists_of b) b.order.items (slice_set w.pools.items (k - 1) q) w.blocks.items w.cells.items w.queues.items w.signals.items w.timers.items
kept w b k q e h = subst (λ z. WorldHolds w.sys.now (lists_of b) b.order.items z w.blocks.items w.cells.items w.queues.items w.signals.items w.timers.items) (sym (lent-same w.pools.items (k - 1) q e)) h

put : (w : PlainWorld) (b : Book) (p k c at : ℕ) (x : Pool) (e : Ev) → k ≡ p → at ≡ block_place p c
    → WorldHolds w.sys.now (lists_of b) b.order.items (slice_set w.pools.items (p - 1) x) w.blocks.items (slice_set w.cells.items (block_place p c) e) w.queues.items w.signals.items w.timers.items
    → WorldHolds w.sys.now (lists_of b) b.order.items (slice_set w.pools.items (k - 1) x) w.blocks.items (slice_set w.cells.items at e) w.queues.items w.signals.items w.timers.items
put w b p k c at x e kp ap_is h =
    subst (λ z. WorldHolds w.sys.now (lists_of b) b.order.items (slice_set w.pools.items (z - 1) x) w.blocks.items (slice_set w.cells.items at e) w.queues.items w.signals.items w.timers.items) (sym kp)
    (subst (λ z. WorldHolds w.sys.now (lists_of b) b.order.items (slice_set w.pools.items (p - 1) x) w.blocks.items (slice_set w.cells.items z e) w.queues.items w.signals.items w.timers.items) (sym ap_is) h)

pub index_mut-word-requires : goal.index_mut-word-requires
index_mut-word-requires g c = let lt = there c.args.self.now c.args.pool c.from.result (pool-fits c.args.self.now c.args.pool (event_of c.args.ev.now) c.requires.fits).0 c.from.ensures in omega (arith, lt, c.args.self.now.pools.ok.0)

pub add-requires-clause-room : goal.add-requires-clause-room
unfolding view_of
add-requires-clause-room g c = c.requires.room

pub add-requires-2-clause-room : goal.add-requires-2-clause-room
unfolding view_of
add-requires-2-clause-room g c = c.requires.room

pub invariant_of-self : goal.invariant_of-self
invariant_of-self g c = record {
  holds = kept c.args.self.now c.add.new.self c.from.result c.index_mut-word.result.now c.index_mut-word.ensures.value (block.short-holds c.args.self.now c.add.new.self c.shortage.result c.add.ensures.gains c.args.pool c.ops-n.result c.index_mut-word.result.now (pool-fits c.args.self.now c.args.pool (event_of c.args.ev.now) c.requires.fits).0 (pool-at c.args.self.now c.args.pool c.from.result c.index_mut-word.result.now (pool-fits c.args.self.now c.args.pool (event_of c.args.ev.now) c.requires.fits).0 c.from.ensures c.index_mut-word.ensures.value) c.ops-n.ensures c.left-free.result c.args.reserve c.left-free.ensures (subst (λ x. c.left-free.result ≤ x) c.unwrap_or.ensures c.if-free-unwrap_or.true) c.shortage.ensures);
  stops = stop-stays c.args.self.now.stop c.args.self.now.book c.add.new.self c.add.ensures.gains.stays c.args.self.now.stops;
}

pub returns-then-free-unwrap_or-clause-gives : goal.returns-then-free-unwrap_or-clause-gives
returns-then-free-unwrap_or-clause-gives g c = block.give-short c.args.self.now c.add.new.self c.shortage.result c.add.ensures.gains c.args.pool c.ops-n.result c.index_mut-word.result.now (pool-fits c.args.self.now c.args.pool (event_of c.args.ev.now) c.requires.fits).0 (pool-at c.args.self.now c.args.pool c.from.result c.index_mut-word.result.now (pool-fits c.args.self.now c.args.pool (event_of c.args.ev.now) c.requires.fits).0 c.from.ensures c.index_mut-word.ensures.value) c.ops-n.ensures c.add.ensures.spare c.left-free.result c.args.reserve (event_of c.args.ev.now) c.left-free.ensures (subst (λ x. c.left-free.result ≤ x) c.unwrap_or.ensures c.if-free-unwrap_or.true) c.shortage.ensures

pub returns-then-free-unwrap_or-clause-tries : goal.returns-then-free-unwrap_or-clause-tries
returns-then-free-unwrap_or-clause-tries g c =
    tries-shown (word.Pool c.args.pool) c.args.steps.now c.step.new.self (world_view c.args.self.now) (view_with c.args.self.now c.add.new.self) c.step.ensures
    ((returns-then-free-unwrap_or-clause-gives g c).adds.grows.rise (word.Pool c.args.pool))

pub take-b-requires-clause-few : goal.take-b-requires-clause-few
take-b-requires-clause-few g c =
    let le = pool-few c.args.self.now.sys.now c.args.self.now.book c.args.self.now.holds.world.sound.words c.args.pool (pool-fits c.args.self.now c.args.pool (event_of c.args.ev.now) c.requires.fits).0 in
    let is = ap (λ x. x.count) (pool-at c.args.self.now c.args.pool c.from.result c.index_mut-word.result.now (pool-fits c.args.self.now c.args.pool (event_of c.args.ev.now) c.requires.fits).0 c.from.ensures c.index_mut-word.ensures.value) in
    omega (arith, le, is)

pub place-at-requires-clause-pools : goal.place-at-requires-clause-pools
place-at-requires-clause-pools g c = let few = pool-in c.args.self.now.sys.now c.args.pool (pool-fits c.args.self.now c.args.pool (event_of c.args.ev.now) c.requires.fits).0 in omega (arith, few.1, c.args.self.now.holds.limits.pools)

pub invariant_of-self-2 : goal.invariant_of-self-2
invariant_of-self-2 g c = record {
  holds = put c.args.self.now c.add-2.new.self c.args.pool c.from.result c.take-b.result c.place-at.result c.take-b.new.self c.copy_of.result c.from.ensures c.place-at.ensures.value (block.give-holds c.args.self.now c.add-2.new.self c.new.result c.add-2.ensures.gains c.args.pool c.ops-n.result c.index_mut-word.result.now (pool-fits c.args.self.now c.args.pool (event_of c.args.ev.now) c.requires.fits).0 (pool-at c.args.self.now c.args.pool c.from.result c.index_mut-word.result.now (pool-fits c.args.self.now c.args.pool (event_of c.args.ev.now) c.requires.fits).0 c.from.ensures c.index_mut-word.ensures.value) c.ops-n.ensures c.take-b.result c.from-from.result c.args.ev.now.sig c.args.ev.now.pars.items c.copy_of.result c.take-b.new.self (free-block c.args.self.now c.args.pool c.take-b.result c.index_mut-word.result.now (pool-fits c.args.self.now c.args.pool (event_of c.args.ev.now) c.requires.fits).0 (pool-at c.args.self.now c.args.pool c.from.result c.index_mut-word.result.now (pool-fits c.args.self.now c.args.pool (event_of c.args.ev.now) c.requires.fits).0 c.from.ensures c.index_mut-word.ensures.value) c.take-b.ensures.first) c.take-b.ensures.first (c.from-from.ensures ∙ (block-at c.args.self.now c.args.pool c.take-b.result c.place-at.result c.index.result.now (free-block c.args.self.now c.args.pool c.take-b.result c.index_mut-word.result.now (pool-fits c.args.self.now c.args.pool (event_of c.args.ev.now) c.requires.fits).0 (pool-at c.args.self.now c.args.pool c.from.result c.index_mut-word.result.now (pool-fits c.args.self.now c.args.pool (event_of c.args.ev.now) c.requires.fits).0 c.from.ensures c.index_mut-word.ensures.value) c.take-b.ensures.first) c.place-at.ensures.value c.index.ensures).ops) (pool-fits c.args.self.now c.args.pool (event_of c.args.ev.now) c.requires.fits).1 c.copy_of.ensures c.new.ensures c.take-b.ensures.new);
  stops = stop-stays c.args.self.now.stop c.args.self.now.book c.add-2.new.self c.add-2.ensures.gains.stays c.args.self.now.stops;
}

enough : (u free x : ℕ) {y : ℕ} → u ≡ y → free ≡ x → u < free → y < x
enough u free x a b lt = omega (arith, a, b, lt)

pub returns-clause-gives : goal.returns-clause-gives
returns-clause-gives g c =
    subst (λ x. GivesBlock c.args.pool c.args.reserve (event_of c.args.ev.now) (world_view c.args.self.now) (view_with c.args.self.now c.add-2.new.self) (give.Given x)) (sym c.of.ensures)
    (block.give-it c.args.self.now c.add-2.new.self c.new.result c.add-2.ensures.gains c.args.pool c.ops-n.result c.index_mut-word.result.now (pool-fits c.args.self.now c.args.pool (event_of c.args.ev.now) c.requires.fits).0 (pool-at c.args.self.now c.args.pool c.from.result c.index_mut-word.result.now (pool-fits c.args.self.now c.args.pool (event_of c.args.ev.now) c.requires.fits).0 c.from.ensures c.index_mut-word.ensures.value) c.ops-n.ensures c.add-2.ensures.spare c.take-b.result c.from-from.result (event_of c.args.ev.now) c.args.reserve (free-block c.args.self.now c.args.pool c.take-b.result c.index_mut-word.result.now (pool-fits c.args.self.now c.args.pool (event_of c.args.ev.now) c.requires.fits).0 (pool-at c.args.self.now c.args.pool c.from.result c.index_mut-word.result.now (pool-fits c.args.self.now c.args.pool (event_of c.args.ev.now) c.requires.fits).0 c.from.ensures c.index_mut-word.ensures.value) c.take-b.ensures.first) c.take-b.ensures.first (c.from-from.ensures ∙ (block-at c.args.self.now c.args.pool c.take-b.result c.place-at.result c.index.result.now (free-block c.args.self.now c.args.pool c.take-b.result c.index_mut-word.result.now (pool-fits c.args.self.now c.args.pool (event_of c.args.ev.now) c.requires.fits).0 (pool-at c.args.self.now c.args.pool c.from.result c.index_mut-word.result.now (pool-fits c.args.self.now c.args.pool (event_of c.args.ev.now) c.requires.fits).0 c.from.ensures c.index_mut-word.ensures.value) c.take-b.ensures.first) c.place-at.ensures.value c.index.ensures).ops) (pool-fits c.args.self.now c.args.pool (event_of c.args.ev.now) c.requires.fits).1
    (enough _ _ _ c.unwrap_or.ensures c.left-free.ensures c.if-free-unwrap_or.false) c.new.ensures)

pub returns-clause-tries : goal.returns-clause-tries
returns-clause-tries g c =
    tries-drawn (word.Pool c.args.pool) c.args.steps.now c.step.new.self (world_view c.args.self.now) (view_with c.args.self.now c.add-2.new.self) c.step.ensures (returns-clause-gives g c).draws.up
