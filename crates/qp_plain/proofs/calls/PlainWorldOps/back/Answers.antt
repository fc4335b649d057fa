use Rattle.std.proofs.Common.{◌≡◌, ℕ, ◌+◌, ◌-◌, ◌<◌, length, slice_set, sym, ◌∙◌, ap, subst, arith, IsTrue}
use Rattle.qp_model.specs.FreeBlocks.{Pool}
use Rattle.qp_plain_sound.specs.View.{view_of}
use Rattle.qp_model.specs.WordLaw.{is_pool}
use Rattle.qp_plain.specs.declared.book.Book.{Book}
use Rattle.qp_plain.specs.declared.world.PlainWorld.{PlainWorld}
use Rattle.qp_plain.specs.Book.{lists_of}
use Rattle.qp_plain.specs.Tables.{block_place}
use Rattle.qp_plain.specs.World.{WorldHolds}
use Rattle.qp_plain.proofs.Calling.{stop-stays, pool-at, block-at}
use Rattle.qp_plain.proofs.Few.{pool-few}
use Rattle.qp_plain.proofs.Holding.{pool-in, block-in}
use Rattle.qp_plain.proofs.Mays.{fresh-block}
use Rattle.qp_model.specs.declared.bodies.Body.TheVariants.{Back}
use Rattle.qp_chart.specs.StateTree.{has}
use Rattle.qp_model.specs.Lists.{with_number}
use Rattle.qp_plain_sound.proofs.Standing.{block-pool}
use Rattle.qp_plain.proofs.BlockCalls as block
use Rattle.qp_plain.proofs.calls.PlainWorldOps.back.Goals as goal

there : (w : PlainWorld) (p k : ℕ) → IsTrue (is_pool w.sys.now p) → k ≡ p → k - 1 < length w.pools.items
there w p k h at = let few = pool-in w.sys.now p h in omega (arith, few.0, few.1, at, w.holds.pools_hold.long)

put : (w : PlainWorld) (b : Book) (p k : ℕ) (x : Pool) → k ≡ p → WorldHolds w.sys.now (lists_of b) b.order.items (slice_set w.pools.items (p - 1) x) w.blocks.items w.cells.items w.queues.items w.signals.items w.timers.items
    → WorldHolds w.sys.now (lists_of b) b.order.items (slice_set w.pools.items (k - 1) x) w.blocks.items w.cells.items w.queues.items w.signals.items w.timers.items
put w b p k x at h = subst (λ z. WorldHolds w.sys.now (lists_of b) b.order.items (slice_set w.pools.items (z - 1) x) w.blocks.items w.cells.items w.queues.items w.signals.items w.timers.items) (sym at) h

pub place-requires-clause-pools : goal.place-requires-clause-pools
place-requires-clause-pools c = let there = block-in c.args.self.now.sys.now c.args.self.now.holds.limits c.args.f.pool c.args.f.block (fresh-block c.args.self.now c.args.f c.requires.stands) in omega (arith, there.pools, c.pool.ensures)

pub place-requires-clause-blocks : goal.place-requires-clause-blocks
place-requires-clause-blocks c = let there = block-in c.args.self.now.sys.now c.args.self.now.holds.limits c.args.f.pool c.args.f.block (fresh-block c.args.self.now c.args.f c.requires.stands) in omega (arith, there.blocks, c.block.ensures)

pub index_mut-word-requires : goal.index_mut-word-requires
index_mut-word-requires c = let lt = there c.args.self.now c.args.f.pool c.from.result (block-pool c.args.self.now.sys.now c.args.f.pool c.args.f.block (fresh-block c.args.self.now c.args.f c.requires.stands)).0 (c.from.ensures ∙ c.pool-2.ensures) in omega (arith, lt, c.args.self.now.pools.ok.0)

pub put-requires-clause-within : goal.put-requires-clause-within
put-requires-clause-within c = let there = block-in c.args.self.now.sys.now c.args.self.now.holds.limits c.args.f.pool c.args.f.block (fresh-block c.args.self.now c.args.f c.requires.stands) in omega (arith, there.blocks, c.block-2.ensures)

pub put-requires-clause-out : goal.put-requires-clause-out
put-requires-clause-out c = ap (has c.index_mut-word.result.now.free) c.block-2.ensures ∙ ap (λ x. has x.free c.args.f.block) (pool-at c.args.self.now c.args.f.pool c.from.result c.index_mut-word.result.now (block-pool c.args.self.now.sys.now c.args.f.pool c.args.f.block (fresh-block c.args.self.now c.args.f c.requires.stands)).0 (c.from.ensures ∙ c.pool-2.ensures) c.index_mut-word.ensures.value) ∙ block.not-free c.args.self.now c.args.f c.requires.stands c.requires.used

pub put-requires-clause-few : goal.put-requires-clause-few
put-requires-clause-few c =
    let le = pool-few c.args.self.now.sys.now c.args.self.now.book c.args.self.now.holds.world.sound.words c.args.f.pool (block-pool c.args.self.now.sys.now c.args.f.pool c.args.f.block (fresh-block c.args.self.now c.args.f c.requires.stands)).0 in
    let is = ap (λ x. x.count) (pool-at c.args.self.now c.args.f.pool c.from.result c.index_mut-word.result.now (block-pool c.args.self.now.sys.now c.args.f.pool c.args.f.block (fresh-block c.args.self.now c.args.f c.requires.stands)).0 (c.from.ensures ∙ c.pool-2.ensures) c.index_mut-word.ensures.value) in
    omega (arith, le, is)

pub add-requires-clause-room : goal.add-requires-clause-room
unfolding view_of
add-requires-clause-room c = c.requires.room

pub invariant_of-self : goal.invariant_of-self
invariant_of-self c = record {
  holds = put c.args.self.now c.add.new.self c.args.f.pool c.from.result c.put.new.self (c.from.ensures ∙ c.pool-2.ensures) (block.back-holds c.args.self.now c.add.new.self c.back.result c.add.ensures.gains c.args.f c.ops-n.result c.from-to.result c.index_mut-word.result.now (pool-at c.args.self.now c.args.f.pool c.from.result c.index_mut-word.result.now (block-pool c.args.self.now.sys.now c.args.f.pool c.args.f.block (fresh-block c.args.self.now c.args.f c.requires.stands)).0 (c.from.ensures ∙ c.pool-2.ensures) c.index_mut-word.ensures.value) c.ops-n.ensures (c.from-to.ensures ∙ (block-at c.args.self.now c.args.f.pool c.args.f.block c.place.result c.index.result.now (fresh-block c.args.self.now c.args.f c.requires.stands) (c.place.ensures.value ∙ ap (λ x. block_place x c.block.result) c.pool.ensures ∙ ap (block_place c.args.f.pool) c.block.ensures) c.index.ensures).ops) c.requires.stands c.requires.used (c.back.ensures ∙ ap (λ x. record { of = c.args.self.now.by; body = Back x c.ops-n.result c.block-3.result c.from-to.result }) c.pool-3.ensures
      ∙ ap (λ x. record { of = c.args.self.now.by; body = Back c.args.f.pool c.ops-n.result x c.from-to.result }) c.block-3.ensures) c.put.new.self (c.put.ensures ∙ ap (λ x. record { count = c.index_mut-word.result.now.count + 1; free = with_number x c.index_mut-word.result.now.free }) c.block-2.ensures));
  stops = stop-stays c.args.self.now.stop c.args.self.now.book c.add.new.self c.add.ensures.gains.stays c.args.self.now.stops;
}

pub returns : goal.returns
returns c = block.back-it c.args.self.now c.add.new.self c.back.result c.add.ensures.gains c.args.f c.ops-n.result c.from-to.result c.index_mut-word.result.now (pool-at c.args.self.now c.args.f.pool c.from.result c.index_mut-word.result.now (block-pool c.args.self.now.sys.now c.args.f.pool c.args.f.block (fresh-block c.args.self.now c.args.f c.requires.stands)).0 (c.from.ensures ∙ c.pool-2.ensures) c.index_mut-word.ensures.value) c.ops-n.ensures (c.from-to.ensures ∙ (block-at c.args.self.now c.args.f.pool c.args.f.block c.place.result c.index.result.now (fresh-block c.args.self.now c.args.f c.requires.stands) (c.place.ensures.value ∙ ap (λ x. block_place x c.block.result) c.pool.ensures ∙ ap (block_place c.args.f.pool) c.block.ensures) c.index.ensures).ops) c.requires.stands c.requires.used (c.back.ensures ∙ ap (λ x. record { of = c.args.self.now.by; body = Back x c.ops-n.result c.block-3.result c.from-to.result }) c.pool-3.ensures
    ∙ ap (λ x. record { of = c.args.self.now.by; body = Back c.args.f.pool c.ops-n.result x c.from-to.result }) c.block-3.ensures) c.add.ensures.spare
