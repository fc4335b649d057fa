use Rattle.std.proofs.Common.{sym, ◌∙◌, ap, subst, arith}
use Rattle.qp_plain_sound.specs.View.{view_of}
use Rattle.qp_plain.specs.Tables.{block_place}
use Rattle.qp_plain.specs.WorldView.{world_view}
use Rattle.qp_plain.proofs.Calling.{view_with, stop-stays, block-at}
use Rattle.qp_plain.proofs.Holding.{block-in}
use Rattle.qp_plain.proofs.Mays.{held-block, held-stands}
use Rattle.qp_model.specs.declared.bodies.Body.TheVariants.{Inc}
use Rattle.qp_calls.specs.Clauses.{MakesMore}
use Rattle.qp_plain.proofs.BlockCalls as block
use Rattle.qp_plain.proofs.BlockTable.{put, small, small-refs, same}
use Rattle.qp_plain.proofs.calls.PlainWorldOps.inc.Goals as goal

pub place-requires-clause-pools : goal.place-requires-clause-pools
place-requires-clause-pools c = let there = block-in c.args.self.now.sys.now c.args.self.now.holds.limits c.args.h.now.pool c.args.h.now.block (held-block c.args.self.now c.args.h.now c.requires.stands) in omega (arith, there.pools, c.pool.ensures)

pub place-requires-clause-blocks : goal.place-requires-clause-blocks
place-requires-clause-blocks c = let there = block-in c.args.self.now.sys.now c.args.self.now.holds.limits c.args.h.now.pool c.args.h.now.block (held-block c.args.self.now c.args.h.now c.requires.stands) in omega (arith, there.blocks, c.block.ensures)

pub make-name-requires-clause-ops : goal.make-name-requires-clause-ops
make-name-requires-clause-ops c = small c.args.self.now c.args.h.now.pool c.args.h.now.block c.index_mut.result.now (held-block c.args.self.now c.args.h.now c.requires.stands) (block-at c.args.self.now c.args.h.now.pool c.args.h.now.block c.place.result c.index_mut.result.now (held-block c.args.self.now c.args.h.now c.requires.stands) (c.place.ensures.value ∙ ap (λ x. block_place x c.block.result) c.pool.ensures ∙ ap (block_place c.args.h.now.pool) c.block.ensures) c.index_mut.ensures.value)

pub make-name-requires-clause-refs : goal.make-name-requires-clause-refs
make-name-requires-clause-refs c = small-refs c.args.self.now c.args.h.now.pool c.args.h.now.block c.index_mut.result.now (held-block c.args.self.now c.args.h.now c.requires.stands) (block-at c.args.self.now c.args.h.now.pool c.args.h.now.block c.place.result c.index_mut.result.now (held-block c.args.self.now c.args.h.now c.requires.stands) (c.place.ensures.value ∙ ap (λ x. block_place x c.block.result) c.pool.ensures ∙ ap (block_place c.args.h.now.pool) c.block.ensures) c.index_mut.ensures.value)

pub add-requires-clause-room : goal.add-requires-clause-room
unfolding view_of
add-requires-clause-room c = c.requires.room

pub invariant_of-self : goal.invariant_of-self
invariant_of-self c = record {
  holds = put c.args.self.now c.add.new.self c.args.h.now.pool c.args.h.now.block c.place.result c.make-name.new.self (c.place.ensures.value ∙ ap (λ x. block_place x c.block.result) c.pool.ensures ∙ ap (block_place c.args.h.now.pool) c.block.ensures) (block.inc-holds c.args.self.now c.add.new.self c.inc.result c.add.ensures.gains c.args.h.now.pool c.args.h.now.block c.from.result c.index_mut.result.now (held-block c.args.self.now c.args.h.now c.requires.stands) (block-at c.args.self.now c.args.h.now.pool c.args.h.now.block c.place.result c.index_mut.result.now (held-block c.args.self.now c.args.h.now c.requires.stands) (c.place.ensures.value ∙ ap (λ x. block_place x c.block.result) c.pool.ensures ∙ ap (block_place c.args.h.now.pool) c.block.ensures) c.index_mut.ensures.value) (c.from.ensures ∙ c.make-name.ensures.name) c.args.h.now.name c.make-name.new.self (held-stands c.args.self.now c.args.h.now c.requires.stands) (c.inc.ensures ∙ ap (λ x. record { of = c.args.self.now.by; body = Inc x c.block-2.result c.from.result }) c.pool-2.ensures ∙ ap (λ x. record { of = c.args.self.now.by; body = Inc c.args.h.now.pool x c.from.result }) c.block-2.ensures) c.make-name.ensures.new);
  stops = stop-stays c.args.self.now.stop c.args.self.now.book c.add.new.self c.add.ensures.gains.stays c.args.self.now.stops;
}

pub returns : goal.returns
returns c =
    subst (MakesMore c.args.h.now (world_view c.args.self.now) (view_with c.args.self.now c.add.new.self))
    (same _ _ _ _ _ _ (sym c.pool-3.ensures) (sym c.block-3.ensures) (c.from.ensures ∙ sym c.from-2.ensures) ∙ sym c.of.ensures)
    (block.inc-it c.args.self.now c.add.new.self c.inc.result c.add.ensures.gains c.add.ensures.spare c.args.h.now c.index_mut.result.now c.from.result (block-at c.args.self.now c.args.h.now.pool c.args.h.now.block c.place.result c.index_mut.result.now (held-block c.args.self.now c.args.h.now c.requires.stands) (c.place.ensures.value ∙ ap (λ x. block_place x c.block.result) c.pool.ensures ∙ ap (block_place c.args.h.now.pool) c.block.ensures) c.index_mut.ensures.value) (c.from.ensures ∙ c.make-name.ensures.name) (c.inc.ensures ∙ ap (λ x. record { of = c.args.self.now.by; body = Inc x c.block-2.result c.from.result }) c.pool-2.ensures ∙ ap (λ x. record { of = c.args.self.now.by; body = Inc c.args.h.now.pool x c.from.result }) c.block-2.ensures) c.requires.stands)
