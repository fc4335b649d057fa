use Rattle.std.proofs.Common.{refl, sym, ◌∙◌, ap, subst, arith}
use Rattle.qp_plain_sound.specs.View.{view_of}
use Rattle.qp_plain.specs.Tables.{block_place}
use Rattle.qp_plain.specs.WorldView.{world_view}
use Rattle.qp_plain.proofs.Calling.{view_with, stop-stays, block-at}
use Rattle.qp_plain.proofs.Holding.{block-in}
use Rattle.qp_plain.proofs.Mays.{fresh-block}
use Rattle.qp_model.specs.declared.bodies.Body.TheVariants.{Inc}
use Rattle.qp_calls.specs.Clauses.{Makes}
use Rattle.qp_plain.proofs.BlockCalls as block
use Rattle.qp_plain.proofs.BlockTable.{put, small, small-refs, same}
use Rattle.qp_plain.proofs.calls.PlainWorldOps.first.Goals as goal

pub place-requires-clause-pools : goal.place-requires-clause-pools
place-requires-clause-pools c = let there = block-in c.args.self.now.sys.now c.args.self.now.holds.limits c.args.f.pool c.args.f.block (fresh-block c.args.self.now c.args.f c.requires.stands) in omega (arith, there.pools, c.pool.ensures)

pub place-requires-clause-blocks : goal.place-requires-clause-blocks
place-requires-clause-blocks c = let there = block-in c.args.self.now.sys.now c.args.self.now.holds.limits c.args.f.pool c.args.f.block (fresh-block c.args.self.now c.args.f c.requires.stands) in omega (arith, there.blocks, c.block.ensures)

pub make-name-requires-clause-ops : goal.make-name-requires-clause-ops
make-name-requires-clause-ops c = small c.args.self.now c.args.f.pool c.args.f.block c.index_mut.result.now (fresh-block c.args.self.now c.args.f c.requires.stands) (block-at c.args.self.now c.args.f.pool c.args.f.block c.place.result c.index_mut.result.now (fresh-block c.args.self.now c.args.f c.requires.stands) (c.place.ensures.value ∙ ap (λ x. block_place x c.block.result) c.pool.ensures ∙ ap (block_place c.args.f.pool) c.block.ensures) c.index_mut.ensures.value)

pub make-name-requires-clause-refs : goal.make-name-requires-clause-refs
make-name-requires-clause-refs c = small-refs c.args.self.now c.args.f.pool c.args.f.block c.index_mut.result.now (fresh-block c.args.self.now c.args.f c.requires.stands) (block-at c.args.self.now c.args.f.pool c.args.f.block c.place.result c.index_mut.result.now (fresh-block c.args.self.now c.args.f c.requires.stands) (c.place.ensures.value ∙ ap (λ x. block_place x c.block.result) c.pool.ensures ∙ ap (block_place c.args.f.pool) c.block.ensures) c.index_mut.ensures.value)

pub add-requires-clause-room : goal.add-requires-clause-room
unfolding view_of
add-requires-clause-room c = c.requires.room

pub invariant_of-self : goal.invariant_of-self
invariant_of-self c = record {
  holds = put c.args.self.now c.add.new.self c.args.f.pool c.args.f.block c.place.result c.make-name.new.self (c.place.ensures.value ∙ ap (λ x. block_place x c.block.result) c.pool.ensures ∙ ap (block_place c.args.f.pool) c.block.ensures) (block.first-holds c.args.self.now c.add.new.self c.inc.result c.add.ensures.gains c.args.f.pool c.args.f.block c.from.result c.index_mut.result.now (fresh-block c.args.self.now c.args.f c.requires.stands) (block-at c.args.self.now c.args.f.pool c.args.f.block c.place.result c.index_mut.result.now (fresh-block c.args.self.now c.args.f c.requires.stands) (c.place.ensures.value ∙ ap (λ x. block_place x c.block.result) c.pool.ensures ∙ ap (block_place c.args.f.pool) c.block.ensures) c.index_mut.ensures.value) (c.from.ensures ∙ c.make-name.ensures.name) c.args.f c.make-name.new.self refl refl c.requires.stands c.requires.unused (c.inc.ensures ∙ ap (λ x. record { of = c.args.self.now.by; body = Inc x c.block-2.result c.from.result }) c.pool-2.ensures ∙ ap (λ x. record { of = c.args.self.now.by; body = Inc c.args.f.pool x c.from.result }) c.block-2.ensures) c.make-name.ensures.new);
  stops = stop-stays c.args.self.now.stop c.args.self.now.book c.add.new.self c.add.ensures.gains.stays c.args.self.now.stops;
}

pub returns : goal.returns
returns c =
    subst (Makes c.args.f.pool c.args.f.block 1 (world_view c.args.self.now) (view_with c.args.self.now c.add.new.self))
    (same _ _ _ _ _ _ (sym c.pool-3.ensures) (sym c.block-3.ensures) (c.from.ensures ∙ sym c.from-2.ensures) ∙ sym c.of.ensures)
    (block.first-it c.args.self.now c.add.new.self c.inc.result c.add.ensures.gains c.add.ensures.spare c.args.f c.index_mut.result.now c.from.result (block-at c.args.self.now c.args.f.pool c.args.f.block c.place.result c.index_mut.result.now (fresh-block c.args.self.now c.args.f c.requires.stands) (c.place.ensures.value ∙ ap (λ x. block_place x c.block.result) c.pool.ensures ∙ ap (block_place c.args.f.pool) c.block.ensures) c.index_mut.ensures.value) (c.from.ensures ∙ c.make-name.ensures.name) (c.inc.ensures ∙ ap (λ x. record { of = c.args.self.now.by; body = Inc x c.block-2.result c.from.result }) c.pool-2.ensures ∙ ap (λ x. record { of = c.args.self.now.by; body = Inc c.args.f.pool x c.from.result }) c.block-2.ensures) c.requires.stands c.requires.unused)
