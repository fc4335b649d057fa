use Rattle.std.proofs.Common.{◌≡◌, ℕ, ◌<◌, true, sym, ◌∙◌, ap, subst, arith, IsTrue}
use Rattle.qp_plain_words.specs.declared.block.BlockWord.{BlockWord}
use Rattle.qp_plain_sound.specs.View.{view_of}
use Rattle.qp_model.specs.WordLaw.{is_block}
use Rattle.qp_plain.specs.declared.world.PlainWorld.{PlainWorld}
use Rattle.qp_plain.specs.Book.{lists_of}
use Rattle.qp_plain.specs.Tables.{block_place}
use Rattle.qp_plain.specs.WorldView.{world_view}
use Rattle.qp_plain.proofs.Calling.{view_with, stop-stays, block-at, BlockIs}
use Rattle.qp_plain.proofs.Holding.{block-in}
use Rattle.qp_plain.proofs.Mays.{held-block, held-stands}
use Rattle.qp_model.specs.declared.bodies.Body.TheVariants.{Dec}
use Rattle.qp_calls.specs.Clauses.{LetsGo}
use Rattle.qp_calls.specs.declared.answers.Dec.TheVariants as dec
use Rattle.qp_calls.specs.declared.tokens.Fresh.{Fresh}
use Rattle.qp_calls.specs.Tokens.{Held, stands}
use Rattle.qp_plain_sound.specs.Sound.{hands_in}
use Rattle.qp_plain.proofs.BlockCalls.{refs-some}
use Rattle.qp_plain.proofs.BlockCalls as block
use Rattle.qp_plain.proofs.BlockTable.{put, small}
use Rattle.qp_plain.proofs.calls.PlainWorldOps.dec.Goals as goal

pub place-requires-clause-pools : goal.place-requires-clause-pools
place-requires-clause-pools c = let there = block-in c.args.self.now.sys.now c.args.self.now.holds.limits c.args.h.pool c.args.h.block (held-block c.args.self.now c.args.h c.requires.stands) in omega (arith, there.pools, c.pool.ensures)

pub place-requires-clause-blocks : goal.place-requires-clause-blocks
place-requires-clause-blocks c = let there = block-in c.args.self.now.sys.now c.args.self.now.holds.limits c.args.h.pool c.args.h.block (held-block c.args.self.now c.args.h c.requires.stands) in omega (arith, there.blocks, c.block.ensures)

pub drop_one-d-requires-clause-ops : goal.drop_one-d-requires-clause-ops
drop_one-d-requires-clause-ops c = small c.args.self.now c.args.h.pool c.args.h.block c.index_mut-word.result.now (held-block c.args.self.now c.args.h c.requires.stands) (block-at c.args.self.now c.args.h.pool c.args.h.block c.place.result c.index_mut-word.result.now (held-block c.args.self.now c.args.h c.requires.stands) (c.place.ensures.value ∙ ap (λ x. block_place x c.block.result) c.pool.ensures ∙ ap (block_place c.args.h.pool) c.block.ensures) c.index_mut-word.ensures.value)

some : (w : PlainWorld) (p k : ℕ) (q : BlockWord) → IsTrue (is_block w.sys.now p k) → BlockIs w p k q → (n : ℕ) → IsTrue (stands (Held p k n) (hands_in w.sys.now (lists_of w.book) w.book.order.items)) → 0 < q.refs
some w p k q h is n held = refs-some w p k q h is n held

pub drop_one-d-requires-clause-some : goal.drop_one-d-requires-clause-some
drop_one-d-requires-clause-some c = some c.args.self.now c.args.h.pool c.args.h.block c.index_mut-word.result.now (held-block c.args.self.now c.args.h c.requires.stands) (block-at c.args.self.now c.args.h.pool c.args.h.block c.place.result c.index_mut-word.result.now (held-block c.args.self.now c.args.h c.requires.stands) (c.place.ensures.value ∙ ap (λ x. block_place x c.block.result) c.pool.ensures ∙ ap (block_place c.args.h.pool) c.block.ensures) c.index_mut-word.ensures.value) c.args.h.name (held-stands c.args.self.now c.args.h c.requires.stands)

pub add-requires-clause-room : goal.add-requires-clause-room
unfolding view_of
add-requires-clause-room c = c.requires.room

pub invariant_of-self : goal.invariant_of-self
invariant_of-self c = record {
  holds = put c.args.self.now c.add.new.self c.args.h.pool c.args.h.block c.place.result c.drop_one-d.new.self (c.place.ensures.value ∙ ap (λ x. block_place x c.block.result) c.pool.ensures ∙ ap (block_place c.args.h.pool) c.block.ensures) (block.dec-holds c.args.self.now c.add.new.self c.dec.result c.add.ensures.gains c.args.h.pool c.args.h.block c.from.result c.index_mut-word.result.now (held-block c.args.self.now c.args.h c.requires.stands) (block-at c.args.self.now c.args.h.pool c.args.h.block c.place.result c.index_mut-word.result.now (held-block c.args.self.now c.args.h c.requires.stands) (c.place.ensures.value ∙ ap (λ x. block_place x c.block.result) c.pool.ensures ∙ ap (block_place c.args.h.pool) c.block.ensures) c.index_mut-word.ensures.value) (c.from.ensures ∙ c.drop_one-d.ensures.number) c.args.h.name c.drop_one-d.new.self (held-stands c.args.self.now c.args.h c.requires.stands) (c.dec.ensures ∙ ap (λ x. record { of = c.args.self.now.by; body = Dec x c.block-2.result c.from.result c.name.result }) c.pool-2.ensures
      ∙ ap (λ x. record { of = c.args.self.now.by; body = Dec c.args.h.pool x c.from.result c.name.result }) c.block-2.ensures ∙ ap (λ x. record { of = c.args.self.now.by; body = Dec c.args.h.pool c.args.h.block c.from.result x }) c.name.ensures) c.drop_one-d.ensures.ops c.drop_one-d.ensures.refs);
  stops = stop-stays c.args.self.now.stop c.args.self.now.book c.add.new.self c.add.ensures.gains.stays c.args.self.now.stops;
}

same : (p q b c : ℕ) → p ≡ q → b ≡ c → ◌≡◌ {A = Fresh} (record { pool = p; block = b; used = true }) (record { pool = q; block = c; used = true })
same p q b c e f = ap (λ x. record { pool = x; block = b; used = true }) e ∙ ap (λ x. record { pool = q; block = x; used = true }) f

pub returns-then-left-eq0 : goal.returns-then-left-eq0
returns-then-left-eq0 c =
    subst (λ x. LetsGo c.args.h (world_view c.args.self.now) (view_with c.args.self.now c.add.new.self) (dec.Last x))
    (same _ _ _ _ (sym c.pool-then-left-eq0.ensures) (sym c.block-then-left-eq0.ensures) ∙ sym c.of.ensures)
    (block.dec-last-it c.args.self.now c.add.new.self c.dec.result c.add.ensures.gains c.add.ensures.spare c.args.h c.index_mut-word.result.now c.from.result c.drop_one-d.new.self.refs (block-at c.args.self.now c.args.h.pool c.args.h.block c.place.result c.index_mut-word.result.now (held-block c.args.self.now c.args.h c.requires.stands) (c.place.ensures.value ∙ ap (λ x. block_place x c.block.result) c.pool.ensures ∙ ap (block_place c.args.h.pool) c.block.ensures) c.index_mut-word.ensures.value) (c.from.ensures ∙ c.drop_one-d.ensures.number) c.drop_one-d.ensures.refs c.if-left-eq0.true (c.dec.ensures ∙ ap (λ x. record { of = c.args.self.now.by; body = Dec x c.block-2.result c.from.result c.name.result }) c.pool-2.ensures
    ∙ ap (λ x. record { of = c.args.self.now.by; body = Dec c.args.h.pool x c.from.result c.name.result }) c.block-2.ensures ∙ ap (λ x. record { of = c.args.self.now.by; body = Dec c.args.h.pool c.args.h.block c.from.result x }) c.name.ensures) c.requires.stands)

pub returns-else-left-eq0 : goal.returns-else-left-eq0
returns-else-left-eq0 c =
    block.dec-kept-it c.args.self.now c.add.new.self c.dec.result c.add.ensures.gains c.add.ensures.spare c.args.h c.index_mut-word.result.now c.from.result c.drop_one-d.new.self.refs (block-at c.args.self.now c.args.h.pool c.args.h.block c.place.result c.index_mut-word.result.now (held-block c.args.self.now c.args.h c.requires.stands) (c.place.ensures.value ∙ ap (λ x. block_place x c.block.result) c.pool.ensures ∙ ap (block_place c.args.h.pool) c.block.ensures) c.index_mut-word.ensures.value) (c.from.ensures ∙ c.drop_one-d.ensures.number) c.drop_one-d.ensures.refs c.if-left-eq0.false (c.dec.ensures ∙ ap (λ x. record { of = c.args.self.now.by; body = Dec x c.block-2.result c.from.result c.name.result }) c.pool-2.ensures
    ∙ ap (λ x. record { of = c.args.self.now.by; body = Dec c.args.h.pool x c.from.result c.name.result }) c.block-2.ensures ∙ ap (λ x. record { of = c.args.self.now.by; body = Dec c.args.h.pool c.args.h.block c.from.result x }) c.name.ensures) c.requires.stands
