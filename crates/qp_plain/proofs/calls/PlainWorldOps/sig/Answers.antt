use Rattle.std.proofs.Common.{◌≡◌, sym, ◌∙◌, ap, subst, arith}
use Rattle.qp_plain_sound.specs.View.{view_of}
use Rattle.qp_plain.specs.declared.world.PlainWorld.{PlainWorld}
use Rattle.qp_plain.specs.Tables.{block_place}
use Rattle.qp_plain.specs.WorldView.{world_view}
use Rattle.qp_plain.proofs.Holding.{block-in}
use Rattle.qp_plain.proofs.Mays.{held-block}
use Rattle.qp_calls.specs.Clauses.{IsEvent}
use Rattle.qp_model.specs.Told.{Event}
use Rattle.qp_plain.proofs.EventCalls.{event-here}
use Rattle.qp_plain.proofs.calls.PlainWorldOps.sig.Goals as goal

pub place-requires-clause-pools : goal.place-requires-clause-pools
place-requires-clause-pools c = let there = block-in c.args.self.now.sys.now c.args.self.now.holds.limits c.args.h.now.pool c.args.h.now.block (held-block c.args.self.now c.args.h.now c.requires.stands) in omega (arith, there.pools, c.pool.ensures)

pub place-requires-clause-blocks : goal.place-requires-clause-blocks
place-requires-clause-blocks c = let there = block-in c.args.self.now.sys.now c.args.self.now.holds.limits c.args.h.now.pool c.args.h.now.block (held-block c.args.self.now c.args.h.now c.requires.stands) in omega (arith, there.blocks, c.block.ensures)

pub returns-clause-value : goal.returns-clause-value
returns-clause-value c = sym (ap (λ x. x.sig) (event-here c.args.self.now c.args.h.now c.place.result c.index.result.now c.requires.stands (c.place.ensures.value ∙ ap (λ x. block_place x c.block.result) c.pool.ensures ∙ ap (block_place c.args.h.now.pool) c.block.ensures) c.index.ensures).0)

good : (w : PlainWorld) (ev : Event) {x : Event} → x ≡ ev → IsEvent w.sys.now ev → IsEvent (world_view w).sys x
unfolding view_of
good w ev is h = subst (IsEvent w.sys.now) (sym is) h

pub returns-clause-event : goal.returns-clause-event
returns-clause-event c = good c.args.self.now _ (event-here c.args.self.now c.args.h.now c.place.result c.index.result.now c.requires.stands (c.place.ensures.value ∙ ap (λ x. block_place x c.block.result) c.pool.ensures ∙ ap (block_place c.args.h.now.pool) c.block.ensures) c.index.ensures).0 (event-here c.args.self.now c.args.h.now c.place.result c.index.result.now c.requires.stands (c.place.ensures.value ∙ ap (λ x. block_place x c.block.result) c.pool.ensures ∙ ap (block_place c.args.h.now.pool) c.block.ensures) c.index.ensures).1
