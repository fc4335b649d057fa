use Rattle.std.proofs.Common.{ℕ, List, length, sym, ◌∙◌, ap, arith}
use Rattle.qp_plain.specs.Tables.{block_place}
use Rattle.qp_plain.proofs.Holding.{block-in}
use Rattle.qp_plain.proofs.Mays.{held-block}
use Rattle.std.proofs.lemmas.Option.{slice_get-get_or}
use Rattle.std.proofs.Common.{slice_get}
use Rattle.qp_plain.proofs.EventCalls.{event-here}
use Rattle.qp_plain.proofs.calls.PlainWorldOps.par.Goals as goal

pub place-requires-clause-pools : goal.place-requires-clause-pools
place-requires-clause-pools c = let there = block-in c.args.self.now.sys.now c.args.self.now.holds.limits c.args.h.now.pool c.args.h.now.block (held-block c.args.self.now c.args.h.now c.requires.stands) in omega (arith, there.pools, c.pool.ensures)

pub place-requires-clause-blocks : goal.place-requires-clause-blocks
place-requires-clause-blocks c = let there = block-in c.args.self.now.sys.now c.args.self.now.holds.limits c.args.h.now.pool c.args.h.now.block (held-block c.args.self.now c.args.h.now c.requires.stands) in omega (arith, there.blocks, c.block.ensures)

pub bounds-as_slice-j : goal.bounds-as_slice-j
bounds-as_slice-j c =
    let long = ap (λ x. length x.pars) (event-here c.args.self.now c.args.h.now c.place.result c.index.result.now c.requires.stands (c.place.ensures.value ∙ ap (λ x. block_place x c.block.result) c.pool.ensures ∙ ap (block_place c.args.h.now.pool) c.block.ensures) c.index.ensures).0 in
    let slice = ap (λ (xs : List ℕ). length xs) c.as_slice.ensures.value in
    omega (arith, c.requires.within, long, slice)

pub offset_bounds-as_slice-j : goal.offset_bounds-as_slice-j
offset_bounds-as_slice-j c =
    let long = ap (λ x. length x.pars) (event-here c.args.self.now c.args.h.now c.place.result c.index.result.now c.requires.stands (c.place.ensures.value ∙ ap (λ x. block_place x c.block.result) c.pool.ensures ∙ ap (block_place c.args.h.now.pool) c.block.ensures) c.index.ensures).0 in
    let slice = ap (λ (xs : List ℕ). length xs) c.as_slice.ensures.value in
    record { fits = omega (arith, c.requires.within, long, slice, c.as_slice.ensures.fits) }

pub returns-clause-value : goal.returns-clause-value
returns-clause-value c =
    let long = ap (λ x. length x.pars) (event-here c.args.self.now c.args.h.now c.place.result c.index.result.now c.requires.stands (c.place.ensures.value ∙ ap (λ x. block_place x c.block.result) c.pool.ensures ∙ ap (block_place c.args.h.now.pool) c.block.ensures) c.index.ensures).0 in
    let slice = ap (λ (xs : List ℕ). length xs) c.as_slice.ensures.value in
    ap (λ x. slice_get x.pars c.args.j) (event-here c.args.self.now c.args.h.now c.place.result c.index.result.now c.requires.stands (c.place.ensures.value ∙ ap (λ x. block_place x c.block.result) c.pool.ensures ∙ ap (block_place c.args.h.now.pool) c.block.ensures) c.index.ensures).0 ∙ ap (λ xs. slice_get xs c.args.j) (sym c.as_slice.ensures.value)
    ∙ slice_get-get_or c.as_slice.result.now c.args.j 0 (omega (arith, c.requires.within, long, slice))
