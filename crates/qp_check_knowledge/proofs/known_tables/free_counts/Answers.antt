use Rattle.std.proofs.Common.{◌∙◌, ◌+◌, ◌++◌, ap, sym, arith, drop, length}
use Rattle.qp_model.specs.Record.{item_of}
use Rattle.qp_model.specs.FreeBlocks.{Pool, free_blocks, pool_next}
use Rattle.qp_check_knowledge.specs.KnownTables.{free_counts, values_from}
use Rattle.qp_check_lanes.proofs.WalkLemmas.{rest_seen, rest_none}
use Rattle.qp_check_knowledge.proofs.KnownTableLemmas.{values-next, values-last}
use Rattle.qp_check_knowledge.proofs.known_tables.free_counts.Goals as goal

pub loop-r-preserved : goal.loop-r-preserved
unfolding item_of
loop-r-preserved c =
    let i = c.loop-r.r-index in
    let h = c.args.history.now in
    let m = free_blocks c.args.blocks in
    let s : Pool = record { count = c.loop-r.free.count; free = c.loop-r.free.free.keys } in
    let t : Pool = record { count = c.apply.new.self.count; free = c.apply.new.self.free.keys } in
    let begins = rest_seen (λ r. item_of r.now) c.history.view_is c.deref-r-items.ensures.value i c.r-item.result c.loop-r-test.true c.r-item.is in
    record {
      same = c.in_ok-apply.ensures.same ∙ c.loop-r.invariant.same;
      rest =
          values-next m (λ s. length s.free) c.loop-r.counts.items (free_counts c.args.blocks h) s (drop i h) c.loop-r.invariant.rest c.left.result c.left.ensures
          (drop (i + 1) h) (item_of c.r-item.result.now) begins t (c.in_ok-apply.ensures.next ∙ ap (pool_next s) c.body.ensures)
          ∙ ap (λ xs. xs ++ values_from m (λ s. length s.free) t (drop (i + 1) h)) (sym c.in_ok-push.ensures.items);
      counted = omega (arith, c.in_ok-apply.ensures.counted, c.loop-r.invariant.counted);
    }

pub returns : goal.returns
returns c =
    let h = c.args.history.now in
    let s : Pool = record { count = c.loop-r.free.count; free = c.loop-r.free.free.keys } in
    let none = rest_none (λ r. item_of r.now) c.history.view_is c.deref-r-items.ensures.value c.loop-r.r-index c.loop-r-test.false in
    c.in_ok-push-2.ensures.items
    ∙ values-last (free_blocks c.args.blocks) (λ s. length s.free) c.loop-r.counts.items (free_counts c.args.blocks h) s (drop c.loop-r.r-index h) c.loop-r.invariant.rest c.left-2.result c.left-2.ensures none
