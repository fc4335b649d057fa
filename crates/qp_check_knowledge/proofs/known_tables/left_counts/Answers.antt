use Rattle.std.proofs.Common.{◌≡◌, ◌∙◌, ◌+◌, ◌++◌, ap, sym, arith, drop, take, length}
use Rattle.qp_model.specs.Record.{item_of}
use Rattle.qp_model.specs.Machine.{after, after_from}
use Rattle.qp_model.specs.References.{references, refs_next}
use Rattle.qp_model.proofs.MachineLemmas.{after-append}
use Rattle.qp_check_knowledge.specs.KnownTables.{left_counts, values_from}
use Rattle.qp_check_lanes.proofs.WalkLemmas.{front_seen, rest_seen, rest_none}
use Rattle.qp_check_knowledge.proofs.KnownTableLemmas.{counted-each, values-next, values-last}
use Rattle.qp_check_knowledge.proofs.known_tables.left_counts.Goals as goal

pub loop-r-init : goal.loop-r-init
unfolding after after_from left_counts
loop-r-init c = record {
  counted = c.none-standing.ensures;
  rest = ap (λ xs. xs ++ left_counts c.args.history.now) (sym c.new-counts.ensures.items);
  few = omega (arith, c.none-standing.ensures.all);
}

pub apply-requires-clause-each : goal.apply-requires-clause-each
apply-requires-clause-each c q =
    counted-each (after references (take c.loop-r.r-index c.args.history.now)) c.loop-r.standing.counts c.loop-r.standing.counts c.loop-r.standing.total c.loop-r.invariant.counted q

pub loop-r-preserved : goal.loop-r-preserved
unfolding item_of
loop-r-preserved c =
    let i = c.loop-r.r-index in
    let h = c.args.history.now in
    let begins = rest_seen (λ r. item_of r.now) c.history.view_is c.deref-r-items.ensures.value i c.r-item.result c.loop-r-test.true c.r-item.is in
    let grows = front_seen (λ r. item_of r.now) c.history.view_is c.deref-r-items.ensures.value i c.r-item.result c.loop-r-test.true c.r-item.is in
    let s = after references (take i h) in
    let item = item_of c.r-item.result.now in
    let next : after references (take (i + 1) h) ≡ references.next s item = ap (after references) grows ∙ after-append references (take i h) item in
    let moved : references.next s item ≡ refs_next s c.body.result = ap (refs_next s) (sym c.body.ensures) in
    record {
      counted = rw (next, moved) (c.in_ok-apply.ensures.counted s c.loop-r.invariant.counted);
      rest =
          values-next references (λ s. length s.names) c.loop-r.counts.items (left_counts h) s (drop i h) c.loop-r.invariant.rest c.loop-r.standing.total c.loop-r.invariant.counted.all
          (drop (i + 1) h) item begins (after references (take (i + 1) h)) next
          ∙ ap (λ xs. xs ++ values_from references (λ s. length s.names) (after references (take (i + 1) h)) (drop (i + 1) h)) (sym c.in_ok-push.ensures.items);
      few = omega (arith, c.in_ok-apply.ensures.bounded, c.loop-r.invariant.few);
    }

pub returns : goal.returns
returns c =
    let h = c.args.history.now in
    let s = after references (take c.loop-r.r-index h) in
    let none = rest_none (λ r. item_of r.now) c.history.view_is c.deref-r-items.ensures.value c.loop-r.r-index c.loop-r-test.false in
    c.in_ok-push-2.ensures.items
    ∙ values-last references (λ s. length s.names) c.loop-r.counts.items (left_counts h) s (drop c.loop-r.r-index h) c.loop-r.invariant.rest c.loop-r.standing.total c.loop-r.invariant.counted.all none
