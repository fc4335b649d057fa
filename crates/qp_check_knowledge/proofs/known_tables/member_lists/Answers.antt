use Rattle.std.proofs.Common.{◌∙◌, ◌+◌, ◌++◌, refl, ap, sym, arith, drop}
use Rattle.qp_model.specs.Record.{item_of}
use Rattle.qp_model.specs.Subscribers.{Subscribers, subscribers, subscribers_next}
use Rattle.qp_check_knowledge.specs.KnownTables.{member_lists, values_from}
use Rattle.qp_check_lanes.proofs.WalkLemmas.{rest_seen, rest_none}
use Rattle.qp_check_knowledge.proofs.KnownTableLemmas.{values-next, values-last}
use Rattle.qp_check_knowledge.proofs.known_tables.member_lists.Goals as goal

pub loop-r-init : goal.loop-r-init
unfolding member_lists
loop-r-init c = record {
  rest = rw (c.new-lists.ensures.items, c.new-members.ensures.0, c.new-members.ensures.1) refl;
  counted = omega (arith, c.new-members.ensures.0);
}

pub loop-r-preserved : goal.loop-r-preserved
unfolding item_of
loop-r-preserved c =
    let i = c.loop-r.r-index in
    let h = c.args.history.now in
    let o = c.r-item.result.now.of in
    let s : Subscribers = record { count = c.loop-r.members.count; members = c.loop-r.members.members.items } in
    let t : Subscribers = record { count = c.apply.new.self.count; members = c.apply.new.self.members.items } in
    let begins = rest_seen (λ r. item_of r.now) c.history.view_is c.deref-r-items.ensures.value i c.r-item.result c.loop-r-test.true c.r-item.is in
    record {
      rest =
          values-next subscribers (λ s. s.members) c.loop-r.lists.items (member_lists h) s (drop i h) c.loop-r.invariant.rest c.in_ok-listed.field-0 c.in_ok-listed.ensures
          (drop (i + 1) h) (item_of c.r-item.result.now) begins t (c.in_ok-apply.ensures.next ∙ ap (subscribers_next s o) c.body.ensures)
          ∙ ap (λ xs. xs ++ values_from subscribers (λ s. s.members) t (drop (i + 1) h)) (sym c.in_ok-push.ensures.items);
      counted = omega (arith, c.in_ok-apply.ensures.counted, c.loop-r.invariant.counted);
    }

pub returns : goal.returns
returns c =
    let h = c.args.history.now in
    let s : Subscribers = record { count = c.loop-r.members.count; members = c.loop-r.members.members.items } in
    let none = rest_none (λ r. item_of r.now) c.history.view_is c.deref-r-items.ensures.value c.loop-r.r-index c.loop-r-test.false in
    c.in_ok-push-2.ensures.items
    ∙ values-last subscribers (λ s. s.members) c.loop-r.lists.items (member_lists h) s (drop c.loop-r.r-index h) c.loop-r.invariant.rest c.in_ok-listed-2.field-0 c.in_ok-listed-2.ensures none
