use Rattle.std.proofs.Common.{◌≡◌, ◌∙◌, ◌∷◌, [], ◌++◌, length, sym, ap, subst, append_assoc, arith}
use Rattle.std.specs.Vec.Iter.{into_iter_items}
use Rattle.qp_table.specs.Counting.{Each}
use Rattle.qp_table.specs.After.{views_joined}
use Rattle.qp_side.specs.Told.{both_of}
use Rattle.qp_shared_ends.specs.Joining.{side_of, table_of}
use Rattle.qp_shared.specs.Ending.{IsOn, lane_states}
use Rattle.qp_shared.proofs.Handing.{each-mid, joined-more, both-more, recs-more}
use Rattle.qp_shared.proofs.ending.gather.Goals as goal

pub take_in-its-requires-clause-on : goal.take_in-its-requires-clause-on
take_in-its-requires-clause-on c =
    let at = c.loop-lane in
    let all = at.invariant.0 ∙ c.into_iter-lane-iterator.ensures.into_iter_gives.0 in
    let steps : into_iter_items at.lane-iterator ≡ c.in-Some.lane ∷ into_iter_items c.next.new.self = c.in-Some.ensures.steps.0 in
    each-mid (IsOn c.args.words.now.shared.table_id c.args.side.now.shared.table_id) at.yielded c.in-Some.lane (into_iter_items c.next.new.self)
    (subst (λ xs. Each (IsOn c.args.words.now.shared.table_id c.args.side.now.shared.table_id) (lane_states xs)) (sym all ∙ ap (λ xs. at.yielded ++ xs) steps) c.requires.on)

pub loop-lane-preserved : goal.loop-lane-preserved
loop-lane-preserved c =
    let at = c.loop-lane in
    let steps : into_iter_items at.lane-iterator ≡ c.in-Some.lane ∷ into_iter_items c.next.new.self = c.in-Some.ensures.steps.0 in (
      append_assoc at.yielded (c.in-Some.lane ∷ []) _ ∙ rw (← steps) at.invariant.0,
      (let was = at.invariant.1 in let gone = c.in-Some.ensures.steps.1 in let short = ap length steps in omega arith),
      recs-more at.yielded c.in-Some.lane c.args.room.items at.records.items _ at.invariant.2 (c.push_reserved.ensures.items ∙ ap (λ x. at.records.items ++ x ∷ []) c.take_in-its.ensures.records),
      c.push_reserved.ensures.capacity ∙ at.invariant.3,
      c.take_in-its.ensures.own ∙ at.invariant.4,
      c.take_in-its.ensures.beside ∙ at.invariant.5,
      c.take_in-its.ensures.table ∙ (ap (λ v. views_joined v (table_of c.in-Some.lane.state)) at.invariant.6 ∙ sym (joined-more at.yielded c.in-Some.lane c.args.seat.now.me.0)),
      c.take_in-its.ensures.side ∙ (ap (λ v. both_of v (side_of c.in-Some.lane.state)) at.invariant.7 ∙ sym (both-more at.yielded c.in-Some.lane c.args.beside.now.me.0)),
    )
