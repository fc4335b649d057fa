use Rattle.std.proofs.Common.{ap, subst, ◌∙◌}
use Rattle.qp_table.specs.Told.{SeenTold}
use Rattle.qp_table.specs.declared.view.View.{View}
use Rattle.qp_shared_lane.proofs.Used.{ends-same}
use Rattle.qp_shared_queues.proofs.Lane.{object-key, spare-is, room}
use Rattle.qp_shared_queues.proofs.Looking.{seen-holds, sees-for}
use Rattle.qp_shared_queues.proofs.looks.seen.Goals as goal

pub see_queue-found-requires-clause-object : goal.see_queue-found-requires-clause-object
see_queue-found-requires-clause-object c = object-key c.args.lane.now c.args.p c.requires.object

pub see_queue-found-requires-clause-room : goal.see_queue-found-requires-clause-room
see_queue-found-requires-clause-room c = room c.args.lane.now c.requires.room

pub put-requires-clause-room : goal.put-requires-clause-room
put-requires-clause-room c = spare-is c.args.lane.now c.requires.room

pub invariant_of-lane-clause-own : goal.invariant_of-lane-clause-own
invariant_of-lane-clause-own c = c.see_queue-found.ensures.same.0 ∙ c.args.lane.now.own

pub invariant_of-lane-clause-ended : goal.invariant_of-lane-clause-ended
invariant_of-lane-clause-ended c = let l = c.args.lane.now in
    ends-same l.ends.at l.seat.me.0 c.see_queue-found.new.seat.me.0 (ap (λ (z : View). z.used) c.see_queue-found.ensures.told.0) l.ended

pub invariant_of-lane-clause-holds : goal.invariant_of-lane-clause-holds
invariant_of-lane-clause-holds c = let l = c.args.lane.now in
    seen-holds l c.args.p c.see_queue-found.result c.see_queue-found.new.seat.me.0 c.put.new.log c.put.new.numbers.list c.seen-rec.result
    (subst (λ s. SeenTold s c.args.p l.seat.me.0 c.see_queue-found.result c.see_queue-found.new.seat.me.0) l.key c.see_queue-found.ensures.told) c.put.ensures.put c.counts_in-now.result c.counts_in-now.ensures c.seen-rec.ensures

pub returns-clause-sees : goal.returns-clause-sees
returns-clause-sees c = let l = c.args.lane.now in
    sees-for l c.args.p c.see_queue-found.result c.see_queue-found.new.seat.me.0 c.put.new.log c.put.new.numbers.list c.seen-rec.result
    (subst (λ s. SeenTold s c.args.p l.seat.me.0 c.see_queue-found.result c.see_queue-found.new.seat.me.0) l.key c.see_queue-found.ensures.told) c.put.ensures.put c.counts_in-now.result c.counts_in-now.ensures c.seen-rec.ensures c.put.ensures.spare

pub returns-clause-now : goal.returns-clause-now
returns-clause-now c = (c.see_queue-found.result, ap (λ (z : View). z.seen) c.see_queue-found.ensures.told.0, c.counts_in-now.ensures)
