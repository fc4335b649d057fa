use Rattle.std.proofs.Common.{ap, subst, ◌∙◌}
use Rattle.qp_table.specs.Told.{LookTold}
use Rattle.qp_table.specs.declared.view.View.{View}
use Rattle.qp_shared_lane.proofs.Used.{ends-same}
use Rattle.qp_shared_queues.proofs.Lane.{object-key}
use Rattle.qp_shared_queues.proofs.Looking.{counted-holds, counted-for}
use Rattle.qp_shared_queues.proofs.looks.counts.Goals as goal

pub look_at_queue-found-requires-clause-object : goal.look_at_queue-found-requires-clause-object
look_at_queue-found-requires-clause-object c = object-key c.args.lane.now c.args.p c.requires.object

pub invariant_of-lane-clause-own : goal.invariant_of-lane-clause-own
invariant_of-lane-clause-own c = c.look_at_queue-found.ensures.same.0 ∙ c.args.lane.now.own

pub invariant_of-lane-clause-ended : goal.invariant_of-lane-clause-ended
invariant_of-lane-clause-ended c = let l = c.args.lane.now in
    ends-same l.ends.at l.seat.me.0 c.look_at_queue-found.new.seat.me.0 (ap (λ (z : View). z.used) c.look_at_queue-found.ensures.told.0) l.ended

pub invariant_of-lane-clause-holds : goal.invariant_of-lane-clause-holds
invariant_of-lane-clause-holds c = let l = c.args.lane.now in
    let told = subst (λ s. LookTold s c.args.p l.seat.me.0 c.look_at_queue-found.result c.look_at_queue-found.new.seat.me.0) l.key c.look_at_queue-found.ensures.told in
    counted-holds l c.args.p c.look_at_queue-found.result c.look_at_queue-found.new.seat.me.0 told.0 told.1

pub returns-clause-counted : goal.returns-clause-counted
returns-clause-counted c = let l = c.args.lane.now in
    let told = subst (λ s. LookTold s c.args.p l.seat.me.0 c.look_at_queue-found.result c.look_at_queue-found.new.seat.me.0) l.key c.look_at_queue-found.ensures.told in
    counted-for l c.args.p c.look_at_queue-found.result c.look_at_queue-found.new.seat.me.0 told.0 told.1 c.counts_in.result c.counts_in.ensures

pub returns-clause-now : goal.returns-clause-now
returns-clause-now c = (c.look_at_queue-found.result, ap (λ (z : View). z.seen) c.look_at_queue-found.ensures.told.0, c.counts_in.ensures)
