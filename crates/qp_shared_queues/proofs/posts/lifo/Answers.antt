use Rattle.std.proofs.Common.{◌+◌, ◌≤◌, ap, sym, subst, ◌∙◌}
use Rattle.qp_model.specs.declared.systems.System.{System}
use Rattle.qp_model.specs.declared.bodies.Entry as model
use Rattle.qp_model.specs.declared.words.Word.TheVariants as word
use Rattle.qp_model.specs.Record.{entry}
use Rattle.qp_model.specs.Sites.{ring_of}
use Rattle.qp_table.specs.Rule.{queue_at, mark_in}
use Rattle.qp_calls.specs.declared.answers.Counts as counts
use Rattle.qp_table.specs.Words.{value_seen}
use Rattle.qp_shared_loops.specs.Ends.{PostFirstEnds}
use Rattle.qp_shared_queues.specs.Bodies.{lifo_body}
use Rattle.qp_shared_queues.proofs.Used.{lifo-ended}
use Rattle.qp_shared_queues.proofs.Lane.{by-object-key, by-object-small, by-serves, idle, no-claim, spare-is, room}
use Rattle.qp_shared_queues.proofs.Entries.{stands-in, in-hand-by, codable-by}
use Rattle.qp_shared_queues.proofs.Claiming.{AnswerIs}
use Rattle.qp_shared_queues.proofs.LastIn.{lifo-holds, lifos-for, lifo-tries}
use Rattle.qp_shared_queues.proofs.posts.lifo.Goals as goal

pub ring_of-ring-requires : goal.ring_of-ring-requires
ring_of-ring-requires g c = by-object-small c.args.lane.now c.requires.object

pub post_entry_last_in-found-requires-clause-object : goal.post_entry_last_in-found-requires-clause-object
post_entry_last_in-found-requires-clause-object g c = by-object-key c.args.lane.now c.requires.object

pub post_entry_last_in-found-requires-clause-low : goal.post_entry_last_in-found-requires-clause-low
post_entry_last_in-found-requires-clause-low g c = by-object-small c.args.lane.now c.requires.object

pub post_entry_last_in-found-requires-clause-ring : goal.post_entry_last_in-found-requires-clause-ring
post_entry_last_in-found-requires-clause-ring g c = c.ring_of-ring.ensures ∙ ap (λ k. ring_of k c.args.lane.now.by) (c.args.lane.now.rings_key ∙ sym c.args.lane.now.key)

pub post_entry_last_in-found-requires-clause-room : goal.post_entry_last_in-found-requires-clause-room
post_entry_last_in-found-requires-clause-room g c = room c.args.lane.now c.requires.room

pub post_entry_last_in-found-requires-clause-hand : goal.post_entry_last_in-found-requires-clause-hand
post_entry_last_in-found-requires-clause-hand g c = in-hand-by c.args.lane.now c.args.e (entry c.parts-pool.result.0 c.parts-pool.result.1 c.parts-pool.result.2) c.requires.stands c.parts-pool.ensures

pub post_entry_last_in-found-requires-clause-none : goal.post_entry_last_in-found-requires-clause-none
post_entry_last_in-found-requires-clause-none g c = no-claim c.args.lane.now c.args.lane.now.by

pub post_entry_last_in-found-requires-clause-codable : goal.post_entry_last_in-found-requires-clause-codable
post_entry_last_in-found-requires-clause-codable g c = codable-by c.args.lane.now c.args.e (entry c.parts-pool.result.0 c.parts-pool.result.1 c.parts-pool.result.2) c.requires.stands c.parts-pool.ensures

pub post_entry_last_in-found-requires-clause-serves : goal.post_entry_last_in-found-requires-clause-serves
post_entry_last_in-found-requires-clause-serves g c = by-serves c.args.lane.now c.requires.serves

pub post_entry_last_in-found-requires-clause-idle : goal.post_entry_last_in-found-requires-clause-idle
post_entry_last_in-found-requires-clause-idle g c = idle c.args.lane.now c.args.lane.now.by

pub put-requires-clause-room : goal.put-requires-clause-room
put-requires-clause-room g c = spare-is c.args.lane.now c.requires.room

pub invariant_of-lane-clause-own : goal.invariant_of-lane-clause-own
invariant_of-lane-clause-own g c = c.post_entry_last_in-found.ensures.same.0 ∙ c.args.lane.now.own

pub invariant_of-lane-clause-ended : goal.invariant_of-lane-clause-ended
invariant_of-lane-clause-ended g c = let l = c.args.lane.now in
    lifo-ended l.words.now.shared.key l.by (entry c.parts-pool.result.0 c.parts-pool.result.1 c.parts-pool.result.2) l.seat.me.0 c.post_entry_last_in-found.result.0 c.post_entry_last_in-found.result.1 c.post_entry_last_in-found.new.seat.me.0 l.ends.at c.post_entry_last_in-found.ensures.ends l.ended

pub invariant_of-lane-clause-holds : goal.invariant_of-lane-clause-holds
invariant_of-lane-clause-holds g c = let l = c.args.lane.now in
    lifo-holds l c.args.e c.post_entry_last_in-found.result.0 c.post_entry_last_in-found.new.seat.me.0 c.put.new.log c.put.new.numbers.list c.lifo_rec-rec.result (stands-in l c.args.e c.requires.stands) c.put.ensures.put c.post_entry_last_in-found.result.1
    (subst (λ (z : System × model.Entry). PostFirstEnds z.0 l.by z.1 l.seat.me.0 c.post_entry_last_in-found.result.0 c.post_entry_last_in-found.result.1 c.post_entry_last_in-found.new.seat.me.0) (λ i. (l.key i, sym c.parts-pool.ensures i)) c.post_entry_last_in-found.ensures.ends)
    (c.lifo_rec-rec.ensures ∙ (λ i. let k : counts.Counts = c.counts_in-now.ensures i in record { of = l.by; body = lifo_body c.post_entry_last_in-found.result.1 l.by k.f k.l k.m ((c.stated.ensures ∙ sym c.parts-pool.ensures) i) }))

pub returns-clause-claims : goal.returns-clause-claims
returns-clause-claims g c = let l = c.args.lane.now in
    lifos-for l c.args.e c.post_entry_last_in-found.result.0 c.post_entry_last_in-found.new.seat.me.0 c.put.new.log c.put.new.numbers.list c.lifo_rec-rec.result (stands-in l c.args.e c.requires.stands) c.put.ensures.put c.post_entry_last_in-found.result.1 c.answer.result
    (subst (λ (z : System × model.Entry). PostFirstEnds z.0 l.by z.1 l.seat.me.0 c.post_entry_last_in-found.result.0 c.post_entry_last_in-found.result.1 c.post_entry_last_in-found.new.seat.me.0) (λ i. (l.key i, sym c.parts-pool.ensures i)) c.post_entry_last_in-found.ensures.ends)
    (c.lifo_rec-rec.ensures ∙ (λ i. let k : counts.Counts = c.counts_in-now.ensures i in record { of = l.by; body = lifo_body c.post_entry_last_in-found.result.1 l.by k.f k.l k.m ((c.stated.ensures ∙ sym c.parts-pool.ensures) i) }))
    (subst (λ (k : counts.Counts). AnswerIs c.post_entry_last_in-found.result.1 c.args.e k.f k.l k.m c.answer.result) c.counts_in-now.ensures c.answer.ensures)
    c.put.ensures.spare

pub returns-clause-tries : goal.returns-clause-tries
returns-clause-tries g c = let l = c.args.lane.now in
    lifo-tries l c.args.e c.post_entry_last_in-found.result.0 c.post_entry_last_in-found.new.seat.me.0 c.put.new.log c.put.new.numbers.list c.lifo_rec-rec.result (stands-in l c.args.e c.requires.stands) c.put.ensures.put c.post_entry_last_in-found.result.1 c.answer.result c.args.steps.now c.post_entry_last_in-found.new.steps
    (subst (λ (z : System × model.Entry). PostFirstEnds z.0 l.by z.1 l.seat.me.0 c.post_entry_last_in-found.result.0 c.post_entry_last_in-found.result.1 c.post_entry_last_in-found.new.seat.me.0) (λ i. (l.key i, sym c.parts-pool.ensures i)) c.post_entry_last_in-found.ensures.ends)
    (subst (λ (k : counts.Counts). AnswerIs c.post_entry_last_in-found.result.1 c.args.e k.f k.l k.m c.answer.result) c.counts_in-now.ensures c.answer.ensures)
    c.post_entry_last_in-found.ensures.up
    (subst (λ s. c.post_entry_last_in-found.new.steps + mark_in (queue_at l.by) (value_seen s (word.Queue l.by) l.seat.me.0.seen) ≤ c.args.steps.now + 1 + mark_in (queue_at l.by) c.post_entry_last_in-found.result.0) l.key c.post_entry_last_in-found.ensures.tries)
