use Rattle.std.proofs.Common.{◌+◌, ◌≤◌, ap, sym, subst, ◌∙◌}
use Rattle.qp_model.specs.declared.systems.System.{System}
use Rattle.qp_model.specs.declared.bodies.Entry as model
use Rattle.qp_model.specs.declared.words.Word.TheVariants as word
use Rattle.qp_model.specs.Record.{entry}
use Rattle.qp_model.specs.Sites.{ring_of}
use Rattle.qp_table.specs.Rule.{queue_at, mark_in}
use Rattle.qp_calls.specs.declared.answers.Counts as counts
use Rattle.qp_table.specs.Words.{value_seen}
use Rattle.qp_shared_loops.specs.Ends.{PostEnds}
use Rattle.qp_shared_queues.specs.Bodies.{post_body}
use Rattle.qp_shared_queues.proofs.Used.{post-ended}
use Rattle.qp_shared_queues.proofs.Lane.{object-key, object-small, no-claim, spare-is, room}
use Rattle.qp_shared_queues.proofs.Entries.{stands-in, in-hand-by, codable-by}
use Rattle.qp_shared_queues.proofs.Claiming.{AnswerIs, claim-holds, claims-for, claim-tries}
use Rattle.qp_shared_queues.proofs.posts.claim.Goals as goal

pub ring_of-ring-requires : goal.ring_of-ring-requires
ring_of-ring-requires g c = object-small c.args.lane.now c.args.to c.requires.object

pub post_entry-found-requires-clause-object : goal.post_entry-found-requires-clause-object
post_entry-found-requires-clause-object g c = object-key c.args.lane.now c.args.to c.requires.object

pub post_entry-found-requires-clause-low : goal.post_entry-found-requires-clause-low
post_entry-found-requires-clause-low g c = object-small c.args.lane.now c.args.to c.requires.object

pub post_entry-found-requires-clause-ring : goal.post_entry-found-requires-clause-ring
post_entry-found-requires-clause-ring g c = c.ring_of-ring.ensures ∙ ap (λ k. ring_of k c.args.to) (c.args.lane.now.rings_key ∙ sym c.args.lane.now.key)

pub post_entry-found-requires-clause-room : goal.post_entry-found-requires-clause-room
post_entry-found-requires-clause-room g c = room c.args.lane.now c.requires.room

pub post_entry-found-requires-clause-hand : goal.post_entry-found-requires-clause-hand
post_entry-found-requires-clause-hand g c = in-hand-by c.args.lane.now c.args.e (entry c.parts-pool.result.0 c.parts-pool.result.1 c.parts-pool.result.2) c.requires.stands c.parts-pool.ensures

pub post_entry-found-requires-clause-none : goal.post_entry-found-requires-clause-none
post_entry-found-requires-clause-none g c = no-claim c.args.lane.now c.args.to

pub post_entry-found-requires-clause-codable : goal.post_entry-found-requires-clause-codable
post_entry-found-requires-clause-codable g c = codable-by c.args.lane.now c.args.e (entry c.parts-pool.result.0 c.parts-pool.result.1 c.parts-pool.result.2) c.requires.stands c.parts-pool.ensures

pub put_post-requires-clause-room : goal.put_post-requires-clause-room
put_post-requires-clause-room g c = spare-is c.args.lane.now c.requires.room

pub invariant_of-lane-clause-own : goal.invariant_of-lane-clause-own
invariant_of-lane-clause-own g c = c.post_entry-found.ensures.same.0 ∙ c.args.lane.now.own

pub invariant_of-lane-clause-ended : goal.invariant_of-lane-clause-ended
invariant_of-lane-clause-ended g c = let l = c.args.lane.now in
    post-ended l.words.now.shared.key c.args.to l.by c.args.margin (entry c.parts-pool.result.0 c.parts-pool.result.1 c.parts-pool.result.2) l.seat.me.0 c.post_entry-found.result.0 c.post_entry-found.result.1 c.post_entry-found.new.seat.me.0 l.ends.at c.post_entry-found.ensures.ends l.ended

pub invariant_of-lane-clause-holds : goal.invariant_of-lane-clause-holds
invariant_of-lane-clause-holds g c = let l = c.args.lane.now in
    claim-holds l c.args.to c.args.margin c.args.e c.post_entry-found.result.0 c.post_entry-found.new.seat.me.0 c.put_post.new.log c.put_post.new.numbers.list c.put_post.ensures.put.0 (stands-in l c.args.e c.requires.stands) c.put_post.ensures.put.2 c.post_entry-found.result.1
    (subst (λ (z : System × model.Entry). PostEnds z.0 c.args.to l.by c.args.margin z.1 l.seat.me.0 c.post_entry-found.result.0 c.post_entry-found.result.1 c.post_entry-found.new.seat.me.0) (λ i. (l.key i, sym c.parts-pool.ensures i)) c.post_entry-found.ensures.ends)
    (c.put_post.ensures.put.1 ∙ (λ i. let k : counts.Counts = c.counts_in-now.ensures i in record { of = l.by; body = post_body c.post_entry-found.result.1 c.args.margin c.args.to k.f k.l k.m ((c.stated-said.ensures ∙ sym c.parts-pool.ensures) i) }))

pub returns-clause-claims : goal.returns-clause-claims
returns-clause-claims g c = let l = c.args.lane.now in
    claims-for l c.args.to c.args.margin c.args.e c.post_entry-found.result.0 c.post_entry-found.new.seat.me.0 c.put_post.new.log c.put_post.new.numbers.list c.put_post.ensures.put.0 (stands-in l c.args.e c.requires.stands) c.put_post.ensures.put.2 c.post_entry-found.result.1 c.answer.result
    (subst (λ (z : System × model.Entry). PostEnds z.0 c.args.to l.by c.args.margin z.1 l.seat.me.0 c.post_entry-found.result.0 c.post_entry-found.result.1 c.post_entry-found.new.seat.me.0) (λ i. (l.key i, sym c.parts-pool.ensures i)) c.post_entry-found.ensures.ends)
    (c.put_post.ensures.put.1 ∙ (λ i. let k : counts.Counts = c.counts_in-now.ensures i in record { of = l.by; body = post_body c.post_entry-found.result.1 c.args.margin c.args.to k.f k.l k.m ((c.stated-said.ensures ∙ sym c.parts-pool.ensures) i) }))
    (subst (λ (k : counts.Counts). AnswerIs c.post_entry-found.result.1 c.args.e k.f k.l k.m c.answer.result) c.counts_in-now.ensures c.answer.ensures)
    c.put_post.ensures.spare

pub returns-clause-tries : goal.returns-clause-tries
returns-clause-tries g c = let l = c.args.lane.now in
    claim-tries l c.args.to c.args.margin c.args.e c.post_entry-found.result.0 c.post_entry-found.new.seat.me.0 c.put_post.new.log c.put_post.new.numbers.list c.put_post.ensures.put.0 (stands-in l c.args.e c.requires.stands) c.put_post.ensures.put.2 c.post_entry-found.result.1 c.answer.result c.args.steps.now c.post_entry-found.new.steps
    (subst (λ (z : System × model.Entry). PostEnds z.0 c.args.to l.by c.args.margin z.1 l.seat.me.0 c.post_entry-found.result.0 c.post_entry-found.result.1 c.post_entry-found.new.seat.me.0) (λ i. (l.key i, sym c.parts-pool.ensures i)) c.post_entry-found.ensures.ends)
    (subst (λ (k : counts.Counts). AnswerIs c.post_entry-found.result.1 c.args.e k.f k.l k.m c.answer.result) c.counts_in-now.ensures c.answer.ensures)
    c.post_entry-found.ensures.up
    (subst (λ s. c.post_entry-found.new.steps + mark_in (queue_at c.args.to) (value_seen s (word.Queue c.args.to) l.seat.me.0.seen) ≤ c.args.steps.now + 1 + mark_in (queue_at c.args.to) c.post_entry-found.result.0) l.key c.post_entry-found.ensures.tries)
