use Rattle.std.proofs.Common.{◌+◌, Option, sym, ap, subst, ◌∙◌, arith}
use Rattle.qp_model.specs.declared.systems.System.{System}
use Rattle.qp_model.specs.declared.bodies.Body.TheVariants.{Took, Nil}
use Rattle.qp_model.specs.History.{lane_items}
use Rattle.qp_model.specs.Sites.{ring_of}
use Rattle.qp_calls.specs.declared.answers.Counts as counts
use Rattle.qp_calls.specs.declared.tokens.HeldEntry as token
use Rattle.qp_calls.specs.LaneView.{NotShown}
use Rattle.qp_calls.specs.Clauses.{TakesNone, same_counts}
use Rattle.qp_calls_log.specs.Lane.{last_nil_in}
use Rattle.qp_shared_lane.specs.Lane.{state_view}
use Rattle.qp_shared_words.specs.Nils.{is_new}
use Rattle.qp_shared_loops.specs.Ends.{TakeEnds}
use Rattle.qp_shared_queues.proofs.Used.{take-ended}
use Rattle.qp_shared_queues.proofs.Lane.{then_view, object-key, object-small, serves-there, idle, spare-is, room}
use Rattle.qp_shared_queues.proofs.Taken.{take-holds, takes-it-for}
use Rattle.qp_shared_queues.proofs.Now.{empty-reads}
use Rattle.qp_shared_queues.proofs.Nils.{last-is, again-holds, takes-again, nil-holds, takes-nil}
use Rattle.qp_shared_queues.proofs.takes.take.Goals as goal

pub ring_of-ring-requires : goal.ring_of-ring-requires
ring_of-ring-requires g c = object-small c.args.lane.now c.args.me c.requires.object

pub index-last-requires : goal.index-last-requires
index-last-requires g c = let small = object-small c.args.lane.now c.args.me c.requires.object in omega (arith, small, c.from.ensures, c.args.lane.now.log.seats, c.args.lane.now.log.nils.ok.0)

pub take_entry-found-requires-clause-object : goal.take_entry-found-requires-clause-object
take_entry-found-requires-clause-object g c = object-key c.args.lane.now c.args.me c.requires.object

pub take_entry-found-requires-clause-low : goal.take_entry-found-requires-clause-low
take_entry-found-requires-clause-low g c = object-small c.args.lane.now c.args.me c.requires.object

pub take_entry-found-requires-clause-ring : goal.take_entry-found-requires-clause-ring
take_entry-found-requires-clause-ring g c = c.ring_of-ring.ensures ∙ ap (λ k. ring_of k c.args.me) (c.args.lane.now.rings_key ∙ sym c.args.lane.now.key)

pub take_entry-found-requires-clause-room : goal.take_entry-found-requires-clause-room
take_entry-found-requires-clause-room g c = room c.args.lane.now c.requires.room

pub take_entry-found-requires-clause-serves : goal.take_entry-found-requires-clause-serves
take_entry-found-requires-clause-serves g c = serves-there c.args.lane.now c.args.me c.requires.serves

pub take_entry-found-requires-clause-idle : goal.take_entry-found-requires-clause-idle
take_entry-found-requires-clause-idle g c = idle c.args.lane.now c.args.me

pub put-requires-clause-room : goal.put-requires-clause-room
put-requires-clause-room g c = spare-is c.args.lane.now c.requires.room

pub put_nil-requires-clause-room : goal.put_nil-requires-clause-room
put_nil-requires-clause-room g c = spare-is c.args.lane.now c.requires.room

pub invariant_of-lane-clause-own : goal.invariant_of-lane-clause-own
invariant_of-lane-clause-own g c = c.take_entry-found.ensures.same.0 ∙ c.args.lane.now.own

pub invariant_of-lane-clause-ended : goal.invariant_of-lane-clause-ended
invariant_of-lane-clause-ended g c = let l = c.args.lane.now in
    take-ended l.words.now.shared.key (is_new c.index-last.result.now) c.args.me l.seat.me.0 c.take_entry-found.result.0 c.take_entry-found.result.1 c.take_entry-found.new.seat.me.0 l.ends.at c.take_entry-found.ensures.ends l.ended

pub invariant_of-lane-clause-holds : goal.invariant_of-lane-clause-holds
invariant_of-lane-clause-holds g c = let l = c.args.lane.now in
    let ends = subst (λ (z : System × Option token.HeldEntry). TakeEnds z.0 (is_new c.index-last.result.now) c.args.me l.seat.me.0 c.take_entry-found.result.0 z.1 c.take_entry-found.new.seat.me.0) (λ i. (l.key i, c.in-Some.is i)) c.take_entry-found.ensures.ends in
    take-holds l c.args.me c.take_entry-found.result.0 c.in-Some.e c.take_entry-found.new.seat.me.0 c.put.new.log c.put.new.numbers.list c.took-rec.result ends.0 c.put.ensures.put
    (c.took-rec.ensures ∙ (λ i. let k : counts.Counts = c.counts_in-now.ensures i in record { of = c.args.me; body = Took k.f k.l (k.m + 1) ((c.stated.ensures ∙ sym c.parts-pool.ensures) i) }))

pub returns-in-Some-clause-takes : goal.returns-in-Some-clause-takes
returns-in-Some-clause-takes g c = let l = c.args.lane.now in
    let ends = subst (λ (z : System × Option token.HeldEntry). TakeEnds z.0 (is_new c.index-last.result.now) c.args.me l.seat.me.0 c.take_entry-found.result.0 z.1 c.take_entry-found.new.seat.me.0) (λ i. (l.key i, c.in-Some.is i)) c.take_entry-found.ensures.ends in
    takes-it-for l c.args.me c.take_entry-found.result.0 c.in-Some.e c.take_entry-found.new.seat.me.0 c.put.new.log c.put.new.numbers.list c.took-rec.result ends.0 c.put.ensures.put
    (c.took-rec.ensures ∙ (λ i. let k : counts.Counts = c.counts_in-now.ensures i in record { of = c.args.me; body = Took k.f k.l (k.m + 1) ((c.stated.ensures ∙ sym c.parts-pool.ensures) i) })) ends.1 l.holds.bare c.put.ensures.spare

pub invariant_of-lane-then-tells-clause-own : goal.invariant_of-lane-then-tells-clause-own
invariant_of-lane-then-tells-clause-own g c = c.take_entry-found.ensures.same.0 ∙ c.args.lane.now.own

pub invariant_of-lane-then-tells-clause-ended : goal.invariant_of-lane-then-tells-clause-ended
invariant_of-lane-then-tells-clause-ended g c = let l = c.args.lane.now in
    take-ended l.words.now.shared.key (is_new c.index-last.result.now) c.args.me l.seat.me.0 c.take_entry-found.result.0 c.take_entry-found.result.1 c.take_entry-found.new.seat.me.0 l.ends.at c.take_entry-found.ensures.ends l.ended

pub invariant_of-lane-then-tells-clause-holds : goal.invariant_of-lane-then-tells-clause-holds
invariant_of-lane-then-tells-clause-holds g c = let l = c.args.lane.now in
    let ends = subst (λ (z : System × Option token.HeldEntry). TakeEnds z.0 (is_new c.index-last.result.now) c.args.me l.seat.me.0 c.take_entry-found.result.0 z.1 c.take_entry-found.new.seat.me.0) (λ i. (l.key i, c.in-None.is i)) c.take_entry-found.ensures.ends in
    let small = object-small l c.args.me c.requires.object in
    again-holds l c.args.me c.take_entry-found.result.0 c.index-last.result.now c.take_entry-found.new.seat.me.0 c.tells.result ends small
    (last-is l.log.nils.items c.args.me c.from.result c.index-last.result.now c.from.ensures (omega (arith, small, c.from.ensures, l.log.seats)) c.index-last.ensures)
    (c.tells.ensures ∙ ap (λ (k : counts.Counts). same_counts (last_nil_in c.args.me NotShown (lane_items l.log.recs.items)) k.f k.l k.m) c.counts_in-now.ensures) c.if-tells.true

pub returns-then-tells-clause-takes : goal.returns-then-tells-clause-takes
returns-then-tells-clause-takes g c = let l = c.args.lane.now in
    let ends = subst (λ (z : System × Option token.HeldEntry). TakeEnds z.0 (is_new c.index-last.result.now) c.args.me l.seat.me.0 c.take_entry-found.result.0 z.1 c.take_entry-found.new.seat.me.0) (λ i. (l.key i, c.in-None.is i)) c.take_entry-found.ensures.ends in
    let small = object-small l c.args.me c.requires.object in
    let z = takes-again l c.args.me c.take_entry-found.result.0 c.index-last.result.now c.take_entry-found.new.seat.me.0 c.tells.result ends small
    (last-is l.log.nils.items c.args.me c.from.result c.index-last.result.now c.from.ensures (omega (arith, small, c.from.ensures, l.log.seats)) c.index-last.ensures)
    (c.tells.ensures ∙ ap (λ (k : counts.Counts). same_counts (last_nil_in c.args.me NotShown (lane_items l.log.recs.items)) k.f k.l k.m) c.counts_in-now.ensures) c.if-tells.true in
    subst (λ (k : counts.Counts). TakesNone c.args.me k.f k.l k.m (state_view l) (then_view l l.log l.numbers.list c.take_entry-found.new.seat.me.0)) (sym c.counts_in-now.ensures) z

pub invariant_of-lane-in-None-clause-own : goal.invariant_of-lane-in-None-clause-own
invariant_of-lane-in-None-clause-own g c = c.take_entry-found.ensures.same.0 ∙ c.args.lane.now.own

pub invariant_of-lane-in-None-clause-ended : goal.invariant_of-lane-in-None-clause-ended
invariant_of-lane-in-None-clause-ended g c = let l = c.args.lane.now in
    take-ended l.words.now.shared.key (is_new c.index-last.result.now) c.args.me l.seat.me.0 c.take_entry-found.result.0 c.take_entry-found.result.1 c.take_entry-found.new.seat.me.0 l.ends.at c.take_entry-found.ensures.ends l.ended

pub invariant_of-lane-in-None-clause-holds : goal.invariant_of-lane-in-None-clause-holds
invariant_of-lane-in-None-clause-holds g c = let l = c.args.lane.now in
    let ends = subst (λ (z : System × Option token.HeldEntry). TakeEnds z.0 (is_new c.index-last.result.now) c.args.me l.seat.me.0 c.take_entry-found.result.0 z.1 c.take_entry-found.new.seat.me.0) (λ i. (l.key i, c.in-None.is i)) c.take_entry-found.ensures.ends in
    let small = object-small l c.args.me c.requires.object in
    nil-holds l c.args.me c.take_entry-found.result.0 c.index-last.result.now c.take_entry-found.new.seat.me.0 c.tells.result ends small
    (last-is l.log.nils.items c.args.me c.from.result c.index-last.result.now c.from.ensures (omega (arith, small, c.from.ensures, l.log.seats)) c.index-last.ensures)
    (c.tells.ensures ∙ ap (λ (k : counts.Counts). same_counts (last_nil_in c.args.me NotShown (lane_items l.log.recs.items)) k.f k.l k.m) c.counts_in-now.ensures) c.if-tells.false c.put_nil.new.log c.put_nil.new.numbers.list c.nil-rec.result c.put_nil.ensures.put
    (c.nil-rec.ensures ∙ ap (λ (k : counts.Counts). record { of = c.args.me; body = Nil k.f k.l k.m }) c.counts_in-now.ensures)

pub returns-else-tells-clause-takes : goal.returns-else-tells-clause-takes
returns-else-tells-clause-takes g c = let l = c.args.lane.now in
    let ends = subst (λ (z : System × Option token.HeldEntry). TakeEnds z.0 (is_new c.index-last.result.now) c.args.me l.seat.me.0 c.take_entry-found.result.0 z.1 c.take_entry-found.new.seat.me.0) (λ i. (l.key i, c.in-None.is i)) c.take_entry-found.ensures.ends in
    let small = object-small l c.args.me c.requires.object in
    let z = takes-nil l c.args.me c.take_entry-found.result.0 c.index-last.result.now c.take_entry-found.new.seat.me.0 c.tells.result ends small
    (last-is l.log.nils.items c.args.me c.from.result c.index-last.result.now c.from.ensures (omega (arith, small, c.from.ensures, l.log.seats)) c.index-last.ensures)
    (c.tells.ensures ∙ ap (λ (k : counts.Counts). same_counts (last_nil_in c.args.me NotShown (lane_items l.log.recs.items)) k.f k.l k.m) c.counts_in-now.ensures) c.if-tells.false c.put_nil.new.log c.put_nil.new.numbers.list c.nil-rec.result c.put_nil.ensures.put
    (c.nil-rec.ensures ∙ ap (λ (k : counts.Counts). record { of = c.args.me; body = Nil k.f k.l k.m }) c.counts_in-now.ensures) c.put_nil.ensures.spare in
    subst (λ (k : counts.Counts). TakesNone c.args.me k.f k.l k.m (state_view l) (then_view l c.put_nil.new.log c.put_nil.new.numbers.list c.take_entry-found.new.seat.me.0)) (sym c.counts_in-now.ensures) z

pub returns-then-tells-clause-now : goal.returns-then-tells-clause-now
returns-then-tells-clause-now g c = let l = c.args.lane.now in
    empty-reads l.words.now.shared.key (is_new c.index-last.result.now) c.args.me c.take_entry-found.result.0 l.seat.me.0 c.take_entry-found.new.seat.me.0
    (subst (λ (z : Option token.HeldEntry). TakeEnds l.words.now.shared.key (is_new c.index-last.result.now) c.args.me l.seat.me.0 c.take_entry-found.result.0 z c.take_entry-found.new.seat.me.0) c.in-None.is c.take_entry-found.ensures.ends)
    c.counts_in-now.result c.counts_in-now.ensures

pub returns-else-tells-clause-now : goal.returns-else-tells-clause-now
returns-else-tells-clause-now g c = let l = c.args.lane.now in
    empty-reads l.words.now.shared.key (is_new c.index-last.result.now) c.args.me c.take_entry-found.result.0 l.seat.me.0 c.take_entry-found.new.seat.me.0
    (subst (λ (z : Option token.HeldEntry). TakeEnds l.words.now.shared.key (is_new c.index-last.result.now) c.args.me l.seat.me.0 c.take_entry-found.result.0 z c.take_entry-found.new.seat.me.0) c.in-None.is c.take_entry-found.ensures.ends)
    c.counts_in-now.result c.counts_in-now.ensures
