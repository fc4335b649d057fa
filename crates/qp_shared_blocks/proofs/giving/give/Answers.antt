use Rattle.std.proofs.Common.{◌≤◌, length, sym, subst, ◌∙◌}
use Rattle.std.specs.Option.{unwrap_or}
use Rattle.qp_model.specs.WordLaw.{is_pool}
use Rattle.qp_table.specs.Rule.{IsContent}
use Rattle.qp_calls.specs.Clauses.{event_of}
use Rattle.qp_table.specs.Asked.{size_of}
use Rattle.std.specs.Bool.{IsTrue}
use Rattle.qp_shared_blocks.proofs.Lanes.{spare-is, room}
use Rattle.qp_shared_blocks.proofs.Used.{give-ended}
use Rattle.qp_shared_blocks.proofs.Gives.{fits-pool, fits-small, fits-size, fits-content, give-holds, give-out, give-tries, none-holds, none-given, none-tries, none-few}
use Rattle.qp_shared_blocks.proofs.giving.give.Goals as goal

pub give_block-found-requires-clause-small : goal.give_block-found-requires-clause-small
give_block-found-requires-clause-small g c = fits-small c.args.lane.now c.args.pool (event_of c.args.ev.now) c.requires.fits

pub give_block-found-requires-clause-pool : goal.give_block-found-requires-clause-pool
give_block-found-requires-clause-pool g c = subst (λ s. IsTrue (is_pool s c.args.pool)) (sym c.args.lane.now.key) (fits-pool c.args.lane.now c.args.pool (event_of c.args.ev.now) c.requires.fits)

pub give_block-found-requires-clause-still : goal.give_block-found-requires-clause-still
give_block-found-requires-clause-still g c = c.args.lane.now.holds.still.fills

pub give_block-found-requires-clause-fits : goal.give_block-found-requires-clause-fits
give_block-found-requires-clause-fits g c = subst (λ s. length c.args.ev.now.pars.items ≤ size_of s c.args.pool) (sym c.args.lane.now.key) (fits-size c.args.lane.now c.args.pool (event_of c.args.ev.now) c.requires.fits)

pub give_block-found-requires-clause-done : goal.give_block-found-requires-clause-done
give_block-found-requires-clause-done g c = c.args.lane.now.holds.still.done

pub give_block-found-requires-clause-room : goal.give_block-found-requires-clause-room
give_block-found-requires-clause-room g c = room c.args.lane.now c.requires.room

pub give_block-found-requires-clause-content : goal.give_block-found-requires-clause-content
give_block-found-requires-clause-content g c = subst (λ s. IsContent s c.args.ev.now.sig c.args.ev.now.pars.items) (sym c.args.lane.now.key) (fits-content c.args.lane.now c.args.pool (event_of c.args.ev.now) c.requires.fits)

pub shortage-rec-requires : goal.shortage-rec-requires
shortage-rec-requires g c = subst (λ k. k ≤ unwrap_or c.args.reserve 0) (sym c.free_of-free.ensures)
    (none-few c.args.lane.now.words.now.shared.key c.args.pool c.args.lane.now.by c.args.reserve c.args.ev.now.sig c.args.ev.now.pars.items c.args.lane.now.seat.me.0 c.give_block-found.result.0 c.give_block-found.result.1 c.give_block-found.new.seat.me.0 c.give_block-found.ensures.ends c.in-None.is)

pub put-requires-clause-room : goal.put-requires-clause-room
put-requires-clause-room g c = spare-is c.args.lane.now c.requires.room

pub put-requires-in-None-clause-room : goal.put-requires-in-None-clause-room
put-requires-in-None-clause-room g c = spare-is c.args.lane.now c.requires.room

pub invariant_of-lane-clause-own : goal.invariant_of-lane-clause-own
invariant_of-lane-clause-own g c = c.give_block-found.ensures.same.0 ∙ c.args.lane.now.own

pub invariant_of-lane-clause-ended : goal.invariant_of-lane-clause-ended
invariant_of-lane-clause-ended g c = let l = c.args.lane.now in
    give-ended l.words.now.shared.key c.args.pool l.by c.args.reserve c.args.ev.now.sig c.args.ev.now.pars.items l.seat.me.0 c.give_block-found.result.0 c.give_block-found.result.1 c.give_block-found.new.seat.me.0 l.ends.at c.give_block-found.ensures.ends l.ended

pub invariant_of-lane-clause-holds : goal.invariant_of-lane-clause-holds
invariant_of-lane-clause-holds g c = give-holds c.args.lane.now c.args.pool c.args.reserve (event_of c.args.ev.now) c.give_block-found.result.0 c.give_block-found.result.1 c.in-Some.life c.in-Some.is c.give_block-found.new.seat.me.0 c.give_block-found.ensures.ends c.requires.fits
    c.put.new.log c.put.new.numbers.list c.new-rec.result c.from.result c.put.ensures.put (c.from.ensures ∙ c.free_of-free.ensures) c.new-rec.ensures

pub invariant_of-lane-in-None-clause-own : goal.invariant_of-lane-in-None-clause-own
invariant_of-lane-in-None-clause-own g c = c.give_block-found.ensures.same.0 ∙ c.args.lane.now.own

pub invariant_of-lane-in-None-clause-ended : goal.invariant_of-lane-in-None-clause-ended
invariant_of-lane-in-None-clause-ended g c = let l = c.args.lane.now in
    give-ended l.words.now.shared.key c.args.pool l.by c.args.reserve c.args.ev.now.sig c.args.ev.now.pars.items l.seat.me.0 c.give_block-found.result.0 c.give_block-found.result.1 c.give_block-found.new.seat.me.0 l.ends.at c.give_block-found.ensures.ends l.ended

pub invariant_of-lane-in-None-clause-holds : goal.invariant_of-lane-in-None-clause-holds
invariant_of-lane-in-None-clause-holds g c = none-holds c.args.lane.now c.args.pool c.args.reserve (event_of c.args.ev.now) c.give_block-found.result.0 c.give_block-found.result.1 c.in-None.is c.give_block-found.new.seat.me.0 c.give_block-found.ensures.ends c.requires.fits
    c.put-in-None.new.log c.put-in-None.new.numbers.list c.shortage-rec.result c.put-in-None.ensures.put c.free_of-free.result c.free_of-free.ensures c.shortage-rec.ensures

pub returns-in-Some-clause-gives : goal.returns-in-Some-clause-gives
returns-in-Some-clause-gives g c = give-out c.args.lane.now c.args.pool c.args.reserve (event_of c.args.ev.now) c.give_block-found.result.0 c.give_block-found.result.1 c.in-Some.life c.in-Some.is c.give_block-found.new.seat.me.0 c.give_block-found.ensures.ends c.requires.fits
    c.put.new.log c.put.new.numbers.list c.new-rec.result c.from.result c.put.ensures.put (c.from.ensures ∙ c.free_of-free.ensures) c.new-rec.ensures c.of.result c.of.ensures c.put.ensures.spare

pub returns-in-Some-clause-tries : goal.returns-in-Some-clause-tries
returns-in-Some-clause-tries g c = give-tries c.args.lane.now c.args.pool c.args.reserve (event_of c.args.ev.now) c.give_block-found.result.0 c.give_block-found.result.1 c.in-Some.life c.in-Some.is c.give_block-found.new.seat.me.0 c.give_block-found.ensures.ends c.requires.fits
    c.put.new.log c.put.new.numbers.list c.new-rec.result c.from.result c.put.ensures.put (c.from.ensures ∙ c.free_of-free.ensures) c.new-rec.ensures c.args.steps.now c.give_block-found.new.steps c.give_block-found.ensures.up c.give_block-found.ensures.tries

pub returns-in-None-clause-gives : goal.returns-in-None-clause-gives
returns-in-None-clause-gives g c = none-given c.args.lane.now c.args.pool c.args.reserve (event_of c.args.ev.now) c.give_block-found.result.0 c.give_block-found.result.1 c.in-None.is c.give_block-found.new.seat.me.0 c.give_block-found.ensures.ends c.requires.fits
    c.put-in-None.new.log c.put-in-None.new.numbers.list c.shortage-rec.result c.put-in-None.ensures.put c.free_of-free.result c.free_of-free.ensures c.shortage-rec.ensures c.put-in-None.ensures.spare

pub returns-in-None-clause-tries : goal.returns-in-None-clause-tries
returns-in-None-clause-tries g c = none-tries c.args.lane.now c.args.pool c.args.reserve (event_of c.args.ev.now) c.give_block-found.result.0 c.give_block-found.result.1 c.in-None.is c.give_block-found.new.seat.me.0 c.give_block-found.ensures.ends c.requires.fits
    c.put-in-None.new.log c.put-in-None.new.numbers.list c.shortage-rec.result c.put-in-None.ensures.put c.free_of-free.result c.free_of-free.ensures c.shortage-rec.ensures c.args.steps.now c.give_block-found.new.steps c.give_block-found.ensures.up c.give_block-found.ensures.tries
