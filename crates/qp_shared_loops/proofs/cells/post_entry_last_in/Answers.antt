use Rattle.std.proofs.Common.{Bool, subst}
use Rattle.qp_model.specs.declared.bodies.Entry.{Entry}
use Rattle.qp_shared_loops.specs.Ends.{LastInEnds}
use Rattle.qp_shared_loops.proofs.Laying.{first-there, first-oldest}
use Rattle.qp_shared_loops.proofs.cells.post_entry_last_in.Goals as goal

pub lay-requires-clause-claim : goal.lay-requires-clause-claim
lay-requires-clause-claim g c =
    let e : Entry = record { pool = c.args.pool; block = c.args.block; name = c.args.name } in
    first-there c.args.words.now.shared.key c.args.object e c.args.seat.now.me.0 c.claim_entry_last_in-found.result.0 c.claim_entry_last_in-found.new.seat.me.0
    (subst (λ (t : Bool). LastInEnds c.args.words.now.shared.key c.args.object e c.args.seat.now.me.0 c.claim_entry_last_in-found.result.0 t c.claim_entry_last_in-found.new.seat.me.0) c.if-not-claimed.false c.claim_entry_last_in-found.ensures.ends)
    c.args.ring c.before_front-cell.result c.requires.ring c.before_front-cell.ensures.value

pub lay-requires-clause-oldest : goal.lay-requires-clause-oldest
lay-requires-clause-oldest g c =
    let e : Entry = record { pool = c.args.pool; block = c.args.block; name = c.args.name } in
    first-oldest c.args.words.now.shared.key c.args.object e c.args.seat.now.me.0 c.claim_entry_last_in-found.result.0 c.claim_entry_last_in-found.new.seat.me.0
    (subst (λ (t : Bool). LastInEnds c.args.words.now.shared.key c.args.object e c.args.seat.now.me.0 c.claim_entry_last_in-found.result.0 t c.claim_entry_last_in-found.new.seat.me.0) c.if-not-claimed.false c.claim_entry_last_in-found.ensures.ends)
    c.args.ring c.before_front-cell.result c.requires.ring c.before_front-cell.ensures.value c.requires.none
