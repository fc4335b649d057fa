use Rattle.std.proofs.Common.{Bool, subst, ◌+◌, ◌%◌, ap, ◌∙◌}
use Rattle.qp_model.specs.declared.bodies.Entry.{Entry}
use Rattle.qp_shared_loops.specs.Ends.{ClaimEnds}
use Rattle.qp_shared_loops.proofs.Laying.{claim-there, claim-oldest}
use Rattle.qp_shared_loops.proofs.cells.post_entry.Goals as goal

pub lay-requires-clause-claim : goal.lay-requires-clause-claim
lay-requires-clause-claim g c =
    let e : Entry = record { pool = c.args.pool; block = c.args.block; name = c.args.name } in
    claim-there c.args.words.now.shared.key c.args.object c.args.by c.args.margin e c.args.seat.now.me.0 c.claim_entry-found.result.0 c.claim_entry-found.new.seat.me.0
    (subst (λ (t : Bool). ClaimEnds c.args.words.now.shared.key c.args.object c.args.by c.args.margin e c.args.seat.now.me.0 c.claim_entry-found.result.0 t c.claim_entry-found.new.seat.me.0) c.if-not-claimed.false c.claim_entry-found.ensures.ends)
    c.behind_last-cell.result (c.behind_last-cell.ensures.value ∙ ap (λ r. c.claim_entry-found.result.0 % 2097152 % (r + 1)) c.requires.ring)

pub lay-requires-clause-oldest : goal.lay-requires-clause-oldest
lay-requires-clause-oldest g c =
    let e : Entry = record { pool = c.args.pool; block = c.args.block; name = c.args.name } in
    claim-oldest c.args.words.now.shared.key c.args.object c.args.by c.args.margin e c.args.seat.now.me.0 c.claim_entry-found.result.0 c.claim_entry-found.new.seat.me.0
    (subst (λ (t : Bool). ClaimEnds c.args.words.now.shared.key c.args.object c.args.by c.args.margin e c.args.seat.now.me.0 c.claim_entry-found.result.0 t c.claim_entry-found.new.seat.me.0) c.if-not-claimed.false c.claim_entry-found.ensures.ends)
    c.behind_last-cell.result (c.behind_last-cell.ensures.value ∙ ap (λ r. c.claim_entry-found.result.0 % 2097152 % (r + 1)) c.requires.ring) c.requires.none
