use Rattle.std.proofs.Common.{◌<◌, subst, arith, ◌∙◌}
use Rattle.qp_table.specs.Rule.{queue_at, mark_in}
use Rattle.qp_model.specs.declared.words.Word.TheVariants as word
use Rattle.qp_table.specs.Words.{value_seen}
use Rattle.qp_table.specs.Told.{free_in}
use Rattle.qp_shared_loops.proofs.Following.{one-try}
use Rattle.qp_shared_loops.proofs.LastIn.{puts-first, puts-on}
use Rattle.qp_shared_loops.proofs.last_in.claim_entry_last_in.Goals as goal

pub returns-then-now-found-clause-ends : goal.returns-then-now-found-clause-ends
returns-then-now-found-clause-ends g c =
    let i = c.loop-found.invariant in
    puts-first c.args.words.now.shared.key c.args.object (record { pool = c.args.pool; block = c.args.block; name = c.args.name }) c.args.seat.now.me.0 c.loop-found.seat.me.0 c.claim_last_in-now.new.seat.me.0 c.loop-found.found c.claim_last_in-now.result i.seen c.claim_last_in-now.ensures.told c.if-now-found.true (subst (λ r. 0 < free_in r c.loop-found.found) c.requires.ring i.enough)

pub loop-found-preserved : goal.loop-found-preserved
loop-found-preserved g c =
    let i = c.loop-found.invariant in
    let f = c.if-free_in-eq0-2.false in
    let some : 0 < c.free_in-in-loop-found.result = omega arith in
    let enough : 0 < free_in c.args.ring c.claim_last_in-now.result = subst (λ k. 0 < k) c.free_in-in-loop-found.ensures some in
    let next = puts-on c.args.words.now.shared.key c.args.object (record { pool = c.args.pool; block = c.args.block; name = c.args.name }) c.args.seat.now.me.0 c.loop-found.seat.me.0 c.claim_last_in-now.new.seat.me.0 c.loop-found.found c.claim_last_in-now.result i.seen c.claim_last_in-now.ensures.told c.if-now-found.false (subst (λ r. 0 < free_in r c.claim_last_in-now.result) c.requires.ring enough) in
    record {
      same = (c.claim_last_in-now.ensures.same.0 ∙ i.same.0, c.claim_last_in-now.ensures.same.1 ∙ i.same.1);
      seen = next.0;
      enough = enough;
      up = let u = i.up in let e = c.claim_last_in-now.ensures.counted in omega arith;
      tries = one-try c.args.steps.now c.loop-found.steps c.claim_last_in-now.new.steps (mark_in (queue_at c.args.object) (value_seen c.args.words.now.shared.key (word.Queue c.args.object) c.args.seat.now.me.0.seen)) (mark_in (queue_at c.args.object) c.loop-found.found) (mark_in (queue_at c.args.object) c.claim_last_in-now.result) c.claim_last_in-now.ensures.counted i.tries next.1;
    }
