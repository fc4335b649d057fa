use Rattle.std.proofs.Common.{◌<◌, subst, arith, ◌∙◌}
use Rattle.qp_model.specs.declared.words.Word.TheVariants as word
use Rattle.qp_table.specs.Rule.{pool_at, mark_in}
use Rattle.qp_table.specs.Words.{value_seen}
use Rattle.qp_table.specs.Told.{free_of}
use Rattle.qp_shared_loops.proofs.Following.{one-try}
use Rattle.qp_shared_loops.proofs.Giving.{gives-on}
use Rattle.qp_shared_loops.proofs.gives.give_lowest.Goals as goal

pub loop-found-preserved : goal.loop-found-preserved
loop-found-preserved g c =
    let i = c.loop-found.invariant in
    let enough = subst (λ k. c.unwrap_or-least.result < k) c.free_of-in-loop-found.ensures c.if-free_of-least-2.false in
    let next = gives-on c.args.words.now.shared.key c.args.pool c.args.by c.args.reserve c.lowest-block.result c.args.ev.now.sig c.args.ev.now.pars.items c.args.seat.now.me.0 c.loop-found.seat.me.0 c.try_give-now.new.seat.me.0 c.loop-found.found _ c.try_give-now.result
    i.seen c.try_give-now.ensures.told c.if-now-found.false (subst (λ k. k < free_of c.try_give-now.result) i.least enough) in
    record {
      same = (c.try_give-now.ensures.same.0 ∙ i.same.0, c.try_give-now.ensures.same.1 ∙ i.same.1);
      seen = next.0;
      least = i.least;
      enough = enough;
      few = c.try_give-now.ensures.few;
      up = let u = i.up in let e = c.try_give-now.ensures.counted in omega arith;
      tries = one-try c.args.steps.now c.loop-found.steps c.try_give-now.new.steps (mark_in (pool_at c.args.pool) (value_seen c.args.words.now.shared.key (word.Pool c.args.pool) c.args.seat.now.me.0.seen)) (mark_in (pool_at c.args.pool) c.loop-found.found) (mark_in (pool_at c.args.pool) c.try_give-now.result) c.try_give-now.ensures.counted i.tries next.1;
    }
