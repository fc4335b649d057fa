use Rattle.std.proofs.Common.{◌<◌, refl, subst, arith, ◌∙◌}
use Rattle.qp_table.specs.Rule.{queue_at, mark_in}
use Rattle.qp_model.specs.declared.words.Word.TheVariants as word
use Rattle.qp_table.specs.Words.{value_seen}
use Rattle.qp_table.specs.Told.{free_in}
use Rattle.qp_shared_loops.proofs.Following.{keeps-room, keeps-hand, last-is, risen, few-takes, mark-below, enough-free, no-tries, one-try, less-left}
use Rattle.qp_shared_loops.proofs.Posting.{looked-on, claims-on}
use Rattle.qp_shared_loops.proofs.posts.claim_entry.Goals as goal

pub loop-found-init : goal.loop-found-init
loop-found-init g c =
    let least = c.from-least.ensures ∙ c.unwrap_or.ensures in
    let enough = enough-free c.args.words.now.shared.key c.args.object c.args.ring c.from-least.result c.args.margin c.free_in.result c.look_before_post-found.result c.requires.ring least c.free_in.ensures c.if-free_in-least.false in
    let seen = looked-on c.args.words.now.shared.key c.args.object c.args.by c.args.margin c.args.seat.now.me.0 c.look_before_post-found.new.seat.me.0 c.look_before_post-found.result c.look_before_post-found.ensures.told enough in
    record {
      same = c.look_before_post-found.ensures.same;
      seen = seen;
      least = least;
      enough = subst (λ k. c.from-least.result < k) c.free_in.ensures c.if-free_in-least.false;
      up = omega arith;
      tries = no-tries c.args.steps.now (mark_in (queue_at c.args.object) (value_seen c.args.words.now.shared.key (word.Queue c.args.object) c.args.seat.now.me.0.seen)) (mark_in (queue_at c.args.object) c.look_before_post-found.result) (risen c.args.words.now.shared.key c.args.object c.args.seat.now.me.0 c.look_before_post-found.new.seat.me.0 c.look_before_post-found.result seen);
    }

pub loop-found-preserved : goal.loop-found-preserved
loop-found-preserved g c =
    let i = c.loop-found.invariant in
    let enough = enough-free c.args.words.now.shared.key c.args.object c.args.ring c.from-least.result c.args.margin c.free_in-in-loop-found.result c.claim-now.result c.requires.ring i.least c.free_in-in-loop-found.ensures c.if-free_in-least-2.false in
    let next = claims-on c.args.words.now.shared.key c.args.object c.args.by c.args.margin (record { pool = c.args.pool; block = c.args.block; name = c.args.name }) c.args.seat.now.me.0 c.loop-found.seat.me.0 c.claim-now.new.seat.me.0 c.loop-found.found c.claim-now.result i.seen c.claim-now.ensures.told c.if-now-found.false enough in
    record {
      same = (c.claim-now.ensures.same.0 ∙ i.same.0, c.claim-now.ensures.same.1 ∙ i.same.1);
      seen = next.0;
      least = i.least;
      enough = subst (λ k. c.from-least.result < k) c.free_in-in-loop-found.ensures c.if-free_in-least-2.false;
      up = let u = i.up in let e = c.claim-now.ensures.counted in omega arith;
      tries = one-try c.args.steps.now c.loop-found.steps c.claim-now.new.steps (mark_in (queue_at c.args.object) (value_seen c.args.words.now.shared.key (word.Queue c.args.object) c.args.seat.now.me.0.seen)) (mark_in (queue_at c.args.object) c.loop-found.found) (mark_in (queue_at c.args.object) c.claim-now.result) c.claim-now.ensures.counted i.tries next.1;
    }

pub loop-found-smaller : goal.loop-found-smaller
loop-found-smaller g c =
    let i = c.loop-found.invariant in
    let enough = enough-free c.args.words.now.shared.key c.args.object c.args.ring c.from-least.result c.args.margin c.free_in-in-loop-found.result c.claim-now.result c.requires.ring i.least c.free_in-in-loop-found.ensures c.if-free_in-least-2.false in
    let next = claims-on c.args.words.now.shared.key c.args.object c.args.by c.args.margin (record { pool = c.args.pool; block = c.args.block; name = c.args.name }) c.args.seat.now.me.0 c.loop-found.seat.me.0 c.claim-now.new.seat.me.0 c.loop-found.found c.claim-now.result i.seen c.claim-now.ensures.told c.if-now-found.false enough in
    less-left 8000000 (mark_in (queue_at c.args.object) c.loop-found.found) (mark_in (queue_at c.args.object) c.claim-now.result) (mark-below c.args.words.now.shared.key c.args.object c.args.seat.now.me.0 c.loop-found.seat.me.0 c.loop-found.found i.seen) next.1

pub claim-now-requires-clause-own : goal.claim-now-requires-clause-own
claim-now-requires-clause-own g c = c.loop-found.invariant.same.0 ∙ c.requires.own

pub claim-now-requires-clause-room : goal.claim-now-requires-clause-room
claim-now-requires-clause-room g c = keeps-room c.args.seat.now.me.0 c.loop-found.seat.me.0 c.loop-found.invariant.seen.is c.requires.room

pub claim-now-requires-clause-hand : goal.claim-now-requires-clause-hand
claim-now-requires-clause-hand g c = keeps-hand c.args.seat.now.me.0 c.loop-found.seat.me.0 c.loop-found.invariant.seen.is c.args.words.now.shared.key (record { pool = c.args.pool; block = c.args.block; name = c.args.name }) c.requires.hand

pub claim-now-requires-clause-last : goal.claim-now-requires-clause-last
claim-now-requires-clause-last g c = last-is c.args.words.now.shared.key c.args.object c.args.seat.now.me.0 c.loop-found.seat.me.0 c.loop-found.found c.loop-found.invariant.seen

pub claim-now-requires-clause-free : goal.claim-now-requires-clause-free
claim-now-requires-clause-free g c = enough-free c.args.words.now.shared.key c.args.object c.args.ring c.from-least.result c.args.margin (free_in c.args.ring c.loop-found.found) c.loop-found.found c.requires.ring c.loop-found.invariant.least refl c.loop-found.invariant.enough

pub claim-now-requires-clause-small : goal.claim-now-requires-clause-small
claim-now-requires-clause-small g c = few-takes c.args.words.now.shared.key c.args.object c.args.seat.now.me.0 c.loop-found.seat.me.0 c.loop-found.found c.loop-found.invariant.seen
