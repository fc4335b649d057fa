use Rattle.std.proofs.Common.{[]}
use Rattle.qp_dispatch.proofs.PartLemmas.{cut-lost, stand-in}
use Rattle.qp_dispatch.proofs.PublishLemmas.{asserts-post, fewer-post, goes-post, going-assert, going-on}
use Rattle.qp_dispatch.proofs.publication.go_on.Goals as goal

pub returns-then-left-eq0 : goal.returns-then-left-eq0
returns-then-left-eq0 g c = record { goes = λ at. rw c.requires.none (c.finish.ensures at); fewer = rw c.requires.none tt }

pub publish_post-requires-clause-stands : goal.publish_post-requires-clause-stands
publish_post-requires-clause-stands g c = stand-in c.args.lasting.now.list.entries.items c.args.from.publication.entry [] _ c.requires.stand

pub returns-in-Err : goal.returns-in-Err
returns-in-Err g c = record {
  goes = λ at. rw c.requires.none (cut-lost c.args.me at [] c.args.lasting.now c.args.from c.in-Err.fault _ _ c.in-Err.ensures);
  fewer = rw c.requires.none tt;
}

pub returns-in-Ok-Did-Assert : goal.returns-in-Ok-Did-Assert
returns-in-Ok-Did-Assert g c =
    let lane = g.O.Ops.lane in
    let a = c.in-Ok-Did-Assert in
    record {
      goes = λ at.
          rw c.requires.none
          (asserts-post c.args.me a.code at c.args.lasting.now c.args.from (lane c.args.ops.now) (lane c.publish_post.new.ops)
          (going-assert c.args.from.publication a.field-0 a.field-0-0 a.code (lane c.args.ops.now) (lane c.publish_post.new.ops) a.field-0-is a.field-0-0-is a.ensures));
      fewer = rw c.requires.none tt;
    }

pub returns-in-Ok-Going : goal.returns-in-Ok-Going
returns-in-Ok-Going g c =
    let lane = g.O.Ops.lane in
    let a = c.in-Ok-Going in
    let going = going-on c.args.from.publication a.publication a.field-0 (lane c.args.ops.now) (lane c.publish_post.new.ops) a.field-0-is a.ensures in
    record {
      goes = λ at. goes-post c.args.me c.args.ceiling.now at c.args.lasting.now c.args.from a.publication (lane c.args.ops.now) (lane c.publish_post.new.ops) c.requires.publishing going;
      fewer = fewer-post c.args.from.publication a.publication (lane c.args.ops.now) (lane c.publish_post.new.ops) going;
    }
