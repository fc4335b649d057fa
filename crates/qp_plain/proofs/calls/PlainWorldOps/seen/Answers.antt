use Rattle.std.proofs.Common.{refl, arith}
use Rattle.qp_plain_sound.specs.View.{view_of}
use Rattle.qp_plain.proofs.Calling.{stop-stays, queue-at}
use Rattle.qp_plain.proofs.QueueCalls as queue
use Rattle.qp_plain.proofs.QueueTable.{mine, there}
use Rattle.qp_plain.proofs.calls.PlainWorldOps.seen.Goals as goal

pub index-requires : goal.index-requires
index-requires c = let lt = there c.args.self.now c.args.p c.from.result (mine c.args.self.now c.args.p c.requires.object) c.from.ensures in omega (arith, lt, c.args.self.now.queues.ok.0)

pub add-requires-clause-room : goal.add-requires-clause-room
unfolding view_of
add-requires-clause-room c = c.requires.room

pub invariant_of-self : goal.invariant_of-self
invariant_of-self c = record {
  holds = queue.seen-holds c.args.self.now c.add.new.self c.seen.result c.add.ensures.gains c.args.p c.counts-now.result.f c.counts-now.result.l c.counts-now.result.m c.index.result.now (mine c.args.self.now c.args.p c.requires.object) (queue-at c.args.self.now c.args.p c.from.result c.index.result.now (mine c.args.self.now c.args.p c.requires.object) c.from.ensures c.index.ensures) c.counts-now.ensures.f c.counts-now.ensures.l c.counts-now.ensures.m c.seen.ensures;
  stops = stop-stays c.args.self.now.stop c.args.self.now.book c.add.new.self c.add.ensures.gains.stays c.args.self.now.stops;
}

pub returns : goal.returns
returns c = queue.seen-it c.args.self.now c.add.new.self c.seen.result c.add.ensures.gains c.args.p c.counts-now.result.f c.counts-now.result.l c.counts-now.result.m c.index.result.now (mine c.args.self.now c.args.p c.requires.object) (queue-at c.args.self.now c.args.p c.from.result c.index.result.now (mine c.args.self.now c.args.p c.requires.object) c.from.ensures c.index.ensures) c.counts-now.ensures.f c.counts-now.ensures.l c.counts-now.ensures.m c.add.ensures.spare c.counts-now.result refl refl refl c.seen.ensures
