use Rattle.std.proofs.Common.{refl, arith}
use Rattle.qp_plain_sound.specs.View.{view_of}
use Rattle.qp_plain.proofs.Calling.{stop-stays, signal-at}
use Rattle.qp_plain.proofs.SignalCalls as signal
use Rattle.qp_plain.proofs.SignalTable.{there, named}
use Rattle.qp_plain.proofs.calls.PlainWorldOps.subscribers.Goals as goal

pub index-word-requires : goal.index-word-requires
index-word-requires c = let lt = there c.args.self.now c.args.sig c.from.result (named c.args.self.now c.args.sig c.requires.signal) c.from.ensures in omega (arith, lt, c.args.self.now.signals.ok.0)

pub add-requires-clause-room : goal.add-requires-clause-room
unfolding view_of
add-requires-clause-room c = c.requires.room

pub invariant_of-self : goal.invariant_of-self
invariant_of-self c = record {
  holds = signal.read-holds c.args.self.now c.add.new.self c.publish.result c.add.ensures.gains c.args.sig c.index-word.result.now.ops c.index-word.result.now (named c.args.self.now c.args.sig c.requires.signal) (signal-at c.args.self.now c.args.sig c.from.result c.index-word.result.now (named c.args.self.now c.args.sig c.requires.signal) c.from.ensures c.index-word.ensures) refl c.publish.ensures;
  stops = stop-stays c.args.self.now.stop c.args.self.now.book c.add.new.self c.add.ensures.gains.stays c.args.self.now.stops;
}

pub returns : goal.returns
returns c = signal.read-it c.args.self.now c.add.new.self c.publish.result c.add.ensures.gains c.args.sig c.index-word.result.now.ops c.index-word.result.now (named c.args.self.now c.args.sig c.requires.signal) (signal-at c.args.self.now c.args.sig c.from.result c.index-word.result.now (named c.args.self.now c.args.sig c.requires.signal) c.from.ensures c.index-word.ensures) refl c.add.ensures.spare c.publish.ensures
