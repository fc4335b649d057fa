use Rattle.std.proofs.Common.{true, false, refl, sym, ◌∙◌, arith}
use Rattle.qp_plain_sound.specs.View.{view_of}
use Rattle.qp_plain.proofs.Calling.{stop-stays, signal-at}
use Rattle.qp_plain.proofs.SignalCalls as signal
use Rattle.qp_plain.proofs.SignalTable.{there, put, kept, few, mine, named}
use Rattle.qp_plain.proofs.calls.PlainWorldOps.unsubscribe.Goals as goal

pub index_mut-word-requires : goal.index_mut-word-requires
index_mut-word-requires c = let lt = there c.args.self.now c.args.sig c.from.result (named c.args.self.now c.args.sig c.requires.signal) c.from.ensures in omega (arith, lt, c.args.self.now.signals.ok.0)

pub has-requires-clause-some : goal.has-requires-clause-some
has-requires-clause-some c = (c.args.self.now.holds.limits.objects c.args.self.now.by (mine c.args.self.now c.requires.object)).0

pub has-requires-clause-within : goal.has-requires-clause-within
has-requires-clause-within c = (c.args.self.now.holds.limits.objects c.args.self.now.by (mine c.args.self.now c.requires.object)).1

pub take-requires-clause-some : goal.take-requires-clause-some
take-requires-clause-some c = (c.args.self.now.holds.limits.objects c.args.self.now.by (mine c.args.self.now c.requires.object)).0

pub take-requires-clause-within : goal.take-requires-clause-within
take-requires-clause-within c = (c.args.self.now.holds.limits.objects c.args.self.now.by (mine c.args.self.now c.requires.object)).1

pub take-requires-clause-few : goal.take-requires-clause-few
take-requires-clause-few c = few c.args.self.now c.args.sig c.index_mut-word.result.now (named c.args.self.now c.args.sig c.requires.signal) (signal-at c.args.self.now c.args.sig c.from.result c.index_mut-word.result.now (named c.args.self.now c.args.sig c.requires.signal) c.from.ensures c.index_mut-word.ensures.value)

pub add-requires-clause-room : goal.add-requires-clause-room
unfolding view_of
add-requires-clause-room c = c.requires.room

pub add-requires-2-clause-room : goal.add-requires-2-clause-room
unfolding view_of
add-requires-2-clause-room c = c.requires.room

pub invariant_of-self : goal.invariant_of-self
invariant_of-self c = record {
  holds = kept c.args.self.now c.add.new.self c.from.result c.index_mut-word.result.now c.index_mut-word.ensures.value (signal.same-holds c.args.self.now c.add.new.self c.same.result c.add.ensures.gains c.args.sig c.index_mut-word.result.now.ops c.index_mut-word.result.now (named c.args.self.now c.args.sig c.requires.signal) (signal-at c.args.self.now c.args.sig c.from.result c.index_mut-word.result.now (named c.args.self.now c.args.sig c.requires.signal) c.from.ensures c.index_mut-word.ensures.value) refl c.same.ensures);
  stops = stop-stays c.args.self.now.stop c.args.self.now.book c.add.new.self c.add.ensures.gains.stays c.args.self.now.stops;
}

pub returns-then-not-has : goal.returns-then-not-has
returns-then-not-has c = signal.take-not c.args.self.now c.add.new.self c.same.result c.add.ensures.gains c.args.sig c.index_mut-word.result.now.ops c.index_mut-word.result.now (named c.args.self.now c.args.sig c.requires.signal) (signal-at c.args.self.now c.args.sig c.from.result c.index_mut-word.result.now (named c.args.self.now c.args.sig c.requires.signal) c.from.ensures c.index_mut-word.ensures.value) refl c.add.ensures.spare c.same.ensures (signal.member c.args.self.now c.add.new.self c.same.result c.add.ensures.gains c.args.sig c.index_mut-word.result.now.ops c.index_mut-word.result.now (named c.args.self.now c.args.sig c.requires.signal) (signal-at c.args.self.now c.args.sig c.from.result c.index_mut-word.result.now (named c.args.self.now c.args.sig c.requires.signal) c.from.ensures c.index_mut-word.ensures.value) refl (mine c.args.self.now c.requires.object) false (sym c.if-not-has.true ∙ c.has.ensures))

pub invariant_of-self-2 : goal.invariant_of-self-2
invariant_of-self-2 c = record {
  holds = put c.args.self.now c.add-2.new.self c.args.sig c.from.result c.take.new.self c.from.ensures (signal.take-holds c.args.self.now c.add-2.new.self c.unsub.result c.add-2.ensures.gains c.args.sig c.index_mut-word.result.now.ops c.index_mut-word.result.now (named c.args.self.now c.args.sig c.requires.signal) (signal-at c.args.self.now c.args.sig c.from.result c.index_mut-word.result.now (named c.args.self.now c.args.sig c.requires.signal) c.from.ensures c.index_mut-word.ensures.value) refl (mine c.args.self.now c.requires.object) c.take.new.self c.unsub.ensures (signal.member c.args.self.now c.add-2.new.self c.unsub.result c.add-2.ensures.gains c.args.sig c.index_mut-word.result.now.ops c.index_mut-word.result.now (named c.args.self.now c.args.sig c.requires.signal) (signal-at c.args.self.now c.args.sig c.from.result c.index_mut-word.result.now (named c.args.self.now c.args.sig c.requires.signal) c.from.ensures c.index_mut-word.ensures.value) refl (mine c.args.self.now c.requires.object) true (sym c.if-not-has.false ∙ c.has.ensures)) c.take.ensures.ops c.take.ensures.set);
  stops = stop-stays c.args.self.now.stop c.args.self.now.book c.add-2.new.self c.add-2.ensures.gains.stays c.args.self.now.stops;
}

pub returns : goal.returns
returns c = signal.take-it c.args.self.now c.add-2.new.self c.unsub.result c.add-2.ensures.gains c.args.sig c.index_mut-word.result.now.ops c.index_mut-word.result.now (named c.args.self.now c.args.sig c.requires.signal) (signal-at c.args.self.now c.args.sig c.from.result c.index_mut-word.result.now (named c.args.self.now c.args.sig c.requires.signal) c.from.ensures c.index_mut-word.ensures.value) refl c.add-2.ensures.spare c.unsub.ensures (signal.member c.args.self.now c.add-2.new.self c.unsub.result c.add-2.ensures.gains c.args.sig c.index_mut-word.result.now.ops c.index_mut-word.result.now (named c.args.self.now c.args.sig c.requires.signal) (signal-at c.args.self.now c.args.sig c.from.result c.index_mut-word.result.now (named c.args.self.now c.args.sig c.requires.signal) c.from.ensures c.index_mut-word.ensures.value) refl (mine c.args.self.now c.requires.object) true (sym c.if-not-has.false ∙ c.has.ensures))
