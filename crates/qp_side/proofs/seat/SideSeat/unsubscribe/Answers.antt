use Rattle.std.proofs.Common.{◌==◌, ◌∷◌, [], ◌/◌, sym, ap, ◌∙◌}
use Rattle.qp_table.specs.After.{rec_of}
use Rattle.qp_model.specs.declared.words.Word.TheVariants as word
use Rattle.qp_side.proofs.Calling.{some-serve, room-of, looked-room, looked-serves, away-already, goes-now, bit-on, more-recs, stays-as, unsubscribes-adds}
use Rattle.qp_side.proofs.seat.SideSeat.unsubscribe.Goals as goal

pub look_for-shown-requires-clause-serves : goal.look_for-shown-requires-clause-serves
look_for-shown-requires-clause-serves c = some-serve c.args.o c.args.self.now.seat.me.0.view.serves c.requires.serves

pub returns-then-not-has_bit-clause-unsubscribes : goal.returns-then-not-has_bit-clause-unsubscribes
returns-then-not-has_bit-clause-unsubscribes c =
    away-already c.args.self.now.words.now.shared.key c.args.self.now.fitting c.args.o c.args.sig c.requires.signal c.args.self.now.seat.me.0 c.look_for-shown.new.seat.me.0 c.look_for-shown.result c.record_of.result c.look_for-shown.ensures.told (sym c.has_bit.ensures ∙ c.if-not-has_bit.true)
    (c.record_of.ensures ∙ ap (λ s. rec_of 33 c.args.o (s ∷ (c.look_for-shown.result / 4294967296) ∷ [])) c.from.ensures)

pub take-found-requires-clause-room : goal.take-found-requires-clause-room
take-found-requires-clause-room c = looked-room 0 c.args.o c.args.sig c.args.self.now.seat.me.0 c.look_for-shown.new.seat.me.0 c.look_for-shown.result c.look_for-shown.ensures.told (bit-on c.args.self.now.words.now.shared.key c.args.self.now.fitting c.args.o c.args.sig c.requires.signal c.args.self.now.seat.me.0 c.look_for-shown.result (sym c.has_bit.ensures ∙ c.if-not-has_bit.false)) (room-of c.args.self.now.seat.me.0 c.args.self.now.lane c.requires.room)

pub take-found-requires-clause-serves : goal.take-found-requires-clause-serves
take-found-requires-clause-serves c = looked-serves 0 c.args.o c.args.sig c.args.self.now.seat.me.0 c.look_for-shown.new.seat.me.0 c.look_for-shown.result c.look_for-shown.ensures.told (bit-on c.args.self.now.words.now.shared.key c.args.self.now.fitting c.args.o c.args.sig c.requires.signal c.args.self.now.seat.me.0 c.look_for-shown.result (sym c.has_bit.ensures ∙ c.if-not-has_bit.false)) c.requires.serves

pub returns-clause-unsubscribes : goal.returns-clause-unsubscribes
returns-clause-unsubscribes c =
    goes-now c.args.self.now.words.now.shared.key c.args.self.now.fitting c.args.o c.args.sig c.requires.signal c.args.self.now.seat.me.0 c.look_for-shown.new.seat.me.0 c.take-found.new.seat.me.0 c.look_for-shown.result c.take-found.result c.record_of-2.result c.look_for-shown.ensures.told (sym c.has_bit.ensures ∙ c.if-not-has_bit.false) c.take-found.ensures.told
    (c.record_of-2.ensures ∙ ap (λ s. rec_of 32 c.args.o (s ∷ (c.take-found.result / 4294967296) ∷ [])) c.from-2.ensures)

pub returns-then-not-has_bit-clause-answered : goal.returns-then-not-has_bit-clause-answered
returns-then-not-has_bit-clause-answered c = more-recs c.args.self.now.words.now.shared.key (word.Signal c.args.sig) c.record_of.result c.args.self.now.seat.me.0 c.look_for-shown.new.seat.me.0 c.args.self.now.lane (unsubscribes-adds c.args.self.now.words.now.shared.key c.args.o c.args.self.now.seat.me.0 c.record_of.result c.look_for-shown.new.seat.me.0 c.args.sig (c.record_of.result.kind == 32) (returns-then-not-has_bit-clause-unsubscribes c))

pub returns-then-not-has_bit-clause-stays : goal.returns-then-not-has_bit-clause-stays
returns-then-not-has_bit-clause-stays c = stays-as c.args.self.now.words.now.shared.key (word.Signal c.args.sig) c.record_of.result c.args.self.now.seat.me.0 c.look_for-shown.new.seat.me.0 (unsubscribes-adds c.args.self.now.words.now.shared.key c.args.o c.args.self.now.seat.me.0 c.record_of.result c.look_for-shown.new.seat.me.0 c.args.sig (c.record_of.result.kind == 32) (returns-then-not-has_bit-clause-unsubscribes c))

pub returns-clause-answered : goal.returns-clause-answered
returns-clause-answered c = more-recs c.args.self.now.words.now.shared.key (word.Signal c.args.sig) c.record_of-2.result c.args.self.now.seat.me.0 c.take-found.new.seat.me.0 c.args.self.now.lane (unsubscribes-adds c.args.self.now.words.now.shared.key c.args.o c.args.self.now.seat.me.0 c.record_of-2.result c.take-found.new.seat.me.0 c.args.sig (c.record_of-2.result.kind == 32) (returns-clause-unsubscribes c))

pub returns-clause-stays : goal.returns-clause-stays
returns-clause-stays c = stays-as c.args.self.now.words.now.shared.key (word.Signal c.args.sig) c.record_of-2.result c.args.self.now.seat.me.0 c.take-found.new.seat.me.0 (unsubscribes-adds c.args.self.now.words.now.shared.key c.args.o c.args.self.now.seat.me.0 c.record_of-2.result c.take-found.new.seat.me.0 c.args.sig (c.record_of-2.result.kind == 32) (returns-clause-unsubscribes c))
