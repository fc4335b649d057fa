use Rattle.std.proofs.Common.{◌==◌, ◌∷◌, [], ◌/◌, sym, ap, ◌∙◌}
use Rattle.qp_table.specs.After.{rec_of}
use Rattle.qp_model.specs.declared.words.Word.TheVariants as word
use Rattle.qp_side.proofs.Calling.{some-serve, room-of, looked-room, looked-serves, there-already, comes-now, more-recs, stays-as, subscribes-adds}
use Rattle.qp_side.proofs.seat.SideSeat.subscribe.Goals as goal

pub look_for-shown-requires-clause-serves : goal.look_for-shown-requires-clause-serves
look_for-shown-requires-clause-serves c = some-serve c.args.o c.args.self.now.seat.me.0.view.serves c.requires.serves

pub returns-then-has_bit-clause-subscribes : goal.returns-then-has_bit-clause-subscribes
returns-then-has_bit-clause-subscribes c =
    there-already c.args.self.now.words.now.shared.key c.args.self.now.fitting c.args.o c.args.sig c.requires.signal c.args.self.now.seat.me.0 c.look_for-shown.new.seat.me.0 c.look_for-shown.result c.record_of.result c.look_for-shown.ensures.told (sym c.has_bit.ensures ∙ c.if-has_bit.true)
    (c.record_of.ensures ∙ ap (λ s. rec_of 33 c.args.o (s ∷ (c.look_for-shown.result / 4294967296) ∷ [])) c.from.ensures)

pub put-found-requires-clause-room : goal.put-found-requires-clause-room
put-found-requires-clause-room c = looked-room 1 c.args.o c.args.sig c.args.self.now.seat.me.0 c.look_for-shown.new.seat.me.0 c.look_for-shown.result c.look_for-shown.ensures.told (sym c.has_bit.ensures ∙ c.if-has_bit.false) (room-of c.args.self.now.seat.me.0 c.args.self.now.lane c.requires.room)

pub put-found-requires-clause-serves : goal.put-found-requires-clause-serves
put-found-requires-clause-serves c = looked-serves 1 c.args.o c.args.sig c.args.self.now.seat.me.0 c.look_for-shown.new.seat.me.0 c.look_for-shown.result c.look_for-shown.ensures.told (sym c.has_bit.ensures ∙ c.if-has_bit.false) c.requires.serves

pub returns-clause-subscribes : goal.returns-clause-subscribes
returns-clause-subscribes c =
    comes-now c.args.self.now.words.now.shared.key c.args.self.now.fitting c.args.o c.args.sig c.requires.signal c.args.self.now.seat.me.0 c.look_for-shown.new.seat.me.0 c.put-found.new.seat.me.0 c.look_for-shown.result c.put-found.result c.record_of-2.result c.look_for-shown.ensures.told (sym c.has_bit.ensures ∙ c.if-has_bit.false) c.put-found.ensures.told
    (c.record_of-2.ensures ∙ ap (λ s. rec_of 31 c.args.o (s ∷ (c.put-found.result / 4294967296) ∷ [])) c.from-2.ensures)

pub returns-then-has_bit-clause-answered : goal.returns-then-has_bit-clause-answered
returns-then-has_bit-clause-answered c = more-recs c.args.self.now.words.now.shared.key (word.Signal c.args.sig) c.record_of.result c.args.self.now.seat.me.0 c.look_for-shown.new.seat.me.0 c.args.self.now.lane (subscribes-adds c.args.self.now.words.now.shared.key c.args.o c.args.self.now.seat.me.0 c.record_of.result c.look_for-shown.new.seat.me.0 c.args.sig (c.record_of.result.kind == 31) (returns-then-has_bit-clause-subscribes c))

pub returns-then-has_bit-clause-stays : goal.returns-then-has_bit-clause-stays
returns-then-has_bit-clause-stays c = stays-as c.args.self.now.words.now.shared.key (word.Signal c.args.sig) c.record_of.result c.args.self.now.seat.me.0 c.look_for-shown.new.seat.me.0 (subscribes-adds c.args.self.now.words.now.shared.key c.args.o c.args.self.now.seat.me.0 c.record_of.result c.look_for-shown.new.seat.me.0 c.args.sig (c.record_of.result.kind == 31) (returns-then-has_bit-clause-subscribes c))

pub returns-clause-answered : goal.returns-clause-answered
returns-clause-answered c = more-recs c.args.self.now.words.now.shared.key (word.Signal c.args.sig) c.record_of-2.result c.args.self.now.seat.me.0 c.put-found.new.seat.me.0 c.args.self.now.lane (subscribes-adds c.args.self.now.words.now.shared.key c.args.o c.args.self.now.seat.me.0 c.record_of-2.result c.put-found.new.seat.me.0 c.args.sig (c.record_of-2.result.kind == 31) (returns-clause-subscribes c))

pub returns-clause-stays : goal.returns-clause-stays
returns-clause-stays c = stays-as c.args.self.now.words.now.shared.key (word.Signal c.args.sig) c.record_of-2.result c.args.self.now.seat.me.0 c.put-found.new.seat.me.0 (subscribes-adds c.args.self.now.words.now.shared.key c.args.o c.args.self.now.seat.me.0 c.record_of-2.result c.put-found.new.seat.me.0 c.args.sig (c.record_of-2.result.kind == 31) (returns-clause-subscribes c))
