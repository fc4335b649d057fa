use Rattle.std.proofs.Common.{◌∷◌, [], ◌/◌, ◌%◌, ap, ◌∙◌}
use Rattle.qp_table.specs.After.{rec_of}
use Rattle.qp_model.specs.declared.words.Word.TheVariants as word
use Rattle.qp_side.proofs.Calling.{shows-set, more-recs, stays-as}
use Rattle.qp_side.proofs.seat.SideSeat.subscribers.Goals as goal

pub returns-clause-shows : goal.returns-clause-shows
returns-clause-shows c =
    let n = c.look_at_all-found.result in
    shows-set c.args.self.now.words.now.shared.key c.args.self.now.fitting c.args.o c.args.sig c.requires.signal c.args.self.now.seat.me.0 c.look_at_all-found.new.seat.me.0 n c.record_of.result c.look_at_all-found.ensures.told
    (c.record_of.ensures ∙ ap (λ s. rec_of 23 c.args.o (s ∷ (n / 4294967296) ∷ (n % 4294967296) ∷ [])) c.from.ensures)

pub returns-clause-answered : goal.returns-clause-answered
returns-clause-answered c = more-recs c.args.self.now.words.now.shared.key (word.Signal c.args.sig) c.record_of.result c.args.self.now.seat.me.0 c.look_at_all-found.new.seat.me.0 c.args.self.now.lane (_, (returns-clause-shows c).adds)

pub returns-clause-stays : goal.returns-clause-stays
returns-clause-stays c = stays-as c.args.self.now.words.now.shared.key (word.Signal c.args.sig) c.record_of.result c.args.self.now.seat.me.0 c.look_at_all-found.new.seat.me.0 (_, (returns-clause-shows c).adds)
