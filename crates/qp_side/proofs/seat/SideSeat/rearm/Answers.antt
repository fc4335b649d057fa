use Rattle.std.proofs.Common.{◌/◌, ◌%◌, [], ◌∷◌, ◌∙◌, arith}
use Rattle.qp_table.specs.After.{rec_of}
use Rattle.qp_model.specs.declared.words.Word.TheVariants as word
use Rattle.qp_side.proofs.Calling.{owned-timer, rearms, rearm-tries, more-recs, stays-as}
use Rattle.qp_side.proofs.seat.SideSeat.rearm.Goals as goal

pub returns-clause-rearms : goal.returns-clause-rearms
returns-clause-rearms g c = rearms c.args.self.now.words.now.shared.key c.args.self.now.fitting c.args.o c.args.t (owned-timer c.args.self.now.words.now.shared.key c.args.o c.args.t c.requires.owns) c.args.self.now.seat.me.0 c.try_rearm-found.new.seat.me.0 c.try_rearm-found.result c.args.ticks c.record_of.result (omega arith) c.try_rearm-found.ensures.ends (c.record_of.ensures ∙ (λ i. rec_of 36 c.args.o (c.from.ensures i ∷ (c.try_rearm-found.result / 4294967296) ∷ (c.try_rearm-found.result % 65536) ∷ c.from-2.ensures i ∷ [])))

pub returns-clause-tries : goal.returns-clause-tries
returns-clause-tries g c = rearm-tries c.args.self.now.words.now.shared.key c.args.self.now.fitting c.args.o c.args.t (owned-timer c.args.self.now.words.now.shared.key c.args.o c.args.t c.requires.owns) c.args.self.now.seat.me.0 c.try_rearm-found.new.seat.me.0 c.try_rearm-found.result c.args.steps.now c.try_rearm-found.new.steps c.record_of.result c.try_rearm-found.ensures.up c.args.ticks (omega arith) c.try_rearm-found.ensures.ends (c.record_of.ensures ∙ (λ i. rec_of 36 c.args.o (c.from.ensures i ∷ (c.try_rearm-found.result / 4294967296) ∷ (c.try_rearm-found.result % 65536) ∷ c.from-2.ensures i ∷ []))) c.try_rearm-found.ensures.tries

pub returns-clause-answered : goal.returns-clause-answered
returns-clause-answered g c = more-recs c.args.self.now.words.now.shared.key (word.Timer c.args.t) c.record_of.result c.args.self.now.seat.me.0 c.try_rearm-found.new.seat.me.0 c.args.self.now.lane (_, (returns-clause-rearms g c).draws.adds)

pub returns-clause-stays : goal.returns-clause-stays
returns-clause-stays g c = stays-as c.args.self.now.words.now.shared.key (word.Timer c.args.t) c.record_of.result c.args.self.now.seat.me.0 c.try_rearm-found.new.seat.me.0 (_, (returns-clause-rearms g c).draws.adds)
