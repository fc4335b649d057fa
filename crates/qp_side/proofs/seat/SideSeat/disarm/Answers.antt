use Rattle.std.proofs.Common.{◌==◌, ℕ, ◌+◌, ◌/◌, ◌%◌, ◌≤◌, cond, [], ◌∷◌, ap, subst, ◌∙◌}
use Rattle.qp_table.specs.After.{rec_of}
use Rattle.qp_side.specs.Rule.{timer_at}
use Rattle.qp_side.specs.Told.{last_seen}
use Rattle.qp_side.specs.Tries.{DisarmEnds}
use Rattle.qp_model.specs.declared.words.Word.TheVariants as word
use Rattle.qp_side.proofs.Calling.{owned-timer, disarms, disarms-not, disarm-tries, idle-tries, more-recs, stays-as, disarms-adds}
use Rattle.qp_side.proofs.seat.SideSeat.disarm.Goals as goal

pub returns-then-not-done-clause-disarms : goal.returns-then-not-done-clause-disarms
returns-then-not-done-clause-disarms g c = disarms-not c.args.self.now.words.now.shared.key c.args.self.now.fitting c.args.o c.args.t (owned-timer c.args.self.now.words.now.shared.key c.args.o c.args.t c.requires.owns) c.args.self.now.seat.me.0 c.try_disarm-found.new.seat.me.0 c.try_disarm-found.result.0 c.record_of.result (subst (λ b. DisarmEnds c.args.o c.args.t c.args.self.now.seat.me.0 c.try_disarm-found.result.0 b c.try_disarm-found.new.seat.me.0) c.if-not-done.true c.try_disarm-found.ensures.ends) (c.record_of.ensures ∙ ap (λ t. rec_of 37 c.args.o (t ∷ (c.try_disarm-found.result.0 / 4294967296) ∷ [])) c.from-t.ensures)

pub returns-then-not-done-clause-tries : goal.returns-then-not-done-clause-tries
returns-then-not-done-clause-tries g c = idle-tries c.args.self.now.words.now.shared.key c.args.self.now.fitting c.args.o c.args.t (owned-timer c.args.self.now.words.now.shared.key c.args.o c.args.t c.requires.owns) c.args.self.now.seat.me.0 c.try_disarm-found.new.seat.me.0 c.try_disarm-found.result.0 c.args.steps.now c.try_disarm-found.new.steps c.record_of.result c.try_disarm-found.ensures.up (subst (λ b. DisarmEnds c.args.o c.args.t c.args.self.now.seat.me.0 c.try_disarm-found.result.0 b c.try_disarm-found.new.seat.me.0) c.if-not-done.true c.try_disarm-found.ensures.ends) (c.record_of.ensures ∙ ap (λ t. rec_of 37 c.args.o (t ∷ (c.try_disarm-found.result.0 / 4294967296) ∷ [])) c.from-t.ensures)
    (subst (λ b. c.try_disarm-found.new.steps + last_seen (timer_at c.args.t) c.args.self.now.seat.me.0 / 4294967296 ≤ c.args.steps.now + cond {A = ℕ} b 1 0 + c.try_disarm-found.result.0 / 4294967296) c.if-not-done.true c.try_disarm-found.ensures.tries)

pub returns-clause-disarms : goal.returns-clause-disarms
returns-clause-disarms g c = disarms c.args.self.now.words.now.shared.key c.args.self.now.fitting c.args.o c.args.t (owned-timer c.args.self.now.words.now.shared.key c.args.o c.args.t c.requires.owns) c.args.self.now.seat.me.0 c.try_disarm-found.new.seat.me.0 c.try_disarm-found.result.0 c.record_of-2.result (subst (λ b. DisarmEnds c.args.o c.args.t c.args.self.now.seat.me.0 c.try_disarm-found.result.0 b c.try_disarm-found.new.seat.me.0) c.if-not-done.false c.try_disarm-found.ensures.ends) (c.record_of-2.ensures ∙ ap (λ t. rec_of 35 c.args.o (t ∷ (c.try_disarm-found.result.0 / 4294967296) ∷ (c.try_disarm-found.result.0 % 65536) ∷ [])) c.from-t.ensures)

pub returns-clause-tries : goal.returns-clause-tries
returns-clause-tries g c = disarm-tries c.args.self.now.words.now.shared.key c.args.self.now.fitting c.args.o c.args.t (owned-timer c.args.self.now.words.now.shared.key c.args.o c.args.t c.requires.owns) c.args.self.now.seat.me.0 c.try_disarm-found.new.seat.me.0 c.try_disarm-found.result.0 c.args.steps.now c.try_disarm-found.new.steps c.record_of-2.result c.try_disarm-found.ensures.up (subst (λ b. DisarmEnds c.args.o c.args.t c.args.self.now.seat.me.0 c.try_disarm-found.result.0 b c.try_disarm-found.new.seat.me.0) c.if-not-done.false c.try_disarm-found.ensures.ends) (c.record_of-2.ensures ∙ ap (λ t. rec_of 35 c.args.o (t ∷ (c.try_disarm-found.result.0 / 4294967296) ∷ (c.try_disarm-found.result.0 % 65536) ∷ [])) c.from-t.ensures)
    (subst (λ b. c.try_disarm-found.new.steps + last_seen (timer_at c.args.t) c.args.self.now.seat.me.0 / 4294967296 ≤ c.args.steps.now + cond {A = ℕ} b 1 0 + c.try_disarm-found.result.0 / 4294967296) c.if-not-done.false c.try_disarm-found.ensures.tries)

pub returns-then-not-done-clause-answered : goal.returns-then-not-done-clause-answered
returns-then-not-done-clause-answered g c = more-recs c.args.self.now.words.now.shared.key (word.Timer c.args.t) c.record_of.result c.args.self.now.seat.me.0 c.try_disarm-found.new.seat.me.0 c.args.self.now.lane (disarms-adds c.args.self.now.words.now.shared.key c.args.o c.args.self.now.seat.me.0 c.record_of.result c.try_disarm-found.new.seat.me.0 c.args.t (c.record_of.result.kind == 35) (returns-then-not-done-clause-disarms g c))

pub returns-then-not-done-clause-stays : goal.returns-then-not-done-clause-stays
returns-then-not-done-clause-stays g c = stays-as c.args.self.now.words.now.shared.key (word.Timer c.args.t) c.record_of.result c.args.self.now.seat.me.0 c.try_disarm-found.new.seat.me.0 (disarms-adds c.args.self.now.words.now.shared.key c.args.o c.args.self.now.seat.me.0 c.record_of.result c.try_disarm-found.new.seat.me.0 c.args.t (c.record_of.result.kind == 35) (returns-then-not-done-clause-disarms g c))

pub returns-clause-answered : goal.returns-clause-answered
returns-clause-answered g c = more-recs c.args.self.now.words.now.shared.key (word.Timer c.args.t) c.record_of-2.result c.args.self.now.seat.me.0 c.try_disarm-found.new.seat.me.0 c.args.self.now.lane (disarms-adds c.args.self.now.words.now.shared.key c.args.o c.args.self.now.seat.me.0 c.record_of-2.result c.try_disarm-found.new.seat.me.0 c.args.t (c.record_of-2.result.kind == 35) (returns-clause-disarms g c))

pub returns-clause-stays : goal.returns-clause-stays
returns-clause-stays g c = stays-as c.args.self.now.words.now.shared.key (word.Timer c.args.t) c.record_of-2.result c.args.self.now.seat.me.0 c.try_disarm-found.new.seat.me.0 (disarms-adds c.args.self.now.words.now.shared.key c.args.o c.args.self.now.seat.me.0 c.record_of-2.result c.try_disarm-found.new.seat.me.0 c.args.t (c.record_of-2.result.kind == 35) (returns-clause-disarms g c))
