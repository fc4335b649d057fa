use Rattle.std.proofs.Common.{◌==◌, ℕ, ◌+◌, ◌/◌, ◌%◌, ◌≤◌, cond, [], ◌∷◌, ap, subst, ◌∙◌, arith}
use Rattle.qp_table.specs.After.{rec_of}
use Rattle.qp_side.specs.Rule.{timer_at}
use Rattle.qp_side.specs.Told.{last_seen}
use Rattle.qp_side.specs.Tries.{ArmEnds}
use Rattle.qp_model.specs.declared.words.Word.TheVariants as word
use Rattle.qp_side.proofs.Calling.{owned-timer, arms, arms-not, arm-tries, armed-tries, more-recs, stays-as, arms-adds}
use Rattle.qp_side.proofs.seat.SideSeat.arm.Goals as goal

pub returns-then-not-done-clause-arms : goal.returns-then-not-done-clause-arms
returns-then-not-done-clause-arms g c = arms-not c.args.self.now.words.now.shared.key c.args.self.now.fitting c.args.o c.args.t (owned-timer c.args.self.now.words.now.shared.key c.args.o c.args.t c.requires.owns) c.args.self.now.seat.me.0 c.try_arm-found.new.seat.me.0 c.try_arm-found.result.0 c.args.ticks c.args.interval c.record_of.result (subst (λ b. ArmEnds c.args.o c.args.t c.args.ticks c.args.interval c.args.self.now.seat.me.0 c.try_arm-found.result.0 b c.try_arm-found.new.seat.me.0) c.if-not-done.true c.try_arm-found.ensures.ends) (c.record_of.ensures ∙ ap (λ t. rec_of 42 c.args.o (3 ∷ t ∷ (c.try_arm-found.result.0 / 4294967296) ∷ (c.try_arm-found.result.0 % 65536) ∷ [])) c.from-t.ensures)

pub returns-then-not-done-clause-tries : goal.returns-then-not-done-clause-tries
returns-then-not-done-clause-tries g c = armed-tries c.args.self.now.words.now.shared.key c.args.self.now.fitting c.args.o c.args.t (owned-timer c.args.self.now.words.now.shared.key c.args.o c.args.t c.requires.owns) c.args.self.now.seat.me.0 c.try_arm-found.new.seat.me.0 c.try_arm-found.result.0 c.args.steps.now c.try_arm-found.new.steps c.record_of.result c.try_arm-found.ensures.up c.args.ticks c.args.interval (subst (λ b. ArmEnds c.args.o c.args.t c.args.ticks c.args.interval c.args.self.now.seat.me.0 c.try_arm-found.result.0 b c.try_arm-found.new.seat.me.0) c.if-not-done.true c.try_arm-found.ensures.ends) (c.record_of.ensures ∙ ap (λ t. rec_of 42 c.args.o (3 ∷ t ∷ (c.try_arm-found.result.0 / 4294967296) ∷ (c.try_arm-found.result.0 % 65536) ∷ [])) c.from-t.ensures)
    (subst (λ b. c.try_arm-found.new.steps + last_seen (timer_at c.args.t) c.args.self.now.seat.me.0 / 4294967296 ≤ c.args.steps.now + cond {A = ℕ} b 1 0 + c.try_arm-found.result.0 / 4294967296) c.if-not-done.true c.try_arm-found.ensures.tries)

pub returns-clause-arms : goal.returns-clause-arms
returns-clause-arms g c = arms c.args.self.now.words.now.shared.key c.args.self.now.fitting c.args.o c.args.t (owned-timer c.args.self.now.words.now.shared.key c.args.o c.args.t c.requires.owns) c.args.self.now.seat.me.0 c.try_arm-found.new.seat.me.0 c.try_arm-found.result.0 c.args.ticks c.args.interval c.record_of-2.result (omega arith) (omega arith) (subst (λ b. ArmEnds c.args.o c.args.t c.args.ticks c.args.interval c.args.self.now.seat.me.0 c.try_arm-found.result.0 b c.try_arm-found.new.seat.me.0) c.if-not-done.false c.try_arm-found.ensures.ends) (c.record_of-2.ensures ∙ (λ i. rec_of 34 c.args.o (c.from-t.ensures i ∷ (c.try_arm-found.result.0 / 4294967296) ∷ c.from.ensures i ∷ c.from-2.ensures i ∷ [])))

pub returns-clause-tries : goal.returns-clause-tries
returns-clause-tries g c = arm-tries c.args.self.now.words.now.shared.key c.args.self.now.fitting c.args.o c.args.t (owned-timer c.args.self.now.words.now.shared.key c.args.o c.args.t c.requires.owns) c.args.self.now.seat.me.0 c.try_arm-found.new.seat.me.0 c.try_arm-found.result.0 c.args.steps.now c.try_arm-found.new.steps c.record_of-2.result c.try_arm-found.ensures.up c.args.ticks c.args.interval (omega arith) (omega arith) (subst (λ b. ArmEnds c.args.o c.args.t c.args.ticks c.args.interval c.args.self.now.seat.me.0 c.try_arm-found.result.0 b c.try_arm-found.new.seat.me.0) c.if-not-done.false c.try_arm-found.ensures.ends) (c.record_of-2.ensures ∙ (λ i. rec_of 34 c.args.o (c.from-t.ensures i ∷ (c.try_arm-found.result.0 / 4294967296) ∷ c.from.ensures i ∷ c.from-2.ensures i ∷ [])))
    (subst (λ b. c.try_arm-found.new.steps + last_seen (timer_at c.args.t) c.args.self.now.seat.me.0 / 4294967296 ≤ c.args.steps.now + cond {A = ℕ} b 1 0 + c.try_arm-found.result.0 / 4294967296) c.if-not-done.false c.try_arm-found.ensures.tries)

pub returns-then-not-done-clause-answered : goal.returns-then-not-done-clause-answered
returns-then-not-done-clause-answered g c = more-recs c.args.self.now.words.now.shared.key (word.Timer c.args.t) c.record_of.result c.args.self.now.seat.me.0 c.try_arm-found.new.seat.me.0 c.args.self.now.lane (arms-adds c.args.self.now.words.now.shared.key c.args.o c.args.self.now.seat.me.0 c.record_of.result c.try_arm-found.new.seat.me.0 c.args.t c.args.ticks c.args.interval (c.record_of.result.kind == 34) (returns-then-not-done-clause-arms g c))

pub returns-then-not-done-clause-stays : goal.returns-then-not-done-clause-stays
returns-then-not-done-clause-stays g c = stays-as c.args.self.now.words.now.shared.key (word.Timer c.args.t) c.record_of.result c.args.self.now.seat.me.0 c.try_arm-found.new.seat.me.0 (arms-adds c.args.self.now.words.now.shared.key c.args.o c.args.self.now.seat.me.0 c.record_of.result c.try_arm-found.new.seat.me.0 c.args.t c.args.ticks c.args.interval (c.record_of.result.kind == 34) (returns-then-not-done-clause-arms g c))

pub returns-clause-answered : goal.returns-clause-answered
returns-clause-answered g c = more-recs c.args.self.now.words.now.shared.key (word.Timer c.args.t) c.record_of-2.result c.args.self.now.seat.me.0 c.try_arm-found.new.seat.me.0 c.args.self.now.lane (arms-adds c.args.self.now.words.now.shared.key c.args.o c.args.self.now.seat.me.0 c.record_of-2.result c.try_arm-found.new.seat.me.0 c.args.t c.args.ticks c.args.interval (c.record_of-2.result.kind == 34) (returns-clause-arms g c))

pub returns-clause-stays : goal.returns-clause-stays
returns-clause-stays g c = stays-as c.args.self.now.words.now.shared.key (word.Timer c.args.t) c.record_of-2.result c.args.self.now.seat.me.0 c.try_arm-found.new.seat.me.0 (arms-adds c.args.self.now.words.now.shared.key c.args.o c.args.self.now.seat.me.0 c.record_of-2.result c.try_arm-found.new.seat.me.0 c.args.t c.args.ticks c.args.interval (c.record_of-2.result.kind == 34) (returns-clause-arms g c))
