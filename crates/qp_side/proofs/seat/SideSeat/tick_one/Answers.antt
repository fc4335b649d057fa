use Rattle.std.proofs.Common.{◌==◌, ℕ, ◌+◌, ◌-◌, ◌/◌, ◌%◌, ◌≤◌, cond, [], ◌∷◌, refl, ap, subst, ne_eqb, eq-eqb, ◌∙◌}
use Rattle.qp_table.specs.After.{rec_of}
use Rattle.qp_side.specs.Rule.{timer_at}
use Rattle.qp_side.specs.Told.{last_seen}
use Rattle.qp_side.specs.Tries.{TickEnds}
use Rattle.qp_model.specs.declared.words.Word.TheVariants as word
use Rattle.qp_side.proofs.Calling.{fires, falls, ticks-not, tick-tries, idle-tries, more-recs, stays-as, ticks-adds}
use Rattle.qp_side.proofs.seat.SideSeat.tick_one.Goals as goal

pub returns-then-not-done-clause-ticks : goal.returns-then-not-done-clause-ticks
returns-then-not-done-clause-ticks g c = ticks-not c.args.self.now.words.now.shared.key c.args.self.now.fitting c.args.o c.args.t (c.requires.timer) c.args.self.now.seat.me.0 c.try_tick-found.new.seat.me.0 c.try_tick-found.result.0 c.record_of.result (subst (λ b. TickEnds c.args.o c.args.t c.args.self.now.seat.me.0 c.try_tick-found.result.0 b c.try_tick-found.new.seat.me.0) c.if-not-done.true c.try_tick-found.ensures.ends) (c.record_of.ensures ∙ ap (λ t. rec_of 37 c.args.o (t ∷ (c.try_tick-found.result.0 / 4294967296) ∷ [])) c.from-t.ensures)

pub returns-then-not-done-clause-tries : goal.returns-then-not-done-clause-tries
returns-then-not-done-clause-tries g c = idle-tries c.args.self.now.words.now.shared.key c.args.self.now.fitting c.args.o c.args.t (c.requires.timer) c.args.self.now.seat.me.0 c.try_tick-found.new.seat.me.0 c.try_tick-found.result.0 c.args.steps.now c.try_tick-found.new.steps c.record_of.result c.try_tick-found.ensures.up (subst (λ b. TickEnds c.args.o c.args.t c.args.self.now.seat.me.0 c.try_tick-found.result.0 b c.try_tick-found.new.seat.me.0) c.if-not-done.true c.try_tick-found.ensures.ends) (c.record_of.ensures ∙ ap (λ t. rec_of 37 c.args.o (t ∷ (c.try_tick-found.result.0 / 4294967296) ∷ [])) c.from-t.ensures)
    (subst (λ b. c.try_tick-found.new.steps + last_seen (timer_at c.args.t) c.args.self.now.seat.me.0 / 4294967296 ≤ c.args.steps.now + cond {A = ℕ} b 1 0 + c.try_tick-found.result.0 / 4294967296) c.if-not-done.true c.try_tick-found.ensures.tries)

pub returns-then-found-eq1-clause-ticks : goal.returns-then-found-eq1-clause-ticks
returns-then-found-eq1-clause-ticks g c = fires c.args.self.now.words.now.shared.key c.args.self.now.fitting c.args.o c.args.t (c.requires.timer) c.args.self.now.seat.me.0 c.try_tick-found.new.seat.me.0 c.try_tick-found.result.0 c.record_of-then-found-eq1.result (subst (λ b. TickEnds c.args.o c.args.t c.args.self.now.seat.me.0 c.try_tick-found.result.0 b c.try_tick-found.new.seat.me.0) c.if-not-done.false c.try_tick-found.ensures.ends) (eq-eqb (c.try_tick-found.result.0 % 65536) 1 c.if-found-eq1.true) (c.record_of-then-found-eq1.ensures ∙ ap (λ t. rec_of 39 0 (t ∷ (c.try_tick-found.result.0 / 4294967296) ∷ (c.try_tick-found.result.0 / 65536 % 65536) ∷ [])) c.from-t.ensures)

pub returns-then-found-eq1-clause-tries : goal.returns-then-found-eq1-clause-tries
returns-then-found-eq1-clause-tries g c = tick-tries c.args.self.now.words.now.shared.key c.args.self.now.fitting c.args.o c.args.t (c.requires.timer) c.args.self.now.seat.me.0 c.try_tick-found.new.seat.me.0 c.try_tick-found.result.0 c.args.steps.now c.try_tick-found.new.steps c.record_of-then-found-eq1.result c.try_tick-found.ensures.up 39 _ (subst (λ b. TickEnds c.args.o c.args.t c.args.self.now.seat.me.0 c.try_tick-found.result.0 b c.try_tick-found.new.seat.me.0) c.if-not-done.false c.try_tick-found.ensures.ends) (c.record_of-then-found-eq1.ensures ∙ ap (λ t. rec_of 39 0 (t ∷ (c.try_tick-found.result.0 / 4294967296) ∷ (c.try_tick-found.result.0 / 65536 % 65536) ∷ [])) c.from-t.ensures) refl
    (subst (λ b. c.try_tick-found.new.steps + last_seen (timer_at c.args.t) c.args.self.now.seat.me.0 / 4294967296 ≤ c.args.steps.now + cond {A = ℕ} b 1 0 + c.try_tick-found.result.0 / 4294967296) c.if-not-done.false c.try_tick-found.ensures.tries)

pub returns-clause-ticks : goal.returns-clause-ticks
returns-clause-ticks g c = falls c.args.self.now.words.now.shared.key c.args.self.now.fitting c.args.o c.args.t (c.requires.timer) c.args.self.now.seat.me.0 c.try_tick-found.new.seat.me.0 c.try_tick-found.result.0 c.record_of-2.result (subst (λ b. TickEnds c.args.o c.args.t c.args.self.now.seat.me.0 c.try_tick-found.result.0 b c.try_tick-found.new.seat.me.0) c.if-not-done.false c.try_tick-found.ensures.ends) (ne_eqb (c.try_tick-found.result.0 % 65536) 1 c.if-found-eq1.false) (c.record_of-2.ensures ∙ ap (λ t. rec_of 38 0 (t ∷ (c.try_tick-found.result.0 / 4294967296) ∷ (c.try_tick-found.result.0 % 65536 - 1) ∷ [])) c.from-t.ensures)

pub returns-clause-tries : goal.returns-clause-tries
returns-clause-tries g c = tick-tries c.args.self.now.words.now.shared.key c.args.self.now.fitting c.args.o c.args.t (c.requires.timer) c.args.self.now.seat.me.0 c.try_tick-found.new.seat.me.0 c.try_tick-found.result.0 c.args.steps.now c.try_tick-found.new.steps c.record_of-2.result c.try_tick-found.ensures.up 38 _ (subst (λ b. TickEnds c.args.o c.args.t c.args.self.now.seat.me.0 c.try_tick-found.result.0 b c.try_tick-found.new.seat.me.0) c.if-not-done.false c.try_tick-found.ensures.ends) (c.record_of-2.ensures ∙ ap (λ t. rec_of 38 0 (t ∷ (c.try_tick-found.result.0 / 4294967296) ∷ (c.try_tick-found.result.0 % 65536 - 1) ∷ [])) c.from-t.ensures) refl
    (subst (λ b. c.try_tick-found.new.steps + last_seen (timer_at c.args.t) c.args.self.now.seat.me.0 / 4294967296 ≤ c.args.steps.now + cond {A = ℕ} b 1 0 + c.try_tick-found.result.0 / 4294967296) c.if-not-done.false c.try_tick-found.ensures.tries)

pub returns-then-not-done-clause-answered : goal.returns-then-not-done-clause-answered
returns-then-not-done-clause-answered g c = more-recs c.args.self.now.words.now.shared.key (word.Timer c.args.t) c.record_of.result c.args.self.now.seat.me.0 c.try_tick-found.new.seat.me.0 c.args.self.now.lane (ticks-adds c.args.self.now.words.now.shared.key c.args.o c.args.self.now.seat.me.0 c.record_of.result c.try_tick-found.new.seat.me.0 c.args.t (c.record_of.result.kind == 37) (c.record_of.result.kind == 39) (returns-then-not-done-clause-ticks g c))

pub returns-then-not-done-clause-stays : goal.returns-then-not-done-clause-stays
returns-then-not-done-clause-stays g c = stays-as c.args.self.now.words.now.shared.key (word.Timer c.args.t) c.record_of.result c.args.self.now.seat.me.0 c.try_tick-found.new.seat.me.0 (ticks-adds c.args.self.now.words.now.shared.key c.args.o c.args.self.now.seat.me.0 c.record_of.result c.try_tick-found.new.seat.me.0 c.args.t (c.record_of.result.kind == 37) (c.record_of.result.kind == 39) (returns-then-not-done-clause-ticks g c))

pub returns-then-found-eq1-clause-answered : goal.returns-then-found-eq1-clause-answered
returns-then-found-eq1-clause-answered g c = more-recs c.args.self.now.words.now.shared.key (word.Timer c.args.t) c.record_of-then-found-eq1.result c.args.self.now.seat.me.0 c.try_tick-found.new.seat.me.0 c.args.self.now.lane (ticks-adds c.args.self.now.words.now.shared.key c.args.o c.args.self.now.seat.me.0 c.record_of-then-found-eq1.result c.try_tick-found.new.seat.me.0 c.args.t (c.record_of-then-found-eq1.result.kind == 37) (c.record_of-then-found-eq1.result.kind == 39) (returns-then-found-eq1-clause-ticks g c))

pub returns-then-found-eq1-clause-stays : goal.returns-then-found-eq1-clause-stays
returns-then-found-eq1-clause-stays g c = stays-as c.args.self.now.words.now.shared.key (word.Timer c.args.t) c.record_of-then-found-eq1.result c.args.self.now.seat.me.0 c.try_tick-found.new.seat.me.0 (ticks-adds c.args.self.now.words.now.shared.key c.args.o c.args.self.now.seat.me.0 c.record_of-then-found-eq1.result c.try_tick-found.new.seat.me.0 c.args.t (c.record_of-then-found-eq1.result.kind == 37) (c.record_of-then-found-eq1.result.kind == 39) (returns-then-found-eq1-clause-ticks g c))

pub returns-clause-answered : goal.returns-clause-answered
returns-clause-answered g c = more-recs c.args.self.now.words.now.shared.key (word.Timer c.args.t) c.record_of-2.result c.args.self.now.seat.me.0 c.try_tick-found.new.seat.me.0 c.args.self.now.lane (ticks-adds c.args.self.now.words.now.shared.key c.args.o c.args.self.now.seat.me.0 c.record_of-2.result c.try_tick-found.new.seat.me.0 c.args.t (c.record_of-2.result.kind == 37) (c.record_of-2.result.kind == 39) (returns-clause-ticks g c))

pub returns-clause-stays : goal.returns-clause-stays
returns-clause-stays g c = stays-as c.args.self.now.words.now.shared.key (word.Timer c.args.t) c.record_of-2.result c.args.self.now.seat.me.0 c.try_tick-found.new.seat.me.0 (ticks-adds c.args.self.now.words.now.shared.key c.args.o c.args.self.now.seat.me.0 c.record_of-2.result c.try_tick-found.new.seat.me.0 c.args.t (c.record_of-2.result.kind == 37) (c.record_of-2.result.kind == 39) (returns-clause-ticks g c))
