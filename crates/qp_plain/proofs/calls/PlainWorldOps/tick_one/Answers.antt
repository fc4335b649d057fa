use Rattle.std.proofs.Common.{◌≡◌, ℕ, ◌+◌, ◌-◌, ◌<◌, get_or, slice_set, refl, sym, ◌∙◌, ap, subst, arith, IsTrue}
use Rattle.qp_model.specs.declared.words.Word.TheVariants as word
use Rattle.qp_model.specs.TimeEvents.{Clock}
use Rattle.qp_plain_sound.specs.View.{view_of}
use Rattle.qp_model.specs.WordLaw.{is_timer}
use Rattle.qp_plain.specs.declared.book.Book.{Book}
use Rattle.qp_plain.specs.declared.world.PlainWorld.{PlainWorld}
use Rattle.qp_plain.specs.Book.{lists_of}
use Rattle.qp_plain.specs.World.{WorldHolds}
use Rattle.qp_plain.specs.WorldView.{world_view}
use Rattle.qp_plain.proofs.Calling.{view_with, stop-stays, timer-at}
use Rattle.qp_plain.proofs.Turns.{tries-drawn, tries-shown}
use Rattle.qp_plain.proofs.TimerCalls as timer
use Rattle.qp_plain.proofs.TimerTable.{there, put, kept, few}
use Rattle.qp_plain.proofs.calls.PlainWorldOps.tick_one.Goals as goal

named : (w : PlainWorld) (t : ℕ) → IsTrue (is_timer (world_view w).sys t) → IsTrue (is_timer w.sys.now t)
unfolding view_of
named w t h = h

-- the time event as the tick leaves it
same : (w : PlainWorld) (b : Book) (t k : ℕ) (q x : Clock) → x ≡ q → q ≡ get_or w.timers.items (k - 1) q → WorldHolds w.sys.now (lists_of b) b.order.items w.pools.items w.blocks.items w.cells.items w.queues.items w.signals.items w.timers.items
    → WorldHolds w.sys.now (lists_of b) b.order.items w.pools.items w.blocks.items w.cells.items w.queues.items w.signals.items (slice_set w.timers.items (k - 1) x)
same w b t k q x is e h = subst (λ z. WorldHolds w.sys.now (lists_of b) b.order.items w.pools.items w.blocks.items w.cells.items w.queues.items w.signals.items (slice_set w.timers.items (k - 1) z)) (sym is) (kept w b k q e h)

pub index_mut-word-requires : goal.index_mut-word-requires
index_mut-word-requires g c = let lt = there c.args.self.now c.args.t c.from.result (named c.args.self.now c.args.t c.requires.timer) c.from.ensures in omega (arith, lt, c.args.self.now.timers.ok.0)

pub tick-requires : goal.tick-requires
tick-requires g c = few c.args.self.now c.args.t c.index_mut-word.result.now (named c.args.self.now c.args.t c.requires.timer) (timer-at c.args.self.now c.args.t c.from.result c.index_mut-word.result.now (named c.args.self.now c.args.t c.requires.timer) c.from.ensures c.index_mut-word.ensures.value)

pub add-requires-clause-room : goal.add-requires-clause-room
unfolding view_of
add-requires-clause-room g c = c.requires.room

pub add-requires-in-Down-clause-room : goal.add-requires-in-Down-clause-room
unfolding view_of
add-requires-in-Down-clause-room g c = c.requires.room

pub add-requires-in-Fired-clause-room : goal.add-requires-in-Fired-clause-room
unfolding view_of
add-requires-in-Fired-clause-room g c = c.requires.room

pub invariant_of-self : goal.invariant_of-self
invariant_of-self g c = record {
  holds = same c.args.self.now c.add.new.self c.args.t c.from.result c.index_mut-word.result.now c.tick.new.self c.in-Idle.ensures.1 c.index_mut-word.ensures.value (timer.idle-holds c.args.self.now c.add.new.self c.idle.result c.add.ensures.gains c.add.ensures.spare c.args.t c.ops-n.result c.index_mut-word.result.now.counter c.index_mut-word.result.now (named c.args.self.now c.args.t c.requires.timer) (timer-at c.args.self.now c.args.t c.from.result c.index_mut-word.result.now (named c.args.self.now c.args.t c.requires.timer) c.from.ensures c.index_mut-word.ensures.value) c.ops-n.ensures refl c.idle.ensures c.in-Idle.ensures.0);
  stops = stop-stays c.args.self.now.stop c.args.self.now.book c.add.new.self c.add.ensures.gains.stays c.args.self.now.stops;
}

pub returns-in-Idle-clause-ticks : goal.returns-in-Idle-clause-ticks
returns-in-Idle-clause-ticks g c = timer.tick-none c.args.self.now c.add.new.self c.idle.result c.add.ensures.gains c.add.ensures.spare c.args.t c.ops-n.result c.index_mut-word.result.now.counter c.index_mut-word.result.now (named c.args.self.now c.args.t c.requires.timer) (timer-at c.args.self.now c.args.t c.from.result c.index_mut-word.result.now (named c.args.self.now c.args.t c.requires.timer) c.from.ensures c.index_mut-word.ensures.value) c.ops-n.ensures refl c.idle.ensures c.in-Idle.ensures.0

pub returns-in-Idle-clause-tries : goal.returns-in-Idle-clause-tries
returns-in-Idle-clause-tries g c =
    tries-shown (word.Timer c.args.t) c.args.steps.now c.step.new.self (world_view c.args.self.now) (view_with c.args.self.now c.add.new.self) c.step.ensures
    ((returns-in-Idle-clause-ticks g c).1.grows.rise (word.Timer c.args.t))

pub invariant_of-self-in-Down : goal.invariant_of-self-in-Down
invariant_of-self-in-Down g c = record {
  holds = put c.args.self.now c.add-in-Down.new.self c.args.t c.from.result c.tick.new.self c.from.ensures (timer.tick-holds c.args.self.now c.add-in-Down.new.self c.tick-in-Down.result c.add-in-Down.ensures.gains c.add-in-Down.ensures.spare c.args.t c.ops-n.result c.index_mut-word.result.now.counter c.index_mut-word.result.now (named c.args.self.now c.args.t c.requires.timer) (timer-at c.args.self.now c.args.t c.from.result c.index_mut-word.result.now (named c.args.self.now c.args.t c.requires.timer) c.from.ensures c.index_mut-word.ensures.value) c.ops-n.ensures refl c.counter-counter.result c.tick.new.self c.tick-in-Down.ensures (c.in-Down.ensures.2 ∙ ap (λ x. x + 1) (sym c.counter-counter.ensures)) (subst (λ x. 0 < x) (sym c.counter-counter.ensures) c.in-Down.ensures.1) (c.in-Down.ensures.0 ∙ ap (λ x. record { count = c.index_mut-word.result.now.count + 1; counter = x; interval = c.index_mut-word.result.now.interval }) (sym c.counter-counter.ensures)));
  stops = stop-stays c.args.self.now.stop c.args.self.now.book c.add-in-Down.new.self c.add-in-Down.ensures.gains.stays c.args.self.now.stops;
}

pub returns-in-Down-clause-ticks : goal.returns-in-Down-clause-ticks
returns-in-Down-clause-ticks g c = timer.tick-it c.args.self.now c.add-in-Down.new.self c.tick-in-Down.result c.add-in-Down.ensures.gains c.add-in-Down.ensures.spare c.args.t c.ops-n.result c.index_mut-word.result.now.counter c.index_mut-word.result.now (named c.args.self.now c.args.t c.requires.timer) (timer-at c.args.self.now c.args.t c.from.result c.index_mut-word.result.now (named c.args.self.now c.args.t c.requires.timer) c.from.ensures c.index_mut-word.ensures.value) c.ops-n.ensures refl c.counter-counter.result c.tick-in-Down.ensures (c.in-Down.ensures.2 ∙ ap (λ x. x + 1) (sym c.counter-counter.ensures)) (subst (λ x. 0 < x) (sym c.counter-counter.ensures) c.in-Down.ensures.1)

pub returns-in-Down-clause-tries : goal.returns-in-Down-clause-tries
returns-in-Down-clause-tries g c =
    tries-drawn (word.Timer c.args.t) c.args.steps.now c.step.new.self (world_view c.args.self.now) (view_with c.args.self.now c.add-in-Down.new.self) c.step.ensures (returns-in-Down-clause-ticks g c).2.2

pub invariant_of-self-in-Fired : goal.invariant_of-self-in-Fired
invariant_of-self-in-Fired g c = record {
  holds = put c.args.self.now c.add-in-Fired.new.self c.args.t c.from.result c.tick.new.self c.from.ensures (timer.fire-holds c.args.self.now c.add-in-Fired.new.self c.fire.result c.add-in-Fired.ensures.gains c.add-in-Fired.ensures.spare c.args.t c.ops-n.result c.index_mut-word.result.now.counter c.index_mut-word.result.now (named c.args.self.now c.args.t c.requires.timer) (timer-at c.args.self.now c.args.t c.from.result c.index_mut-word.result.now (named c.args.self.now c.args.t c.requires.timer) c.from.ensures c.index_mut-word.ensures.value) c.ops-n.ensures refl c.counter-reload.result c.tick.new.self c.fire.ensures c.in-Fired.ensures.0 (c.counter-reload.ensures ∙ ap (λ x. x.counter) c.in-Fired.ensures.1) c.in-Fired.ensures.1);
  stops = stop-stays c.args.self.now.stop c.args.self.now.book c.add-in-Fired.new.self c.add-in-Fired.ensures.gains.stays c.args.self.now.stops;
}

pub returns-in-Fired-clause-ticks : goal.returns-in-Fired-clause-ticks
returns-in-Fired-clause-ticks g c = timer.fire-it c.args.self.now c.add-in-Fired.new.self c.fire.result c.add-in-Fired.ensures.gains c.add-in-Fired.ensures.spare c.args.t c.ops-n.result c.index_mut-word.result.now.counter c.index_mut-word.result.now (named c.args.self.now c.args.t c.requires.timer) (timer-at c.args.self.now c.args.t c.from.result c.index_mut-word.result.now (named c.args.self.now c.args.t c.requires.timer) c.from.ensures c.index_mut-word.ensures.value) c.ops-n.ensures refl c.counter-reload.result c.fire.ensures c.in-Fired.ensures.0 (c.counter-reload.ensures ∙ ap (λ x. x.counter) c.in-Fired.ensures.1)

pub returns-in-Fired-clause-tries : goal.returns-in-Fired-clause-tries
returns-in-Fired-clause-tries g c =
    tries-drawn (word.Timer c.args.t) c.args.steps.now c.step.new.self (world_view c.args.self.now) (view_with c.args.self.now c.add-in-Fired.new.self) c.step.ensures (returns-in-Fired-clause-ticks g c).1.2
