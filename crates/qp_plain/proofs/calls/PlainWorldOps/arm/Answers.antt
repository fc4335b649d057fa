use Rattle.std.proofs.Common.{arith}
use Rattle.qp_model.specs.declared.words.Word.TheVariants as word
use Rattle.qp_plain_sound.specs.View.{view_of}
use Rattle.qp_plain.specs.WorldView.{world_view}
use Rattle.qp_plain.proofs.Calling.{view_with, stop-stays, timer-at}
use Rattle.qp_plain.proofs.Mays.{owned-timer}
use Rattle.qp_plain.proofs.Turns.{tries-drawn, tries-shown}
use Rattle.qp_plain.proofs.TimerCalls as timer
use Rattle.qp_plain.proofs.TimerTable.{there, put, kept, few}
use Rattle.qp_plain.proofs.calls.PlainWorldOps.arm.Goals as goal

pub index_mut-word-requires : goal.index_mut-word-requires
index_mut-word-requires g c = let lt = there c.args.self.now c.args.t c.from.result (owned-timer c.args.self.now c.args.t c.requires.owns) c.from.ensures in omega (arith, lt, c.args.self.now.timers.ok.0)

pub add-requires-clause-room : goal.add-requires-clause-room
unfolding view_of
add-requires-clause-room g c = c.requires.room

pub add-requires-2-clause-room : goal.add-requires-2-clause-room
unfolding view_of
add-requires-2-clause-room g c = c.requires.room

pub invariant_of-self : goal.invariant_of-self
invariant_of-self g c = record {
  holds = kept c.args.self.now c.add.new.self c.from.result c.index_mut-word.result.now c.index_mut-word.ensures.value (timer.armed-holds c.args.self.now c.add.new.self c.armed.result c.add.ensures.gains c.add.ensures.spare c.args.t c.ops-n.result c.counter-c.result c.index_mut-word.result.now (owned-timer c.args.self.now c.args.t c.requires.owns) (timer-at c.args.self.now c.args.t c.from.result c.index_mut-word.result.now (owned-timer c.args.self.now c.args.t c.requires.owns) c.from.ensures c.index_mut-word.ensures.value) c.ops-n.ensures c.counter-c.ensures c.armed.ensures c.if-c-gt0.true);
  stops = stop-stays c.args.self.now.stop c.args.self.now.book c.add.new.self c.add.ensures.gains.stays c.args.self.now.stops;
}

pub returns-then-c-gt0-clause-arms : goal.returns-then-c-gt0-clause-arms
returns-then-c-gt0-clause-arms g c = timer.arm-not c.args.self.now c.add.new.self c.armed.result c.add.ensures.gains c.add.ensures.spare c.args.t c.ops-n.result c.counter-c.result c.index_mut-word.result.now (owned-timer c.args.self.now c.args.t c.requires.owns) (timer-at c.args.self.now c.args.t c.from.result c.index_mut-word.result.now (owned-timer c.args.self.now c.args.t c.requires.owns) c.from.ensures c.index_mut-word.ensures.value) c.ops-n.ensures c.counter-c.ensures c.args.ticks c.args.interval c.armed.ensures c.if-c-gt0.true

pub returns-then-c-gt0-clause-tries : goal.returns-then-c-gt0-clause-tries
returns-then-c-gt0-clause-tries g c =
    tries-shown (word.Timer c.args.t) c.args.steps.now c.step.new.self (world_view c.args.self.now) (view_with c.args.self.now c.add.new.self) c.step.ensures
    ((returns-then-c-gt0-clause-arms g c).0.grows.rise (word.Timer c.args.t))

pub arm-requires : goal.arm-requires
arm-requires g c = few c.args.self.now c.args.t c.index_mut-word.result.now (owned-timer c.args.self.now c.args.t c.requires.owns) (timer-at c.args.self.now c.args.t c.from.result c.index_mut-word.result.now (owned-timer c.args.self.now c.args.t c.requires.owns) c.from.ensures c.index_mut-word.ensures.value)

pub invariant_of-self-2 : goal.invariant_of-self-2
invariant_of-self-2 g c = record {
  holds = put c.args.self.now c.add-2.new.self c.args.t c.from.result c.arm.new.self c.from.ensures (timer.arm-holds c.args.self.now c.add-2.new.self c.arm-2.result c.add-2.ensures.gains c.add-2.ensures.spare c.args.t c.ops-n.result c.counter-c.result c.index_mut-word.result.now (owned-timer c.args.self.now c.args.t c.requires.owns) (timer-at c.args.self.now c.args.t c.from.result c.index_mut-word.result.now (owned-timer c.args.self.now c.args.t c.requires.owns) c.from.ensures c.index_mut-word.ensures.value) c.ops-n.ensures c.counter-c.ensures c.args.ticks c.args.interval c.arm.new.self c.arm-2.ensures (omega (arith, c.if-c-gt0.false)) c.arm.ensures);
  stops = stop-stays c.args.self.now.stop c.args.self.now.book c.add-2.new.self c.add-2.ensures.gains.stays c.args.self.now.stops;
}

pub returns-clause-arms : goal.returns-clause-arms
returns-clause-arms g c = timer.arm-it c.args.self.now c.add-2.new.self c.arm-2.result c.add-2.ensures.gains c.add-2.ensures.spare c.args.t c.ops-n.result c.counter-c.result c.index_mut-word.result.now (owned-timer c.args.self.now c.args.t c.requires.owns) (timer-at c.args.self.now c.args.t c.from.result c.index_mut-word.result.now (owned-timer c.args.self.now c.args.t c.requires.owns) c.from.ensures c.index_mut-word.ensures.value) c.ops-n.ensures c.counter-c.ensures c.args.ticks c.args.interval c.arm-2.ensures (omega (arith, c.if-c-gt0.false))

pub returns-clause-tries : goal.returns-clause-tries
returns-clause-tries g c =
    tries-drawn (word.Timer c.args.t) c.args.steps.now c.step.new.self (world_view c.args.self.now) (view_with c.args.self.now c.add-2.new.self) c.step.ensures (returns-clause-arms g c).2
