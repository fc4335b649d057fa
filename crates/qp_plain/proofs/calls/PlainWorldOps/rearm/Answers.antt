use Rattle.std.proofs.Common.{arith}
use Rattle.qp_model.specs.declared.words.Word.TheVariants as word
use Rattle.qp_plain_sound.specs.View.{view_of}
use Rattle.qp_plain.specs.WorldView.{world_view}
use Rattle.qp_plain.proofs.Calling.{view_with, stop-stays, timer-at}
use Rattle.qp_plain.proofs.Mays.{owned-timer}
use Rattle.qp_plain.proofs.Turns.{tries-drawn}
use Rattle.qp_plain.proofs.TimerCalls as timer
use Rattle.qp_plain.proofs.TimerTable.{there, put, few}
use Rattle.qp_plain.proofs.calls.PlainWorldOps.rearm.Goals as goal

pub index_mut-word-requires : goal.index_mut-word-requires
index_mut-word-requires g c = let lt = there c.args.self.now c.args.t c.from.result (owned-timer c.args.self.now c.args.t c.requires.owns) c.from.ensures in omega (arith, lt, c.args.self.now.timers.ok.0)

pub add-requires-clause-room : goal.add-requires-clause-room
unfolding view_of
add-requires-clause-room g c = c.requires.room

pub set-requires : goal.set-requires
set-requires g c = few c.args.self.now c.args.t c.index_mut-word.result.now (owned-timer c.args.self.now c.args.t c.requires.owns) (timer-at c.args.self.now c.args.t c.from.result c.index_mut-word.result.now (owned-timer c.args.self.now c.args.t c.requires.owns) c.from.ensures c.index_mut-word.ensures.value)

pub invariant_of-self : goal.invariant_of-self
invariant_of-self g c = record {
  holds = put c.args.self.now c.add.new.self c.args.t c.from.result c.set.new.self c.from.ensures (timer.rearm-holds c.args.self.now c.add.new.self c.rearm.result c.add.ensures.gains c.add.ensures.spare c.args.t c.ops-n.result c.counter-former.result c.index_mut-word.result.now (owned-timer c.args.self.now c.args.t c.requires.owns) (timer-at c.args.self.now c.args.t c.from.result c.index_mut-word.result.now (owned-timer c.args.self.now c.args.t c.requires.owns) c.from.ensures c.index_mut-word.ensures.value) c.ops-n.ensures c.counter-former.ensures c.args.ticks c.set.new.self c.rearm.ensures c.set.ensures);
  stops = stop-stays c.args.self.now.stop c.args.self.now.book c.add.new.self c.add.ensures.gains.stays c.args.self.now.stops;
}

pub returns-clause-rearms : goal.returns-clause-rearms
returns-clause-rearms g c = timer.rearm-it c.args.self.now c.add.new.self c.rearm.result c.add.ensures.gains c.add.ensures.spare c.args.t c.ops-n.result c.counter-former.result c.index_mut-word.result.now (owned-timer c.args.self.now c.args.t c.requires.owns) (timer-at c.args.self.now c.args.t c.from.result c.index_mut-word.result.now (owned-timer c.args.self.now c.args.t c.requires.owns) c.from.ensures c.index_mut-word.ensures.value) c.ops-n.ensures c.counter-former.ensures c.args.ticks c.rearm.ensures

pub returns-clause-tries : goal.returns-clause-tries
returns-clause-tries g c =
    tries-drawn (word.Timer c.args.t) c.args.steps.now c.step.new.self (world_view c.args.self.now) (view_with c.args.self.now c.add.new.self) c.step.ensures (returns-clause-rearms g c).2
