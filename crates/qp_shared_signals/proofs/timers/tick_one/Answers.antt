use Rattle.std.proofs.Common.{◌==◌, subst, ◌∙◌}
use Rattle.qp_model.specs.declared.words.Word.TheVariants as word
use Rattle.qp_calls.specs.Clauses.{AnswersTick, FewTries, draws_ticked}
use Rattle.qp_side.specs.Calls.{SideTicksTimer, SideTries}
use Rattle.qp_shared_lane.specs.Lane.{state_view}
use Rattle.qp_shared_signals.proofs.Calling.{spare-is, side-room, side-timer, tick-plain, ticks, tried, in-world}
use Rattle.qp_shared_signals.proofs.timers.tick_one.Goals as goal

pub tick_one-rec-requires-clause-room : goal.tick_one-rec-requires-clause-room
tick_one-rec-requires-clause-room g c = side-room c.args.lane.now c.requires.room

pub tick_one-rec-requires-clause-timer : goal.tick_one-rec-requires-clause-timer
tick_one-rec-requires-clause-timer g c = side-timer c.args.lane.now c.args.t c.requires.timer

pub put-requires-clause-room : goal.put-requires-clause-room
put-requires-clause-room g c = spare-is c.args.lane.now c.requires.room

pub put-requires-clause-plain : goal.put-requires-clause-plain
put-requires-clause-plain g c = tick-plain c.args.lane.now.sys.now c.args.lane.now.by c.args.lane.now.side.seat.me.0 c.tick_one-rec.result c.tick_one-rec.new.self.seat.me.0 c.args.t (c.tick_one-rec.result.kind == 37) (c.tick_one-rec.result.kind == 39) (subst (λ k. SideTicksTimer k c.args.lane.now.by c.args.t c.args.lane.now.side.seat.me.0 c.tick_one-rec.result c.tick_one-rec.new.self.seat.me.0) c.args.lane.now.side_key c.tick_one-rec.ensures.ticks)

pub invariant_of-lane : goal.invariant_of-lane
invariant_of-lane g c = record {
  own = c.args.lane.now.own;
  wide = c.args.lane.now.wide;
  key = c.args.lane.now.key;
  side_key = (λ i. (c.tick_one-rec.ensures.same.0 i).now.shared.key) ∙ c.args.lane.now.side_key;
  rings_key = c.args.lane.now.rings_key;
  ended = c.args.lane.now.ended;
  holds = (ticks c.args.lane.now c.tick_one-rec.new.self.seat.me.0 c.put.new.log c.put.new.numbers.list c.tick_one-rec.result 0 c.put.ensures.put c.put.ensures.spare c.args.t c.tick_by-answer.result (c.tick_one-rec.result.kind == 37) (c.tick_one-rec.result.kind == 39) c.tick_by-answer.ensures.idle c.tick_by-answer.ensures.fired c.tick_by-answer.ensures.down (subst (λ k. SideTicksTimer k c.args.lane.now.by c.args.t c.args.lane.now.side.seat.me.0 c.tick_one-rec.result c.tick_one-rec.new.self.seat.me.0) c.args.lane.now.side_key c.tick_one-rec.ensures.ticks)).0;
}

pub returns-clause-ticks : goal.returns-clause-ticks
returns-clause-ticks g c = in-world c.args.lane.now c.tick_one-rec.new.self.seat.me.0 c.put.new.log c.put.new.numbers.list c.tick_one-rec.result 0 c.put.ensures.put c.put.ensures.spare (λ v. AnswersTick c.args.t (state_view c.args.lane.now) v c.tick_by-answer.result) c.tick_one-rec.new.self.words.now.shared.table_id (λ i. (c.tick_one-rec.ensures.same.0 i).now.shared.table_id)
    ((ticks c.args.lane.now c.tick_one-rec.new.self.seat.me.0 c.put.new.log c.put.new.numbers.list c.tick_one-rec.result 0 c.put.ensures.put c.put.ensures.spare c.args.t c.tick_by-answer.result (c.tick_one-rec.result.kind == 37) (c.tick_one-rec.result.kind == 39) c.tick_by-answer.ensures.idle c.tick_by-answer.ensures.fired c.tick_by-answer.ensures.down (subst (λ k. SideTicksTimer k c.args.lane.now.by c.args.t c.args.lane.now.side.seat.me.0 c.tick_one-rec.result c.tick_one-rec.new.self.seat.me.0) c.args.lane.now.side_key c.tick_one-rec.ensures.ticks)).1)

pub returns-clause-tries : goal.returns-clause-tries
returns-clause-tries g c = in-world c.args.lane.now c.tick_one-rec.new.self.seat.me.0 c.put.new.log c.put.new.numbers.list c.tick_one-rec.result 0 c.put.ensures.put c.put.ensures.spare (λ v. FewTries (word.Timer c.args.t) (draws_ticked c.tick_by-answer.result) c.args.steps.now c.tick_one-rec.new.steps (state_view c.args.lane.now) v) c.tick_one-rec.new.self.words.now.shared.table_id (λ i. (c.tick_one-rec.ensures.same.0 i).now.shared.table_id)
    (tried c.args.lane.now c.tick_one-rec.new.self.seat.me.0 c.put.new.log c.put.new.numbers.list c.tick_one-rec.result 0 c.put.ensures.put c.put.ensures.spare c.args.t (draws_ticked c.tick_by-answer.result) c.args.steps.now c.tick_one-rec.new.steps ((ticks c.args.lane.now c.tick_one-rec.new.self.seat.me.0 c.put.new.log c.put.new.numbers.list c.tick_one-rec.result 0 c.put.ensures.put c.put.ensures.spare c.args.t c.tick_by-answer.result (c.tick_one-rec.result.kind == 37) (c.tick_one-rec.result.kind == 39) c.tick_by-answer.ensures.idle c.tick_by-answer.ensures.fired c.tick_by-answer.ensures.down (subst (λ k. SideTicksTimer k c.args.lane.now.by c.args.t c.args.lane.now.side.seat.me.0 c.tick_one-rec.result c.tick_one-rec.new.self.seat.me.0) c.args.lane.now.side_key c.tick_one-rec.ensures.ticks)).2) (subst (λ k. SideTries k (word.Timer c.args.t) c.tick_one-rec.result c.args.steps.now c.tick_one-rec.new.steps c.args.lane.now.side.seat.me.0 c.tick_one-rec.new.self.seat.me.0) c.args.lane.now.side_key c.tick_one-rec.ensures.tries))
