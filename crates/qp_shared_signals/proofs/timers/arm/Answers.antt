use Rattle.std.proofs.Common.{get_or, eq-eqb, ne_eqb, ap, subst, ◌∙◌}
use Rattle.std.specs.Bool.{MatchBool}
use Rattle.qp_model.specs.declared.record.Rec.{Rec}
use Rattle.qp_model.specs.declared.words.Word.TheVariants as word
use Rattle.qp_calls.specs.declared.answers.Arm.TheVariants as armed
use Rattle.qp_calls.specs.Clauses.{CallArms, FewTries}
use Rattle.qp_side.specs.Calls.{ArmsTimer, IsArmed, WasArmed, SideTries, own_draw}
use Rattle.qp_shared_lane.specs.Lane.{state_view}
use Rattle.qp_shared_signals.proofs.Calling.{spare-is, side-room, side-owns, arm-plain, armed-plain, arms, arms-not, tried, in-world}
use Rattle.qp_shared_signals.proofs.timers.arm.Goals as goal

pub arm-rec-requires-clause-room : goal.arm-rec-requires-clause-room
arm-rec-requires-clause-room g c = side-room c.args.lane.now c.requires.room

pub arm-rec-requires-clause-owns : goal.arm-rec-requires-clause-owns
arm-rec-requires-clause-owns g c = side-owns c.args.lane.now c.args.t c.requires.owns

pub put-requires-clause-room : goal.put-requires-clause-room
put-requires-clause-room g c = spare-is c.args.lane.now c.requires.room

pub put-requires-clause-plain : goal.put-requires-clause-plain
put-requires-clause-plain g c = arm-plain c.args.lane.now.sys.now c.args.lane.now.by c.args.lane.now.side.seat.me.0 c.arm-rec.result c.arm-rec.new.self.seat.me.0 c.args.t c.args.ticks c.args.interval (subst (λ b. MatchBool b (IsArmed c.args.lane.now.sys.now c.args.lane.now.by c.args.t c.args.ticks c.args.interval c.args.lane.now.side.seat.me.0 c.arm-rec.result c.arm-rec.new.self.seat.me.0) (WasArmed c.args.lane.now.sys.now c.args.lane.now.by c.args.t c.args.lane.now.side.seat.me.0 c.arm-rec.result c.arm-rec.new.self.seat.me.0)) (eq-eqb c.arm-rec.result.kind 34 c.if-rec-eq-ARM.true) (subst (λ k. ArmsTimer k c.args.lane.now.by c.args.t c.args.ticks c.args.interval c.args.lane.now.side.seat.me.0 c.arm-rec.result c.arm-rec.new.self.seat.me.0) c.args.lane.now.side_key c.arm-rec.ensures.arms))

pub invariant_of-lane : goal.invariant_of-lane
invariant_of-lane g c = record {
  own = c.args.lane.now.own;
  wide = c.args.lane.now.wide;
  key = c.args.lane.now.key;
  side_key = (λ i. (c.arm-rec.ensures.same.0 i).now.shared.key) ∙ c.args.lane.now.side_key;
  rings_key = c.args.lane.now.rings_key;
  ended = c.args.lane.now.ended;
  holds = (arms c.args.lane.now c.arm-rec.new.self.seat.me.0 c.put.new.log c.put.new.numbers.list c.arm-rec.result 0 c.put.ensures.put c.put.ensures.spare c.args.t c.args.ticks c.args.interval (subst (λ b. MatchBool b (IsArmed c.args.lane.now.sys.now c.args.lane.now.by c.args.t c.args.ticks c.args.interval c.args.lane.now.side.seat.me.0 c.arm-rec.result c.arm-rec.new.self.seat.me.0) (WasArmed c.args.lane.now.sys.now c.args.lane.now.by c.args.t c.args.lane.now.side.seat.me.0 c.arm-rec.result c.arm-rec.new.self.seat.me.0)) (eq-eqb c.arm-rec.result.kind 34 c.if-rec-eq-ARM.true) (subst (λ k. ArmsTimer k c.args.lane.now.by c.args.t c.args.ticks c.args.interval c.args.lane.now.side.seat.me.0 c.arm-rec.result c.arm-rec.new.self.seat.me.0) c.args.lane.now.side_key c.arm-rec.ensures.arms))).0;
}

pub returns-then-rec-eq-ARM-clause-arms : goal.returns-then-rec-eq-ARM-clause-arms
returns-then-rec-eq-ARM-clause-arms g c = in-world c.args.lane.now c.arm-rec.new.self.seat.me.0 c.put.new.log c.put.new.numbers.list c.arm-rec.result 0 c.put.ensures.put c.put.ensures.spare (λ v. CallArms c.args.t c.args.ticks c.args.interval (state_view c.args.lane.now) v armed.Done) c.arm-rec.new.self.words.now.shared.table_id (λ i. (c.arm-rec.ensures.same.0 i).now.shared.table_id)
    ((arms c.args.lane.now c.arm-rec.new.self.seat.me.0 c.put.new.log c.put.new.numbers.list c.arm-rec.result 0 c.put.ensures.put c.put.ensures.spare c.args.t c.args.ticks c.args.interval (subst (λ b. MatchBool b (IsArmed c.args.lane.now.sys.now c.args.lane.now.by c.args.t c.args.ticks c.args.interval c.args.lane.now.side.seat.me.0 c.arm-rec.result c.arm-rec.new.self.seat.me.0) (WasArmed c.args.lane.now.sys.now c.args.lane.now.by c.args.t c.args.lane.now.side.seat.me.0 c.arm-rec.result c.arm-rec.new.self.seat.me.0)) (eq-eqb c.arm-rec.result.kind 34 c.if-rec-eq-ARM.true) (subst (λ k. ArmsTimer k c.args.lane.now.by c.args.t c.args.ticks c.args.interval c.args.lane.now.side.seat.me.0 c.arm-rec.result c.arm-rec.new.self.seat.me.0) c.args.lane.now.side_key c.arm-rec.ensures.arms))).1)

pub returns-then-rec-eq-ARM-clause-tries : goal.returns-then-rec-eq-ARM-clause-tries
returns-then-rec-eq-ARM-clause-tries g c = in-world c.args.lane.now c.arm-rec.new.self.seat.me.0 c.put.new.log c.put.new.numbers.list c.arm-rec.result 0 c.put.ensures.put c.put.ensures.spare (λ v. FewTries (word.Timer c.args.t) 1 c.args.steps.now c.arm-rec.new.steps (state_view c.args.lane.now) v) c.arm-rec.new.self.words.now.shared.table_id (λ i. (c.arm-rec.ensures.same.0 i).now.shared.table_id)
    (tried c.args.lane.now c.arm-rec.new.self.seat.me.0 c.put.new.log c.put.new.numbers.list c.arm-rec.result 0 c.put.ensures.put c.put.ensures.spare c.args.t 1 c.args.steps.now c.arm-rec.new.steps (ap own_draw c.if-rec-eq-ARM.true) (subst (λ k. SideTries k (word.Timer c.args.t) c.arm-rec.result c.args.steps.now c.arm-rec.new.steps c.args.lane.now.side.seat.me.0 c.arm-rec.new.self.seat.me.0) c.args.lane.now.side_key c.arm-rec.ensures.tries))

pub put-requires-2-clause-room : goal.put-requires-2-clause-room
put-requires-2-clause-room g c = spare-is c.args.lane.now c.requires.room

pub put-requires-2-clause-plain : goal.put-requires-2-clause-plain
put-requires-2-clause-plain g c = armed-plain c.args.lane.now.sys.now c.args.lane.now.by c.args.lane.now.side.seat.me.0 c.arm-rec.result c.arm-rec.new.self.seat.me.0 c.args.t (subst (λ b. MatchBool b (IsArmed c.args.lane.now.sys.now c.args.lane.now.by c.args.t c.args.ticks c.args.interval c.args.lane.now.side.seat.me.0 c.arm-rec.result c.arm-rec.new.self.seat.me.0) (WasArmed c.args.lane.now.sys.now c.args.lane.now.by c.args.t c.args.lane.now.side.seat.me.0 c.arm-rec.result c.arm-rec.new.self.seat.me.0)) (ne_eqb c.arm-rec.result.kind 34 c.if-rec-eq-ARM.false) (subst (λ k. ArmsTimer k c.args.lane.now.by c.args.t c.args.ticks c.args.interval c.args.lane.now.side.seat.me.0 c.arm-rec.result c.arm-rec.new.self.seat.me.0) c.args.lane.now.side_key c.arm-rec.ensures.arms))

pub invariant_of-lane-2 : goal.invariant_of-lane-2
invariant_of-lane-2 g c = record {
  own = c.args.lane.now.own;
  wide = c.args.lane.now.wide;
  key = c.args.lane.now.key;
  side_key = (λ i. (c.arm-rec.ensures.same.0 i).now.shared.key) ∙ c.args.lane.now.side_key;
  rings_key = c.args.lane.now.rings_key;
  ended = c.args.lane.now.ended;
  holds = (arms-not c.args.lane.now c.arm-rec.new.self.seat.me.0 c.put-2.new.log c.put-2.new.numbers.list c.arm-rec.result 0 c.put-2.ensures.put c.put-2.ensures.spare c.args.t c.args.ticks c.args.interval (get_or c.deref.result.now 2 0) (get_or c.deref-2.result.now 3 0) (subst (λ b. MatchBool b (IsArmed c.args.lane.now.sys.now c.args.lane.now.by c.args.t c.args.ticks c.args.interval c.args.lane.now.side.seat.me.0 c.arm-rec.result c.arm-rec.new.self.seat.me.0) (WasArmed c.args.lane.now.sys.now c.args.lane.now.by c.args.t c.args.lane.now.side.seat.me.0 c.arm-rec.result c.arm-rec.new.self.seat.me.0)) (ne_eqb c.arm-rec.result.kind 34 c.if-rec-eq-ARM.false) (subst (λ k. ArmsTimer k c.args.lane.now.by c.args.t c.args.ticks c.args.interval c.args.lane.now.side.seat.me.0 c.arm-rec.result c.arm-rec.new.self.seat.me.0) c.args.lane.now.side_key c.arm-rec.ensures.arms)) (ap (λ xs. get_or xs 2 0) (c.deref.ensures.0 ∙ ap (λ (r : Rec). r.nums.items) (subst (λ b. MatchBool b (IsArmed c.args.lane.now.sys.now c.args.lane.now.by c.args.t c.args.ticks c.args.interval c.args.lane.now.side.seat.me.0 c.arm-rec.result c.arm-rec.new.self.seat.me.0) (WasArmed c.args.lane.now.sys.now c.args.lane.now.by c.args.t c.args.lane.now.side.seat.me.0 c.arm-rec.result c.arm-rec.new.self.seat.me.0)) (ne_eqb c.arm-rec.result.kind 34 c.if-rec-eq-ARM.false) (subst (λ k. ArmsTimer k c.args.lane.now.by c.args.t c.args.ticks c.args.interval c.args.lane.now.side.seat.me.0 c.arm-rec.result c.arm-rec.new.self.seat.me.0) c.args.lane.now.side_key c.arm-rec.ensures.arms)).is)) (ap (λ xs. get_or xs 3 0) (c.deref-2.ensures.0 ∙ ap (λ (r : Rec). r.nums.items) (subst (λ b. MatchBool b (IsArmed c.args.lane.now.sys.now c.args.lane.now.by c.args.t c.args.ticks c.args.interval c.args.lane.now.side.seat.me.0 c.arm-rec.result c.arm-rec.new.self.seat.me.0) (WasArmed c.args.lane.now.sys.now c.args.lane.now.by c.args.t c.args.lane.now.side.seat.me.0 c.arm-rec.result c.arm-rec.new.self.seat.me.0)) (ne_eqb c.arm-rec.result.kind 34 c.if-rec-eq-ARM.false) (subst (λ k. ArmsTimer k c.args.lane.now.by c.args.t c.args.ticks c.args.interval c.args.lane.now.side.seat.me.0 c.arm-rec.result c.arm-rec.new.self.seat.me.0) c.args.lane.now.side_key c.arm-rec.ensures.arms)).is))).0;
}

pub returns-clause-arms : goal.returns-clause-arms
returns-clause-arms g c = in-world c.args.lane.now c.arm-rec.new.self.seat.me.0 c.put-2.new.log c.put-2.new.numbers.list c.arm-rec.result 0 c.put-2.ensures.put c.put-2.ensures.spare (λ v. CallArms c.args.t c.args.ticks c.args.interval (state_view c.args.lane.now) v (armed.Armed (get_or c.deref.result.now 2 0) (get_or c.deref-2.result.now 3 0))) c.arm-rec.new.self.words.now.shared.table_id (λ i. (c.arm-rec.ensures.same.0 i).now.shared.table_id)
    ((arms-not c.args.lane.now c.arm-rec.new.self.seat.me.0 c.put-2.new.log c.put-2.new.numbers.list c.arm-rec.result 0 c.put-2.ensures.put c.put-2.ensures.spare c.args.t c.args.ticks c.args.interval (get_or c.deref.result.now 2 0) (get_or c.deref-2.result.now 3 0) (subst (λ b. MatchBool b (IsArmed c.args.lane.now.sys.now c.args.lane.now.by c.args.t c.args.ticks c.args.interval c.args.lane.now.side.seat.me.0 c.arm-rec.result c.arm-rec.new.self.seat.me.0) (WasArmed c.args.lane.now.sys.now c.args.lane.now.by c.args.t c.args.lane.now.side.seat.me.0 c.arm-rec.result c.arm-rec.new.self.seat.me.0)) (ne_eqb c.arm-rec.result.kind 34 c.if-rec-eq-ARM.false) (subst (λ k. ArmsTimer k c.args.lane.now.by c.args.t c.args.ticks c.args.interval c.args.lane.now.side.seat.me.0 c.arm-rec.result c.arm-rec.new.self.seat.me.0) c.args.lane.now.side_key c.arm-rec.ensures.arms)) (ap (λ xs. get_or xs 2 0) (c.deref.ensures.0 ∙ ap (λ (r : Rec). r.nums.items) (subst (λ b. MatchBool b (IsArmed c.args.lane.now.sys.now c.args.lane.now.by c.args.t c.args.ticks c.args.interval c.args.lane.now.side.seat.me.0 c.arm-rec.result c.arm-rec.new.self.seat.me.0) (WasArmed c.args.lane.now.sys.now c.args.lane.now.by c.args.t c.args.lane.now.side.seat.me.0 c.arm-rec.result c.arm-rec.new.self.seat.me.0)) (ne_eqb c.arm-rec.result.kind 34 c.if-rec-eq-ARM.false) (subst (λ k. ArmsTimer k c.args.lane.now.by c.args.t c.args.ticks c.args.interval c.args.lane.now.side.seat.me.0 c.arm-rec.result c.arm-rec.new.self.seat.me.0) c.args.lane.now.side_key c.arm-rec.ensures.arms)).is)) (ap (λ xs. get_or xs 3 0) (c.deref-2.ensures.0 ∙ ap (λ (r : Rec). r.nums.items) (subst (λ b. MatchBool b (IsArmed c.args.lane.now.sys.now c.args.lane.now.by c.args.t c.args.ticks c.args.interval c.args.lane.now.side.seat.me.0 c.arm-rec.result c.arm-rec.new.self.seat.me.0) (WasArmed c.args.lane.now.sys.now c.args.lane.now.by c.args.t c.args.lane.now.side.seat.me.0 c.arm-rec.result c.arm-rec.new.self.seat.me.0)) (ne_eqb c.arm-rec.result.kind 34 c.if-rec-eq-ARM.false) (subst (λ k. ArmsTimer k c.args.lane.now.by c.args.t c.args.ticks c.args.interval c.args.lane.now.side.seat.me.0 c.arm-rec.result c.arm-rec.new.self.seat.me.0) c.args.lane.now.side_key c.arm-rec.ensures.arms)).is))).1)

pub returns-clause-tries : goal.returns-clause-tries
returns-clause-tries g c = in-world c.args.lane.now c.arm-rec.new.self.seat.me.0 c.put-2.new.log c.put-2.new.numbers.list c.arm-rec.result 0 c.put-2.ensures.put c.put-2.ensures.spare (λ v. FewTries (word.Timer c.args.t) 0 c.args.steps.now c.arm-rec.new.steps (state_view c.args.lane.now) v) c.arm-rec.new.self.words.now.shared.table_id (λ i. (c.arm-rec.ensures.same.0 i).now.shared.table_id)
    (tried c.args.lane.now c.arm-rec.new.self.seat.me.0 c.put-2.new.log c.put-2.new.numbers.list c.arm-rec.result 0 c.put-2.ensures.put c.put-2.ensures.spare c.args.t 0 c.args.steps.now c.arm-rec.new.steps (ap (λ (r : Rec). own_draw r.kind) (subst (λ b. MatchBool b (IsArmed c.args.lane.now.sys.now c.args.lane.now.by c.args.t c.args.ticks c.args.interval c.args.lane.now.side.seat.me.0 c.arm-rec.result c.arm-rec.new.self.seat.me.0) (WasArmed c.args.lane.now.sys.now c.args.lane.now.by c.args.t c.args.lane.now.side.seat.me.0 c.arm-rec.result c.arm-rec.new.self.seat.me.0)) (ne_eqb c.arm-rec.result.kind 34 c.if-rec-eq-ARM.false) (subst (λ k. ArmsTimer k c.args.lane.now.by c.args.t c.args.ticks c.args.interval c.args.lane.now.side.seat.me.0 c.arm-rec.result c.arm-rec.new.self.seat.me.0) c.args.lane.now.side_key c.arm-rec.ensures.arms)).is) (subst (λ k. SideTries k (word.Timer c.args.t) c.arm-rec.result c.args.steps.now c.arm-rec.new.steps c.args.lane.now.side.seat.me.0 c.arm-rec.new.self.seat.me.0) c.args.lane.now.side_key c.arm-rec.ensures.tries))
