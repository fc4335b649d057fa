use Rattle.std.proofs.Common.{get_or, eq-eqb, ne_eqb, ap, subst, sym, ◌∙◌}
use Rattle.std.specs.Bool.{MatchBool}
use Rattle.qp_model.specs.declared.record.Rec.{Rec}
use Rattle.qp_model.specs.declared.words.Word.TheVariants as word
use Rattle.qp_calls.specs.Clauses.{CallDisarms, FewTries, draws_disarmed}
use Rattle.qp_side.specs.Calls.{DisarmsTimer, IsDisarmed, IsIdleTimer, SideTries, own_draw}
use Rattle.qp_shared_lane.specs.Lane.{state_view}
use Rattle.qp_shared_signals.proofs.Calling.{spare-is, side-room, side-owns, disarm-plain, idle-plain, disarms, disarms-not, some-draw, tried, in-world}
use Rattle.qp_shared_signals.proofs.timers.disarm.Goals as goal

pub disarm-rec-requires-clause-room : goal.disarm-rec-requires-clause-room
disarm-rec-requires-clause-room g c = side-room c.args.lane.now c.requires.room

pub disarm-rec-requires-clause-owns : goal.disarm-rec-requires-clause-owns
disarm-rec-requires-clause-owns g c = side-owns c.args.lane.now c.args.t c.requires.owns

pub put-requires-clause-room : goal.put-requires-clause-room
put-requires-clause-room g c = spare-is c.args.lane.now c.requires.room

pub put-requires-clause-plain : goal.put-requires-clause-plain
put-requires-clause-plain g c = idle-plain c.args.lane.now.sys.now c.args.lane.now.by c.args.lane.now.side.seat.me.0 c.disarm-rec.result c.disarm-rec.new.self.seat.me.0 c.args.t (subst (λ b. MatchBool b (IsDisarmed c.args.lane.now.sys.now c.args.lane.now.by c.args.t c.args.lane.now.side.seat.me.0 c.disarm-rec.result c.disarm-rec.new.self.seat.me.0) (IsIdleTimer c.args.lane.now.sys.now c.args.lane.now.by c.args.t c.args.lane.now.side.seat.me.0 c.disarm-rec.result c.disarm-rec.new.self.seat.me.0)) (ne_eqb c.disarm-rec.result.kind 35 c.if-rec-ne-DISARM.true) (subst (λ k. DisarmsTimer k c.args.lane.now.by c.args.t c.args.lane.now.side.seat.me.0 c.disarm-rec.result c.disarm-rec.new.self.seat.me.0) c.args.lane.now.side_key c.disarm-rec.ensures.disarms))

pub invariant_of-lane : goal.invariant_of-lane
invariant_of-lane g c = record {
  own = c.args.lane.now.own;
  wide = c.args.lane.now.wide;
  key = c.args.lane.now.key;
  side_key = (λ i. (c.disarm-rec.ensures.same.0 i).now.shared.key) ∙ c.args.lane.now.side_key;
  rings_key = c.args.lane.now.rings_key;
  ended = c.args.lane.now.ended;
  holds = (disarms-not c.args.lane.now c.disarm-rec.new.self.seat.me.0 c.put.new.log c.put.new.numbers.list c.disarm-rec.result 0 c.put.ensures.put c.put.ensures.spare c.args.t (subst (λ b. MatchBool b (IsDisarmed c.args.lane.now.sys.now c.args.lane.now.by c.args.t c.args.lane.now.side.seat.me.0 c.disarm-rec.result c.disarm-rec.new.self.seat.me.0) (IsIdleTimer c.args.lane.now.sys.now c.args.lane.now.by c.args.t c.args.lane.now.side.seat.me.0 c.disarm-rec.result c.disarm-rec.new.self.seat.me.0)) (ne_eqb c.disarm-rec.result.kind 35 c.if-rec-ne-DISARM.true) (subst (λ k. DisarmsTimer k c.args.lane.now.by c.args.t c.args.lane.now.side.seat.me.0 c.disarm-rec.result c.disarm-rec.new.self.seat.me.0) c.args.lane.now.side_key c.disarm-rec.ensures.disarms))).0;
}

pub returns-then-rec-ne-DISARM-clause-disarms : goal.returns-then-rec-ne-DISARM-clause-disarms
returns-then-rec-ne-DISARM-clause-disarms g c = in-world c.args.lane.now c.disarm-rec.new.self.seat.me.0 c.put.new.log c.put.new.numbers.list c.disarm-rec.result 0 c.put.ensures.put c.put.ensures.spare (λ v. CallDisarms c.args.t (state_view c.args.lane.now) v 0) c.disarm-rec.new.self.words.now.shared.table_id (λ i. (c.disarm-rec.ensures.same.0 i).now.shared.table_id)
    ((disarms-not c.args.lane.now c.disarm-rec.new.self.seat.me.0 c.put.new.log c.put.new.numbers.list c.disarm-rec.result 0 c.put.ensures.put c.put.ensures.spare c.args.t (subst (λ b. MatchBool b (IsDisarmed c.args.lane.now.sys.now c.args.lane.now.by c.args.t c.args.lane.now.side.seat.me.0 c.disarm-rec.result c.disarm-rec.new.self.seat.me.0) (IsIdleTimer c.args.lane.now.sys.now c.args.lane.now.by c.args.t c.args.lane.now.side.seat.me.0 c.disarm-rec.result c.disarm-rec.new.self.seat.me.0)) (ne_eqb c.disarm-rec.result.kind 35 c.if-rec-ne-DISARM.true) (subst (λ k. DisarmsTimer k c.args.lane.now.by c.args.t c.args.lane.now.side.seat.me.0 c.disarm-rec.result c.disarm-rec.new.self.seat.me.0) c.args.lane.now.side_key c.disarm-rec.ensures.disarms))).1)

pub returns-then-rec-ne-DISARM-clause-tries : goal.returns-then-rec-ne-DISARM-clause-tries
returns-then-rec-ne-DISARM-clause-tries g c = in-world c.args.lane.now c.disarm-rec.new.self.seat.me.0 c.put.new.log c.put.new.numbers.list c.disarm-rec.result 0 c.put.ensures.put c.put.ensures.spare (λ v. FewTries (word.Timer c.args.t) 0 c.args.steps.now c.disarm-rec.new.steps (state_view c.args.lane.now) v) c.disarm-rec.new.self.words.now.shared.table_id (λ i. (c.disarm-rec.ensures.same.0 i).now.shared.table_id)
    (tried c.args.lane.now c.disarm-rec.new.self.seat.me.0 c.put.new.log c.put.new.numbers.list c.disarm-rec.result 0 c.put.ensures.put c.put.ensures.spare c.args.t 0 c.args.steps.now c.disarm-rec.new.steps (ap (λ (r : Rec). own_draw r.kind) (subst (λ b. MatchBool b (IsDisarmed c.args.lane.now.sys.now c.args.lane.now.by c.args.t c.args.lane.now.side.seat.me.0 c.disarm-rec.result c.disarm-rec.new.self.seat.me.0) (IsIdleTimer c.args.lane.now.sys.now c.args.lane.now.by c.args.t c.args.lane.now.side.seat.me.0 c.disarm-rec.result c.disarm-rec.new.self.seat.me.0)) (ne_eqb c.disarm-rec.result.kind 35 c.if-rec-ne-DISARM.true) (subst (λ k. DisarmsTimer k c.args.lane.now.by c.args.t c.args.lane.now.side.seat.me.0 c.disarm-rec.result c.disarm-rec.new.self.seat.me.0) c.args.lane.now.side_key c.disarm-rec.ensures.disarms)).is) (subst (λ k. SideTries k (word.Timer c.args.t) c.disarm-rec.result c.args.steps.now c.disarm-rec.new.steps c.args.lane.now.side.seat.me.0 c.disarm-rec.new.self.seat.me.0) c.args.lane.now.side_key c.disarm-rec.ensures.tries))

pub put-requires-2-clause-room : goal.put-requires-2-clause-room
put-requires-2-clause-room g c = spare-is c.args.lane.now c.requires.room

pub put-requires-2-clause-plain : goal.put-requires-2-clause-plain
put-requires-2-clause-plain g c = disarm-plain c.args.lane.now.sys.now c.args.lane.now.by c.args.lane.now.side.seat.me.0 c.disarm-rec.result c.disarm-rec.new.self.seat.me.0 c.args.t (subst (λ b. MatchBool b (IsDisarmed c.args.lane.now.sys.now c.args.lane.now.by c.args.t c.args.lane.now.side.seat.me.0 c.disarm-rec.result c.disarm-rec.new.self.seat.me.0) (IsIdleTimer c.args.lane.now.sys.now c.args.lane.now.by c.args.t c.args.lane.now.side.seat.me.0 c.disarm-rec.result c.disarm-rec.new.self.seat.me.0)) (eq-eqb c.disarm-rec.result.kind 35 c.if-rec-ne-DISARM.false) (subst (λ k. DisarmsTimer k c.args.lane.now.by c.args.t c.args.lane.now.side.seat.me.0 c.disarm-rec.result c.disarm-rec.new.self.seat.me.0) c.args.lane.now.side_key c.disarm-rec.ensures.disarms))

pub invariant_of-lane-2 : goal.invariant_of-lane-2
invariant_of-lane-2 g c = record {
  own = c.args.lane.now.own;
  wide = c.args.lane.now.wide;
  key = c.args.lane.now.key;
  side_key = (λ i. (c.disarm-rec.ensures.same.0 i).now.shared.key) ∙ c.args.lane.now.side_key;
  rings_key = c.args.lane.now.rings_key;
  ended = c.args.lane.now.ended;
  holds = (disarms c.args.lane.now c.disarm-rec.new.self.seat.me.0 c.put-2.new.log c.put-2.new.numbers.list c.disarm-rec.result 0 c.put-2.ensures.put c.put-2.ensures.spare c.args.t (get_or c.deref.result.now 2 0) (subst (λ b. MatchBool b (IsDisarmed c.args.lane.now.sys.now c.args.lane.now.by c.args.t c.args.lane.now.side.seat.me.0 c.disarm-rec.result c.disarm-rec.new.self.seat.me.0) (IsIdleTimer c.args.lane.now.sys.now c.args.lane.now.by c.args.t c.args.lane.now.side.seat.me.0 c.disarm-rec.result c.disarm-rec.new.self.seat.me.0)) (eq-eqb c.disarm-rec.result.kind 35 c.if-rec-ne-DISARM.false) (subst (λ k. DisarmsTimer k c.args.lane.now.by c.args.t c.args.lane.now.side.seat.me.0 c.disarm-rec.result c.disarm-rec.new.self.seat.me.0) c.args.lane.now.side_key c.disarm-rec.ensures.disarms)) (ap (λ xs. get_or xs 2 0) (c.deref.ensures.0 ∙ ap (λ (r : Rec). r.nums.items) (subst (λ b. MatchBool b (IsDisarmed c.args.lane.now.sys.now c.args.lane.now.by c.args.t c.args.lane.now.side.seat.me.0 c.disarm-rec.result c.disarm-rec.new.self.seat.me.0) (IsIdleTimer c.args.lane.now.sys.now c.args.lane.now.by c.args.t c.args.lane.now.side.seat.me.0 c.disarm-rec.result c.disarm-rec.new.self.seat.me.0)) (eq-eqb c.disarm-rec.result.kind 35 c.if-rec-ne-DISARM.false) (subst (λ k. DisarmsTimer k c.args.lane.now.by c.args.t c.args.lane.now.side.seat.me.0 c.disarm-rec.result c.disarm-rec.new.self.seat.me.0) c.args.lane.now.side_key c.disarm-rec.ensures.disarms)).is))).0;
}

pub returns-clause-disarms : goal.returns-clause-disarms
returns-clause-disarms g c = in-world c.args.lane.now c.disarm-rec.new.self.seat.me.0 c.put-2.new.log c.put-2.new.numbers.list c.disarm-rec.result 0 c.put-2.ensures.put c.put-2.ensures.spare (λ v. CallDisarms c.args.t (state_view c.args.lane.now) v (get_or c.deref.result.now 2 0)) c.disarm-rec.new.self.words.now.shared.table_id (λ i. (c.disarm-rec.ensures.same.0 i).now.shared.table_id)
    ((disarms c.args.lane.now c.disarm-rec.new.self.seat.me.0 c.put-2.new.log c.put-2.new.numbers.list c.disarm-rec.result 0 c.put-2.ensures.put c.put-2.ensures.spare c.args.t (get_or c.deref.result.now 2 0) (subst (λ b. MatchBool b (IsDisarmed c.args.lane.now.sys.now c.args.lane.now.by c.args.t c.args.lane.now.side.seat.me.0 c.disarm-rec.result c.disarm-rec.new.self.seat.me.0) (IsIdleTimer c.args.lane.now.sys.now c.args.lane.now.by c.args.t c.args.lane.now.side.seat.me.0 c.disarm-rec.result c.disarm-rec.new.self.seat.me.0)) (eq-eqb c.disarm-rec.result.kind 35 c.if-rec-ne-DISARM.false) (subst (λ k. DisarmsTimer k c.args.lane.now.by c.args.t c.args.lane.now.side.seat.me.0 c.disarm-rec.result c.disarm-rec.new.self.seat.me.0) c.args.lane.now.side_key c.disarm-rec.ensures.disarms)) (ap (λ xs. get_or xs 2 0) (c.deref.ensures.0 ∙ ap (λ (r : Rec). r.nums.items) (subst (λ b. MatchBool b (IsDisarmed c.args.lane.now.sys.now c.args.lane.now.by c.args.t c.args.lane.now.side.seat.me.0 c.disarm-rec.result c.disarm-rec.new.self.seat.me.0) (IsIdleTimer c.args.lane.now.sys.now c.args.lane.now.by c.args.t c.args.lane.now.side.seat.me.0 c.disarm-rec.result c.disarm-rec.new.self.seat.me.0)) (eq-eqb c.disarm-rec.result.kind 35 c.if-rec-ne-DISARM.false) (subst (λ k. DisarmsTimer k c.args.lane.now.by c.args.t c.args.lane.now.side.seat.me.0 c.disarm-rec.result c.disarm-rec.new.self.seat.me.0) c.args.lane.now.side_key c.disarm-rec.ensures.disarms)).is))).1)

pub returns-clause-tries : goal.returns-clause-tries
returns-clause-tries g c = in-world c.args.lane.now c.disarm-rec.new.self.seat.me.0 c.put-2.new.log c.put-2.new.numbers.list c.disarm-rec.result 0 c.put-2.ensures.put c.put-2.ensures.spare (λ v. FewTries (word.Timer c.args.t) (draws_disarmed (get_or c.deref.result.now 2 0)) c.args.steps.now c.disarm-rec.new.steps (state_view c.args.lane.now) v) c.disarm-rec.new.self.words.now.shared.table_id (λ i. (c.disarm-rec.ensures.same.0 i).now.shared.table_id)
    (tried c.args.lane.now c.disarm-rec.new.self.seat.me.0 c.put-2.new.log c.put-2.new.numbers.list c.disarm-rec.result 0 c.put-2.ensures.put c.put-2.ensures.spare c.args.t (draws_disarmed (get_or c.deref.result.now 2 0)) c.args.steps.now c.disarm-rec.new.steps (ap own_draw c.if-rec-ne-DISARM.false ∙ sym (some-draw (get_or c.deref.result.now 2 0) (subst (λ b. MatchBool b (IsDisarmed c.args.lane.now.sys.now c.args.lane.now.by c.args.t c.args.lane.now.side.seat.me.0 c.disarm-rec.result c.disarm-rec.new.self.seat.me.0) (IsIdleTimer c.args.lane.now.sys.now c.args.lane.now.by c.args.t c.args.lane.now.side.seat.me.0 c.disarm-rec.result c.disarm-rec.new.self.seat.me.0)) (eq-eqb c.disarm-rec.result.kind 35 c.if-rec-ne-DISARM.false) (subst (λ k. DisarmsTimer k c.args.lane.now.by c.args.t c.args.lane.now.side.seat.me.0 c.disarm-rec.result c.disarm-rec.new.self.seat.me.0) c.args.lane.now.side_key c.disarm-rec.ensures.disarms)).former (ap (λ xs. get_or xs 2 0) (c.deref.ensures.0 ∙ ap (λ (r : Rec). r.nums.items) (subst (λ b. MatchBool b (IsDisarmed c.args.lane.now.sys.now c.args.lane.now.by c.args.t c.args.lane.now.side.seat.me.0 c.disarm-rec.result c.disarm-rec.new.self.seat.me.0) (IsIdleTimer c.args.lane.now.sys.now c.args.lane.now.by c.args.t c.args.lane.now.side.seat.me.0 c.disarm-rec.result c.disarm-rec.new.self.seat.me.0)) (eq-eqb c.disarm-rec.result.kind 35 c.if-rec-ne-DISARM.false) (subst (λ k. DisarmsTimer k c.args.lane.now.by c.args.t c.args.lane.now.side.seat.me.0 c.disarm-rec.result c.disarm-rec.new.self.seat.me.0) c.args.lane.now.side_key c.disarm-rec.ensures.disarms)).is)) (subst (λ b. MatchBool b (IsDisarmed c.args.lane.now.sys.now c.args.lane.now.by c.args.t c.args.lane.now.side.seat.me.0 c.disarm-rec.result c.disarm-rec.new.self.seat.me.0) (IsIdleTimer c.args.lane.now.sys.now c.args.lane.now.by c.args.t c.args.lane.now.side.seat.me.0 c.disarm-rec.result c.disarm-rec.new.self.seat.me.0)) (eq-eqb c.disarm-rec.result.kind 35 c.if-rec-ne-DISARM.false) (subst (λ k. DisarmsTimer k c.args.lane.now.by c.args.t c.args.lane.now.side.seat.me.0 c.disarm-rec.result c.disarm-rec.new.self.seat.me.0) c.args.lane.now.side_key c.disarm-rec.ensures.disarms)).some)) (subst (λ k. SideTries k (word.Timer c.args.t) c.disarm-rec.result c.args.steps.now c.disarm-rec.new.steps c.args.lane.now.side.seat.me.0 c.disarm-rec.new.self.seat.me.0) c.args.lane.now.side_key c.disarm-rec.ensures.tries))
