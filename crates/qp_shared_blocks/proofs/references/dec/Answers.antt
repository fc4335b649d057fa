use Rattle.std.proofs.Common.{◌≡◌, ◌≢◌, ℕ, ◌-◌, ◌%◌, suc, sym, ap, subst, ◌∙◌, arith}
use Rattle.qp_calls.specs.Clauses.{StandsHold}
use Rattle.qp_shared_lane.specs.Lane.{state_view}
use Rattle.qp_shared_blocks.proofs.Lanes.{spare-is, room, held, held-place, hold-is}
use Rattle.qp_shared_blocks.proofs.Used.{last-ended, kept-ended}
use Rattle.qp_shared_blocks.proofs.Dropping.{dec-holds, dec-drops}
use Rattle.qp_shared_blocks.proofs.references.dec.Goals as goal

stand : (c : goal.After-drop_reference-arg-1) → StandsHold (record { pool = c.pool-pool.result; block = c.block-block.result; name = c.name-name.result }) (state_view c.args.lane.now)
stand c = subst (λ h. StandsHold h (state_view c.args.lane.now)) (sym (hold-is c.pool-pool.result c.block-block.result c.name-name.result c.args.h c.pool-pool.ensures c.block-block.ensures c.name-name.ensures)) c.requires.stands

pub drop_reference-found-requires-clause-place : goal.drop_reference-found-requires-clause-place
drop_reference-found-requires-clause-place c = held-place c.args.lane.now (record { pool = c.pool-pool.result; block = c.block-block.result; name = c.name-name.result }) (stand c)

pub drop_reference-found-requires-clause-room : goal.drop_reference-found-requires-clause-room
drop_reference-found-requires-clause-room c = room c.args.lane.now c.requires.room

pub drop_reference-found-requires-clause-hand : goal.drop_reference-found-requires-clause-hand
drop_reference-found-requires-clause-hand c = held c.args.lane.now (record { pool = c.pool-pool.result; block = c.block-block.result; name = c.name-name.result }) (stand c)

pub put-requires-clause-room : goal.put-requires-clause-room
put-requires-clause-room c = spare-is c.args.lane.now c.requires.room

pub invariant_of-lane-clause-own : goal.invariant_of-lane-clause-own
invariant_of-lane-clause-own c = c.drop_reference-found.ensures.same.0 ∙ c.args.lane.now.own

pub invariant_of-lane-clause-ended : goal.invariant_of-lane-clause-ended
invariant_of-lane-clause-ended c = let l = c.args.lane.now in
    last-ended l.words.now.shared.key l.by c.pool-pool.result c.block-block.result c.name-name.result l.seat.me.0 c.drop_reference-found.new.seat.me.0 c.drop_reference-found.result l.ends.at c.set.new.self.at c.drop_reference-found.ensures.told
    (held-place l (record { pool = c.pool-pool.result; block = c.block-block.result; name = c.name-name.result }) (subst (λ h. StandsHold h (state_view l)) (sym (hold-is c.pool-pool.result c.block-block.result c.name-name.result c.args.h c.pool-pool.ensures c.block-block.ensures c.name-name.ensures)) c.requires.stands))
    c.if-left-eq0.true c.set.ensures.here c.set.ensures.others l.ended

pub invariant_of-lane-clause-holds : goal.invariant_of-lane-clause-holds
invariant_of-lane-clause-holds c = dec-holds c.args.lane.now c.args.h c.pool-pool.result c.block-block.result c.name-name.result
    (hold-is c.pool-pool.result c.block-block.result c.name-name.result c.args.h c.pool-pool.ensures c.block-block.ensures c.name-name.ensures) c.requires.stands
    c.drop_reference-found.new.seat.me.0 c.drop_reference-found.result c.put.new.log c.put.new.numbers.list c.dec-rec.result c.drop_reference-found.ensures.told c.put.ensures.put c.dec-rec.ensures

pub invariant_of-lane-else-left-eq0-clause-own : goal.invariant_of-lane-else-left-eq0-clause-own
invariant_of-lane-else-left-eq0-clause-own c = c.drop_reference-found.ensures.same.0 ∙ c.args.lane.now.own

pub invariant_of-lane-else-left-eq0-clause-ended : goal.invariant_of-lane-else-left-eq0-clause-ended
invariant_of-lane-else-left-eq0-clause-ended c = let l = c.args.lane.now in
    kept-ended l.words.now.shared.key l.by c.pool-pool.result c.block-block.result c.name-name.result l.seat.me.0 c.drop_reference-found.new.seat.me.0 c.drop_reference-found.result l.ends.at c.drop_reference-found.ensures.told c.if-left-eq0.false l.ended

pub invariant_of-lane-else-left-eq0-clause-holds : goal.invariant_of-lane-else-left-eq0-clause-holds
invariant_of-lane-else-left-eq0-clause-holds c = dec-holds c.args.lane.now c.args.h c.pool-pool.result c.block-block.result c.name-name.result
    (hold-is c.pool-pool.result c.block-block.result c.name-name.result c.args.h c.pool-pool.ensures c.block-block.ensures c.name-name.ensures) c.requires.stands
    c.drop_reference-found.new.seat.me.0 c.drop_reference-found.result c.put.new.log c.put.new.numbers.list c.dec-rec.result c.drop_reference-found.ensures.told c.put.ensures.put c.dec-rec.ensures

pub returns-then-left-eq0 : goal.returns-then-left-eq0
returns-then-left-eq0 c = (
  dec-drops c.args.lane.now c.args.h c.pool-pool.result c.block-block.result c.name-name.result
      (hold-is c.pool-pool.result c.block-block.result c.name-name.result c.args.h c.pool-pool.ensures c.block-block.ensures c.name-name.ensures) c.requires.stands
      c.drop_reference-found.new.seat.me.0 c.drop_reference-found.result c.put.new.log c.put.new.numbers.list c.dec-rec.result c.drop_reference-found.ensures.told c.put.ensures.put c.dec-rec.ensures 0 c.if-left-eq0.true c.put.ensures.spare,
  ap (λ f. f.pool) c.of.ensures ∙ c.pool-pool.ensures,
  ap (λ f. f.block) c.of.ensures ∙ c.block-block.ensures,
  ap (λ f. f.used) c.of.ensures,
)

pub returns-else-left-eq0 : goal.returns-else-left-eq0
returns-else-left-eq0 c = (
  c.drop_reference-found.result % 4294967296 - 1 - 1,
  dec-drops c.args.lane.now c.args.h c.pool-pool.result c.block-block.result c.name-name.result
      (hold-is c.pool-pool.result c.block-block.result c.name-name.result c.args.h c.pool-pool.ensures c.block-block.ensures c.name-name.ensures) c.requires.stands
      c.drop_reference-found.new.seat.me.0 c.drop_reference-found.result c.put.new.log c.put.new.numbers.list c.dec-rec.result c.drop_reference-found.ensures.told c.put.ensures.put c.dec-rec.ensures
      (suc (c.drop_reference-found.result % 4294967296 - 1 - 1)) (one-more (c.drop_reference-found.result % 4294967296 - 1) c.if-left-eq0.false) c.put.ensures.spare,
)
  where
    one-more : (x : ℕ) → x ≢ 0 → x ≡ suc (x - 1)
    one-more x ne = omega arith
