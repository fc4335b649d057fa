use Rattle.std.proofs.Common.{true, false, sym, ◌∙◌}
use Rattle.qp_calls_log.proofs.NoteLemmas.{first-spill, other-note, spare-kept, spare-less}
use Rattle.qp_table.specs.Lane.{lane_of}
use Rattle.qp_shared_lane.specs.Lane.{state_view}
use Rattle.qp_shared_blocks.proofs.Lanes.{spare-is}
use Rattle.qp_shared_blocks.proofs.Notes.{tells, spill-of, note-holds, note-grows, plain-told, spill-told}
use Rattle.qp_shared_blocks.proofs.noting.note.Goals as goal

pub put_spill-requires-clause-spill : goal.put_spill-requires-clause-spill
put_spill-requires-clause-spill c = spill-of c.args.r true (sym c.is_spill-spills.ensures ∙ c.if-spills.true)

pub put_spill-requires-clause-first : goal.put_spill-requires-clause-first
put_spill-requires-clause-first c = first-spill c.args.lane.now.log (state_view c.args.lane.now) c.args.r (tells c.args.lane.now) c.requires (spill-of c.args.r true (sym c.is_spill-spills.ensures ∙ c.if-spills.true))

pub put-requires-clause-room : goal.put-requires-clause-room
put-requires-clause-room c = spare-is c.args.lane.now (other-note (state_view c.args.lane.now) c.args.r c.requires (spill-of c.args.r false (sym c.is_spill-spills.ensures ∙ c.if-spills.false))).1

pub put-requires-clause-plain : goal.put-requires-clause-plain
put-requires-clause-plain c = (other-note (state_view c.args.lane.now) c.args.r c.requires (spill-of c.args.r false (sym c.is_spill-spills.ensures ∙ c.if-spills.false))).0

pub invariant_of-lane-clause-holds : goal.invariant_of-lane-clause-holds
invariant_of-lane-clause-holds c = note-holds c.args.lane.now c.args.r c.requires c.put_spill.new.log c.put_spill.new.numbers.list 0 c.put_spill.ensures.put
    (spill-told c.args.lane.now c.args.r c.requires (spill-of c.args.r true (sym c.is_spill-spills.ensures ∙ c.if-spills.true))) c.ceiling_after-lane.result c.ceiling_after-lane.ensures

pub invariant_of-lane-else-spills-clause-holds : goal.invariant_of-lane-else-spills-clause-holds
invariant_of-lane-else-spills-clause-holds c = note-holds c.args.lane.now c.args.r c.requires c.put.new.log c.put.new.numbers.list c.args.lane.now.ceiling c.put.ensures.put
    (plain-told c.args.lane.now c.args.r c.requires) c.ceiling_after-lane.result c.ceiling_after-lane.ensures

pub returns-then-spills-clause-grows : goal.returns-then-spills-clause-grows
returns-then-spills-clause-grows c = note-grows c.args.lane.now c.args.r c.requires c.put_spill.new.log c.put_spill.new.numbers.list 0 c.put_spill.ensures.put
    (spill-told c.args.lane.now c.args.r c.requires (spill-of c.args.r true (sym c.is_spill-spills.ensures ∙ c.if-spills.true))) c.ceiling_after-lane.result c.ceiling_after-lane.ensures

pub returns-then-spills-clause-spare : goal.returns-then-spills-clause-spare
unfolding lane_of
returns-then-spills-clause-spare c = spare-kept c.args.r c.args.lane.now.log.spare c.put_spill.new.log.spare (spill-of c.args.r true (sym c.is_spill-spills.ensures ∙ c.if-spills.true)) c.put_spill.ensures.spare

pub returns-else-spills-clause-grows : goal.returns-else-spills-clause-grows
returns-else-spills-clause-grows c = note-grows c.args.lane.now c.args.r c.requires c.put.new.log c.put.new.numbers.list c.args.lane.now.ceiling c.put.ensures.put
    (plain-told c.args.lane.now c.args.r c.requires) c.ceiling_after-lane.result c.ceiling_after-lane.ensures

pub returns-else-spills-clause-spare : goal.returns-else-spills-clause-spare
unfolding lane_of
returns-else-spills-clause-spare c = spare-less c.args.r c.args.lane.now.log.spare c.put.new.log.spare (spill-of c.args.r false (sym c.is_spill-spills.ensures ∙ c.if-spills.false)) c.put.ensures.spare
