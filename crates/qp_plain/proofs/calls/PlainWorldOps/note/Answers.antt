use Rattle.std.proofs.Common.{◌≡◌, Bool, true, false, sym, ◌∙◌}
use Rattle.qp_plain_sound.specs.View.{view_of}
use Rattle.qp_plain.proofs.Calling.{stop-stays}
use Rattle.qp_model.specs.Record.{item_of, body_of}
use Rattle.qp_model.specs.declared.record.Rec.{Rec}
use Rattle.qp_model.specs.Ends.{is_spill}
use Rattle.qp_calls_log.proofs.NoteLemmas.{first-spill, other-note, spare-kept, spare-less}
use Rattle.qp_plain.specs.WorldView.{world_view}
use Rattle.qp_plain.proofs.NoteCalls.{here-tells, note-holds, note-grows}
use Rattle.qp_plain.proofs.calls.PlainWorldOps.note.Goals as goal

-- whether the record is a `spill`
spill-is : (r : Rec) (b x : Bool) → b ≡ is_spill (body_of r) → b ≡ x → is_spill (item_of r).body ≡ x
unfolding item_of
spill-is r b x is e = sym is ∙ e

pub add_spill-requires-clause-spill : goal.add_spill-requires-clause-spill
add_spill-requires-clause-spill c = spill-is c.args.r c.is_spill-spills.result true c.is_spill-spills.ensures c.if-spills.true

pub add_spill-requires-clause-first : goal.add_spill-requires-clause-first
add_spill-requires-clause-first c = first-spill c.args.self.now.book.here (world_view c.args.self.now) c.args.r (here-tells c.args.self.now) c.requires (spill-is c.args.r c.is_spill-spills.result true c.is_spill-spills.ensures c.if-spills.true)

pub invariant_of-self : goal.invariant_of-self
invariant_of-self c = record {
  holds = note-holds c.args.self.now c.add_spill.new.self c.args.r c.add_spill.ensures.gains c.requires;
  stops = stop-stays c.args.self.now.stop c.args.self.now.book c.add_spill.new.self c.add_spill.ensures.gains.stays c.args.self.now.stops;
}

pub returns-then-spills-clause-grows : goal.returns-then-spills-clause-grows
returns-then-spills-clause-grows c = note-grows c.args.self.now c.add_spill.new.self c.args.r c.add_spill.ensures.gains c.requires

pub returns-then-spills-clause-spare : goal.returns-then-spills-clause-spare
unfolding view_of
returns-then-spills-clause-spare c =
    spare-kept c.args.r c.args.self.now.book.here.spare c.add_spill.new.self.here.spare (spill-is c.args.r c.is_spill-spills.result true c.is_spill-spills.ensures c.if-spills.true) c.add_spill.ensures.spare

pub add-requires-clause-plain : goal.add-requires-clause-plain
add-requires-clause-plain c = (other-note (world_view c.args.self.now) c.args.r c.requires (spill-is c.args.r c.is_spill-spills.result false c.is_spill-spills.ensures c.if-spills.false)).0

pub add-requires-clause-room : goal.add-requires-clause-room
unfolding view_of
add-requires-clause-room c = (other-note (world_view c.args.self.now) c.args.r c.requires (spill-is c.args.r c.is_spill-spills.result false c.is_spill-spills.ensures c.if-spills.false)).1

pub invariant_of-self-else-spills : goal.invariant_of-self-else-spills
invariant_of-self-else-spills c = record {
  holds = note-holds c.args.self.now c.add.new.self c.args.r c.add.ensures.gains c.requires;
  stops = stop-stays c.args.self.now.stop c.args.self.now.book c.add.new.self c.add.ensures.gains.stays c.args.self.now.stops;
}

pub returns-else-spills : goal.returns-else-spills
unfolding view_of
returns-else-spills c = record {
  grows = note-grows c.args.self.now c.add.new.self c.args.r c.add.ensures.gains c.requires;
  spare = spare-less c.args.r c.args.self.now.book.here.spare c.add.new.self.here.spare (spill-is c.args.r c.is_spill-spills.result false c.is_spill-spills.ensures c.if-spills.false) c.add.ensures.spare;
}
