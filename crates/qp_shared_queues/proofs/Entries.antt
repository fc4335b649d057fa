-- An entry that a lane may post.
use Rattle.std.proofs.Common.{◌≡◌, refl, sym, subst, arith}
use Rattle.qp_model.specs.declared.systems.System.{System}
use Rattle.qp_model.specs.declared.bodies.Entry as model
use Rattle.qp_model.specs.Record.{entry}
use Rattle.qp_table.specs.Rule.{Codable}
use Rattle.qp_table.specs.After.{InHand}
use Rattle.qp_calls.specs.declared.tokens.HeldEntry.{HeldEntry}
use Rattle.qp_calls.specs.declared.tokens.HeldEntry.TheVariants as token
use Rattle.qp_calls.specs.Clauses.{entry_of, EntryStands}
use Rattle.qp_table.specs.Lane.{lane_of}
use Rattle.qp_table.proofs.Hands.{read-small}
use Rattle.qp_shared_lane.specs.declared.lane.LaneState.{LaneState}
use Rattle.qp_shared_lane.specs.Lane.{state_view}
use Rattle.qp_shared_queues.proofs.Posting.{StandsIn, in-view}

pub stands-in : (l : LaneState) (e : HeldEntry) → EntryStands e (state_view l) → StandsIn (entry_of e) l
unfolding lane_of entry_of
stands-in l (token.Static sig) is pos = absurd (omega arith)
stands-in l (token.Pool h) is pos = is.1

in-hand : (l : LaneState) (e : HeldEntry) → EntryStands e (state_view l) → StandsIn (entry_of e) l → InHand l.sys.now (entry_of e) l.seat.me.0
unfolding lane_of entry_of
in-hand l (token.Static sig) is there = record { static = λ z. (is, l.holds.fitting.signals sig is, refl); pooled = λ pos. absurd (omega arith) }
in-hand l (token.Pool h) is there = record { static = λ z. let pos = is.0 in absurd (omega arith); pooled = in-view l (entry h.pool h.block h.name) there }

codable : (l : LaneState) (e : HeldEntry) → EntryStands e (state_view l) → StandsIn (entry_of e) l → Codable l.sys.now (entry_of e)
unfolding lane_of entry_of
codable l (token.Static sig) is there = record { static = λ z. (is, l.holds.fitting.signals sig is, refl); pooled = λ pos. absurd (omega arith) }
codable l (token.Pool h) is there = record {
  static = λ z. let pos = is.0 in absurd (omega arith);
  pooled = λ pos. let r = l.holds.read (entry h.pool h.block h.name) (in-view l (entry h.pool h.block h.name) there pos) in let s = read-small l.seat.me.0.contents (entry h.pool h.block h.name) r.0 in (s.0, s.1, r.2);
}

-- the same by the parts of the entry, and the key of the table
module _ (l : LaneState) (e : HeldEntry) (d : model.Entry) (stands : EntryStands e (state_view l)) (parts : entry_of e ≡ d) where
  pub in-hand-by : InHand l.words.now.shared.key d l.seat.me.0
  in-hand-by = subst (λ (z : System × model.Entry). InHand z.0 z.1 l.seat.me.0) (λ i. (sym l.key i, parts i)) (in-hand l e stands (stands-in l e stands))

  pub codable-by : Codable l.words.now.shared.key d
  codable-by = subst (λ (z : System × model.Entry). Codable z.0 z.1) (λ i. (sym l.key i, parts i)) (codable l e stands (stands-in l e stands))
