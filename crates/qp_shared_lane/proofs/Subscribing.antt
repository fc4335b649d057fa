-- Whether an object is a subscriber, by a lane's records.
use Rattle.std.proofs.Common.{◌≡◌, ℕ, List, [], ◌∷◌, Bool, true, false, cond, length, refl, sym, ◌∙◌, ap, arith}
use Rattle.std.specs.List.{filter}
use Rattle.qp_model.specs.declared.record.Rec.{Rec}
use Rattle.qp_model.specs.declared.bodies.Body.{Body}
use Rattle.qp_model.specs.declared.bodies.Body.TheVariants.{Sub, Unsub}
use Rattle.qp_model.specs.Record.{Item, item_of}
use Rattle.qp_model.specs.History.{touch, touch_of, lane_items}
use Rattle.qp_table.specs.TwoTables.{on_side}
use Rattle.qp_table.specs.declared.view.SeatLog.{SeatLog}
use Rattle.qp_table.specs.Lane.{own_of_logs, own_recs}
use Rattle.qp_side.specs.Rule.{member_by_body, member_by, member_from, member_in}
use Rattle.qp_side.specs.declared.view.SideView.{SideView}
use Rattle.qp_shared_lane.specs.Holds.{on_side_of, member_over}

off-side : (o s of : ℕ) (b : Body) (m : Bool) → on_side (touch_of of b) ≡ false → member_by_body o s of b m ≡ m
off-side o s of (Sub sig n) m e = absurd (cc)
off-side o s of (Unsub sig n) m e = absurd (cc)
off-side o s of _ m e = refl

over-side : (o s : ℕ) (m : Bool) (is : List Item) → member_over o s m (filter (λ i. on_side (touch i)) is) ≡ member_over o s m is
unfolding member_over
over-side o s m [] = refl
over-side o s m (i ∷ is) = go (on_side (touch i)) refl (λ b. over-side o s b is)
  where
    go : (t : Bool) → on_side (touch i) ≡ t → ((b : Bool) → member_over o s b (filter (λ i. on_side (touch i)) is) ≡ member_over o s b is) → member_over o s m (cond t (i ∷ filter (λ i. on_side (touch i)) is) (filter (λ i. on_side (touch i)) is)) ≡ member_over o s (member_by o s i m) is
    go true e rest = rest (member_by o s i m)
    go false e rest = rest m ∙ ap (λ b. member_over o s b is) (sym (off-side o s i.of i.body m e))

over-recs : (o s : ℕ) (m : Bool) (recs : List Rec) → member_over o s m (lane_items recs) ≡ member_from o s m recs
unfolding member_over member_from lane_items
over-recs o s m [] = refl
over-recs o s m (r ∷ recs) = over-recs o s (member_by o s (item_of r) m) recs

over-logs : (o s : ℕ) (gs : List SeatLog) → length gs ≡ 1 → member_over o s false (own_of_logs gs) ≡ member_in o s gs
over-logs o s [] one = absurd (omega arith)
over-logs o s (g ∷ []) one = over-recs o s false g.recs
over-logs o s (g ∷ h ∷ gs) one = absurd (omega arith)

-- it is one by all records where it is by the seat's own log
pub member-own : (o n : ℕ) (recs : List Rec) (s : SideView) → length s.view.logs ≡ 1 → on_side_of recs ≡ own_recs s.view → member_over o n false (lane_items recs) ≡ member_in o n s.view.logs
unfolding on_side_of own_recs
member-own o n recs s one same = sym (over-side o n false (lane_items recs)) ∙ (ap (member_over o n false) same ∙ over-logs o n s.view.logs one)
