-- Seats as views, and what they are tested for.
use Rattle.std.specs.Prelude.{ℕ, nat_lt, Bool, ◌&&◌, [], ◌∷◌, ◌++◌, length}
use Rattle.qp_model.specs.declared.record.Rec.{Rec}
use Rattle.qp_table.specs.Counting.{sum_over}
use Rattle.qp_table.specs.declared.view.Glance.{Glance}
use Rattle.qp_table.specs.declared.view.SeatLog.{SeatLog}
use Rattle.qp_table.specs.declared.view.View.{View}
use Rattle.qp_table.specs.After.{logged}
use Rattle.qp_core_steps.specs.declared.glances.Glances.{Glances}
use Rattle.qp_core_steps.specs.declared.seats.Seat.{Seat}

-- a seat as a view of the rule
abbrev pub as_view : Seat → View
as_view x = record {
  logs = x.logs;
  lane_numbers = [];
  fresh = x.fresh;
  used = x.used;
  hands = x.hands;
  gives = x.gives;
  fills = x.fills;
  claims = x.claims;
  takes = x.takes;
  serves = x.serves;
  contents = [];
  seen = x.seen.list;
}

-- how many records the seat has, those that it took over included
abbrev pub seat_records : Seat → ℕ
seat_records x = sum_over (λ (g : SeatLog). length g.recs) x.logs

-- a seat below `lanes` may take a step, and add a record where it has room
abbrev pub seat_may_act : ℕ → Seat → Bool
seat_may_act lanes x = nat_lt x.number lanes

abbrev pub may_add : ℕ → Seat → Bool
may_add lanes x = nat_lt x.number lanes && nat_lt (seat_records x) 1000001

-- what a word showed
abbrev pub glance : ℕ → ℕ → Glance
glance w n = record { word = w; value = n }

abbrev pub with_glance : Glances → Glance → Glances
with_glance s g = record { list = s.list ++ g ∷ [] }

-- the seat with a glance more
abbrev pub seat_seeing : Glance → Seat → Seat
seat_seeing g x = record x { seen = with_glance x.seen g }

-- the seat with a record more in its own log, and a glance more
abbrev pub noting : Rec → Glance → Seat → Seat
noting r g x = record (seat_seeing g x) { logs = logged r x.logs }
