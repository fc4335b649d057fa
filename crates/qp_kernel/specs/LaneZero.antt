-- What is true of lane 0 of a kernel at every moment: how far it reads, and how far each object has come.
use Rattle.std.specs.Prelude.{◌≡◌, ℕ, ◌≤◌, ◌==◌, Bool, false, List, [], ◌∷◌, ◌++◌, map, length, if◌then◌else◌, Some}
use Rattle.std.specs.List.{list_any}
use Rattle.std.specs.Option.{unwrap_or}
use Rattle.qp_chart.specs.declared.checked.Chart.{Chart}
use Rattle.qp_model.specs.declared.systems.System.{System}
use Rattle.qp_model.specs.declared.systems.ObjectDef.{ObjectDef}
use Rattle.qp_model.specs.declared.bodies.Entry.{Entry}
use Rattle.qp_model.specs.Told.{ToldItem, untold}
use Rattle.qp_model.specs.Pieces.{Piece, Tell, Point}
use Rattle.qp_model.specs.Ends.{is_turn_mark, is_end}
use Rattle.qp_model.specs.End.{took_count}
use Rattle.qp_model.specs.Sites.{object_at}
use Rattle.qp_model.specs.Kernels.{qk}
use Rattle.qp_model.specs.KernelLane.{Setting, Upcoming, Inside, Over, Reading, lane_next, lane_on, unread}
use Rattle.qp_model.specs.Points.{is_look, begins_row}
use Rattle.qp_model.specs.Course.{actor, first_config, chart_at}
use Rattle.qp_kernel.specs.Stages.{Stage, ComesTo}

-- what a told record is to the course of o: its own record but for `nil` and `spent`, or a point where a row begins
unfoldable pub told_pieces_at : ℕ → Reading → ToldItem → List Piece
told_pieces_at o k t =
    if t.of == o then (if is_turn_mark t.told.body then [] else Tell t.told ∷ [])
    else (if begins_row o k.place k.running (is_look t.told.body) then Point ∷ [] else [])

-- the pieces of o in lane 0, from this reading on
unfoldable pub told_pieces : Setting → ℕ → Reading → List ToldItem → List Piece
unfolding lane_next told_pieces_at
told_pieces s o k [] = []
told_pieces s o k (t ∷ ts) = told_pieces_at o k t ++ told_pieces s o (unwrap_or (lane_next s k (untold t)) k) ts

-- the same answer for the looks up to this one: no stimulus comes in them any more
abbrev pub Agree : ℕ → (ℕ → Bool) → (ℕ → Bool) → Type 0
Agree upto has now = (n : ℕ) → n ≤ upto → has n ≡ now n

abbrev pub setting : System → ℕ → (ℕ → Bool) → Setting
setting sys kernel has = record { sys = sys; kernel = kernel; has_stimulus = has }

-- the point of an object that has come to one, and whose row hasn't begun
abbrev pub owed_point : ℕ → ℕ → List Piece
owed_point owed o = if owed == o then Point ∷ [] else []

-- the object whose row of looks begins by the next look, or 0
abbrev pub row_of : Upcoming → List ℕ → ℕ
row_of Inside (p ∷ outer) = p
row_of _ _ = 0

-- a kernel of one thread has one row at the base
abbrev pub HasOneRow : Upcoming → ℕ → Type 0
HasOneRow Over idle = idle ≤ 1
HasOneRow _ idle = idle ≡ 0

-- `qk` has as many as come, each in a turn of its own
abbrev pub HasRows : ℕ → Upcoming → ℕ → Type 0
HasRows kernel place idle = (kernel == qk) ≡ false → HasOneRow place idle

-- Lane 0 has these records. Its looks up to `upto` have the stimuli that `now` tells. `owed` is the object whose scheduling point has come
-- and whose row hasn't begun, or 0; each object has come to its stage, over the entries that it took.
pub record LaneZero (sys : System) (kernel budget : ℕ) (told : List ToldItem) (now : ℕ → Bool) (upto : ℕ) (k : Reading) (owed : ℕ)
    (stages : ℕ → Stage) (entries : ℕ → List Entry) : Type 0 where
  pub read : (has : ℕ → Bool) → Agree upto has now → lane_on (setting sys kernel has) (unread sys) (map untold told) ≡ Some k
  pub pieces : (has : ℕ → Bool) → Agree upto has now → (d : ObjectDef) (chart : Chart) → object_at sys d.priority ≡ Some d → chart_at sys d.chart ≡ Some chart
      → ComesTo sys (actor d chart) (first_config d) (entries d.priority)
      (told_pieces (setting sys kernel has) d.priority (unread sys) told ++ owed_point owed d.priority) (stages d.priority)
  pub took : (o : ℕ) → took_count (map untold told) o ≡ length (entries o)
  pub budgets : (o : ℕ) → length (entries o) ≤ budget
  -- no `assert`, `spent` or `spill` stands
  pub calm : list_any (λ i. is_end i.body) (map untold told) ≡ false
  -- nor a `nil`
  pub unmarked : list_any (λ i. is_turn_mark i.body) (map untold told) ≡ false
  pub rows : HasRows kernel k.place k.idle
