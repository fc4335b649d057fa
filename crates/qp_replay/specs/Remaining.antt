-- How far the records of each lane stand in the list so far, and the marks of those that don't yet.
use Rattle.std.specs.Prelude.{◌≡◌, ℕ, ◌≤◌, ◌<◌, ◌^◌, ◌==◌, nat_le, Bool, false, ◌&&◌, List, get_or, length, slice_get, IsTrue, Some}
use Rattle.std.specs.declared.option.Option.{Option}
use Rattle.std.specs.Option.{option_and_then}
use Rattle.std.specs.List.{AllByRecursion}
use Rattle.qp_model.specs.declared.record.Rec.{Rec}
use Rattle.qp_model.specs.declared.words.Word.{Word}
use Rattle.qp_model.specs.Record.{Item, item_of}
use Rattle.qp_model.specs.History.{Touch, Draws, Shows, same_word}
use Rattle.qp_model.specs.Places.{RecordPlace, item_at, touch_at, must_precede}
use Rattle.qp_check_lanes.specs.Keys.{key_of}
use Rattle.qp_replay.specs.Orders.{is_record}
use Rattle.qp_replay.specs.Marks.{has_mark}
use Rattle.qp_replay.specs.declared.marks.Marks.{Marks}

-- the lanes, and how many records of each stand in the list
pub record LaneFronts : Type 0 where
  pub lanes : List (List Rec)
  pub fronts : List ℕ

abbrev pub record_place : ℕ → ℕ → RecordPlace
record_place n k = record { lane = n; at = k }

-- the record at place k of a lane, if there is one
unfoldable pub record_in : List Rec → ℕ → Option Item
unfolding item_of
record_in lane k = option_and_then (λ r. Some (item_of r)) (slice_get lane k)

abbrev pub front : LaneFronts → ℕ → ℕ
front st n = get_or st.fronts n 0

-- the lane's next record
abbrev pub head : LaneFronts → ℕ → RecordPlace
head st n = record_place n (front st n)

abbrev pub HasNext : LaneFronts → ℕ → Type 0
HasNext st n = IsTrue (is_record st.lanes (head st n))

-- a record that doesn't stand in the list yet
pub record IsOutstanding (st : LaneFronts) (x : RecordPlace) : Type 0 where
  pub stands : IsTrue (is_record st.lanes x)
  pub behind : front st x.lane ≤ x.at

-- a record that must stand before the lane's next, and doesn't stand in the list yet
pub record Blocks (st : LaneFronts) (n : ℕ) (x : RecordPlace) : Type 0 where
  pub waits : IsOutstanding st x
  pub first : IsTrue (must_precede st.lanes x (head st n))

-- the lane's next record may go into the list
pub record MayGo (st : LaneFronts) (n : ℕ) : Type 0 where
  pub next : HasNext st n
  pub free : (x : RecordPlace) → Blocks st n x → ⊥

-- it draws a number of w with this mark
abbrev pub draws_mark : Word → ℕ → Touch → Bool
draws_mark w m (Draws v n) = same_word v w && (n == m)
draws_mark w m _ = false

-- it shows w with this mark
abbrev pub shows_mark : Word → ℕ → Touch → Bool
shows_mark w m (Shows v n) = same_word v w && (n == m)
shows_mark w m _ = false

-- there are few enough lanes and records
pub record IsSmall (lanes : List (List Rec)) : Type 0 where
  pub count : length lanes < 2 ^ 32
  pub lengths : AllByRecursion (λ l. length l < 2 ^ 32) lanes

-- the marks are those of the records that don't stand in the list yet
pub record IsRemaining (lanes : List (List Rec)) (fronts : List ℕ) (draws shows : Marks) : Type 0 where
  pub small : IsSmall lanes
  pub each : length fronts ≡ length lanes
  pub draws_are : (w : Word) (m n k : ℕ) → has_mark draws (key_of w) (m, n, k) ≡ (nat_le (get_or fronts n 0) k && draws_mark w m (touch_at (item_at lanes (record_place n k))))
  pub shows_are : (w : Word) (m n k : ℕ) → has_mark shows (key_of w) (m, n, k) ≡ (nat_le (get_or fronts n 0) k && shows_mark w m (touch_at (item_at lanes (record_place n k))))
