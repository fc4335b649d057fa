-- Where a source's cursor stands before its first turn, and how its lane ends where it rests.
use Rattle.std.specs.Prelude.{◌≡◌, ℕ, ◌<◌, ◌≤◌, true, false, length}
use Rattle.qp_model.specs.declared.systems.System.{System}
use Rattle.qp_model.specs.declared.words.Word.TheVariants as word
use Rattle.qp_model.specs.Kernels.{may_try}
use Rattle.qp_model.specs.Ends.{may_cut}
use Rattle.qp_stim.specs.Rules.{StimuliFit}
use Rattle.qp_calls.specs.LaneView.{IsNew, LaneView}
use Rattle.qp_port_law.specs.SourcesLeft.{SourceLeaves}
use Rattle.qp_port_lanes.specs.declared.cursor.Cursor.{Cursor}
use Rattle.qp_port_lanes.specs.CursorAt.{IsCursorAt, left_in, mine}

-- a source of stimuli that fit the system, of which nothing has begun
pub record HasBegunNothing (sys : System) (x : Cursor) : Type 0 where
  pub fits : StimuliFit sys x.stim.now
  pub some : 0 < x.source
  pub there : x.source ≤ length x.stim.now
  pub begun : x.begun ≡ 0
  pub settling : x.settling ≡ false

-- in a new lane it stands where its cursor is
abbrev pub NewCursorsStand : Type 0
NewCursorsStand = (sys : System) (x : Cursor) (v : LaneView) → HasBegunNothing sys x → v.sys ≡ sys → IsNew v → IsCursorAt sys x v

-- nothing changed but what the lane has seen and how often it asked, and of queues it has seen no less
pub record LaneSeesMore (v w : LaneView) : Type 0 where
  pub sys : w.sys ≡ v.sys
  pub told : w.told ≡ v.told
  pub by : w.by ≡ v.by
  pub hands : w.hands ≡ v.hands
  pub rise : (p : ℕ) → v.mark (word.Queue p) ≤ w.mark (word.Queue p)
  pub shown : (p : ℕ) → w.mark (word.Queue p) ≡ v.mark (word.Queue p) → w.shown (word.Queue p) ≡ v.shown (word.Queue p)
  pub asked : v.asked ≤ w.asked

-- so the cursor stands there as well
abbrev pub CursorsStay : Type 0
CursorsStay = (sys : System) (x : Cursor) (v w : LaneView) → IsCursorAt sys x v → LaneSeesMore v w → IsCursorAt sys x w

-- the run stops early in another lane, and this one ends where the cursor stands
abbrev pub CursorsMayStop : Type 0
CursorsMayStop =
    (sys : System) (x : Cursor) (v : LaneView) (kernel end : ℕ) → IsCursorAt sys x v → may_try kernel ≡ true → may_cut end ≡ true
    → SourceLeaves sys kernel end (mine x) v.told

-- no stimulus is left, and the lane is whole, however the run ends
abbrev pub DoneCursorsEnd : Type 0
DoneCursorsEnd =
    (sys : System) (x : Cursor) (v : LaneView) (kernel end : ℕ) → IsCursorAt sys x v → may_try kernel ≡ true → left_in x ≡ false
    → SourceLeaves sys kernel end (mine x) v.told
