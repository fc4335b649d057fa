-- Records that are given, made once more.
use Rattle.std.specs.Prelude.{◌≡◌, ℕ, ◌<◌, Bool, true, false, List, length, ⊤}
use Rattle.qp_model.specs.declared.record.Rec.{Rec}
use Rattle.qp_model.specs.declared.bodies.Entry.{Entry}
use Rattle.qp_model.specs.declared.bodies.Body.{Body}
use Rattle.qp_model.specs.declared.bodies.Body.TheVariants.{Took, Nil, New, Inc, Dec, Back, Post, Lifo, Sub, Unsub, Arm, Disarm, Rearm, Tick, Fire, Spill}
use Rattle.qp_model.specs.Record.{item_of}
use Rattle.qp_model.specs.Ends.{is_spill, spills_in}
use Rattle.qp_model.specs.History.{lane_items}
use Rattle.qp_plain_sound.specs.Log.{lane_recs}
use Rattle.qp_plain_sound.specs.May.{May}
use Rattle.qp_plain_sound.specs.Sound.{hands_in}
use Rattle.qp_plain.specs.declared.world.PlainWorld.{PlainWorld}
use Rattle.qp_plain.specs.Book.{BookGains, BookKeeps, lists_of}

-- the word of a time event has room for these ticks, and for the interval
abbrev pub FitsTimer : Body → Type 0
FitsTimer (Arm t n ticks interval) = (ticks < 65536) × (interval < 65536)
FitsTimer (Rearm t n former ticks) = ticks < 65536
FitsTimer b = ⊤

-- the records of the lane chosen
abbrev pub lane_in : PlainWorld → List Rec
lane_in w = lane_recs (lists_of w.book) w.book.at

-- what object o tells may come next
abbrev pub MayAt : PlainWorld → ℕ → Body → Type 0
MayAt w o b = May w.sys.now (lists_of w.book) (hands_in w.sys.now (lists_of w.book) w.book.order.items) o b

-- The record may come next at the end of the lane chosen: its word holds what it says, its tokens stand in the hands, its numbers are
-- those of a call, and the lane hasn't ended with a `spill`.
pub record MayRepeat (r : Rec) (w : PlainWorld) : Type 0 where
  pub may : MayAt w (item_of r).of (item_of r).body
  pub fits : FitsTimer (item_of r).body
  pub goes_on : spills_in (lane_items (lane_in w)) ≡ false

-- a lane has at most 1,000,000 records besides a `spill`
abbrev pub LaneIsWithin : Rec → PlainWorld → Type 0
LaneIsWithin r w = is_spill (item_of r).body ≡ false → length (lane_in w) < 1000000

-- the lane chosen has a place for the record; that of a `spill` is always kept
abbrev pub HasSpare : Rec → PlainWorld → Type 0
HasSpare r w = is_spill (item_of r).body ≡ false → 0 < w.book.here.spare

-- the record comes to the end of the lane chosen, and nothing else changes of any lane
pub record Repeats (r : Rec) (old new : PlainWorld) : Type 0 where
  pub sys_is : new.sys.now ≡ old.sys.now
  pub by_is : new.by ≡ old.by
  pub stop_is : new.stop ≡ old.stop
  pub gains : BookGains r old.book new.book

-- no record comes
pub record Remains (old new : PlainWorld) : Type 0 where
  pub sys_is : new.sys.now ≡ old.sys.now
  pub by_is : new.by ≡ old.by
  pub stop_is : new.stop ≡ old.stop
  pub keeps : BookKeeps old.book new.book

-- the record changes no word, and is neither a `nil` nor a `spill`
abbrev pub is_still : Body → Bool
is_still (New p n b from sig pars) = false
is_still (Back p n b to) = false
is_still (Inc p b r) = false
is_still (Dec p b d k) = false
is_still (Post a f l m e) = false
is_still (Lifo f l m e) = false
is_still (Took f l m e) = false
is_still (Sub sig n) = false
is_still (Unsub sig n) = false
is_still (Arm t n ticks interval) = false
is_still (Disarm t n former) = false
is_still (Rearm t n former ticks) = false
is_still (Tick t n counter) = false
is_still (Fire t n reload) = false
is_still (Nil f l m) = false
is_still (Spill n) = false
is_still _ = true

-- the entry of a static signal, or a reference to a block, in the numbers of its type
pub record FitsToken (e : Entry) : Type 0 where
  pub pool : e.pool < 256
  pub static : e.pool ≡ 0 → (e.block < 65536) × (e.name ≡ 0)
  pub block : 0 < e.pool → e.block < 256

-- the time event t is left with this counter, and with its interval as it was
abbrev pub SetsTo : ℕ → ℕ → Body → Type 0
SetsTo t ticks (Disarm u n former) = (u ≡ t) × (ticks ≡ 0)
SetsTo t ticks (Rearm u n former stated) = (u ≡ t) × (ticks ≡ stated)
SetsTo t ticks b = ⊥

-- a tick of the time event t, by which it fires or not
abbrev pub CountsDown : ℕ → Body → Type 0
CountsDown t (Tick u n counter) = u ≡ t
CountsDown t (Fire u n reload) = u ≡ t
CountsDown t b = ⊥
