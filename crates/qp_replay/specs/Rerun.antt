-- A world of one thread that makes a journal's records once more.
use Rattle.std.specs.Prelude.{◌≡◌, ◌<◌, false, List, length, Some}
use Rattle.qp_model.specs.declared.record.Rec.{Rec}
use Rattle.qp_model.specs.declared.systems.System.{System}
use Rattle.qp_model.specs.Record.{item_of}
use Rattle.qp_model.specs.Ends.{is_spill}
use Rattle.qp_model.specs.Places.{RecordPlace}
use Rattle.qp_model.specs.Sound.{IsSound}
use Rattle.qp_plain.specs.declared.world.PlainWorld.{PlainWorld}
use Rattle.qp_plain.specs.Book.{lists_of}
use Rattle.qp_plain.specs.NewWorld.{lanes_in, log_in}
use Rattle.qp_plain_sound.specs.Log.{lane_recs}
use Rattle.qp_replay.specs.RerunLaws.{ComesNext, World, placed_at, record_at}

-- the lanes of a running world, and the lane of each record in the order of the calls
abbrev pub world_in : PlainWorld → World
world_in w = record { lanes = lists_of w.book; order = w.book.order.items }

-- The record at this place may come next at the end of its lane, which has at most 1,000,000 records besides a `spill`.
pub record MayGoNext (lanes : List (List Rec)) (x : RecordPlace) (w : PlainWorld) : Type 0 where
  pub sound : IsSound w.sys.now
  pub lane : x.lane < lanes_in w
  pub rec : Rec
  pub there : record_at lanes x ≡ Some rec
  pub next : ComesNext w.sys.now (world_in w) x.lane rec
  pub few : is_spill (item_of rec).body ≡ false → length (lane_recs (lists_of w.book) x.lane) < 1000000

-- The world's one list of records, each with its lane, is the journal's along the order, and its lanes are the journal's.
pub record IsRerun (sys : System) (lanes : List (List Rec)) (order : List RecordPlace) (w : PlainWorld) : Type 0 where
  pub sys_is : w.sys.now ≡ sys
  pub log : log_in w ≡ placed_at lanes order
  pub lanes_are : lists_of w.book ≡ lanes
