-- Worlds begun, and lanes chosen.
use Rattle.std.specs.Prelude.{◌≡◌, ℕ, Bool, true, ◌&&◌, List, [], length}
use Rattle.std.specs.List.{list_all}
use Rattle.qp_model.specs.declared.systems.System.{System}
use Rattle.qp_model.specs.OneOrder.{Placed}
use Rattle.qp_calls.specs.LaneView.{IsNew, codes_in}
use Rattle.qp_plain_sound.specs.Log.{log_of}
use Rattle.qp_calls_log.specs.declared.log.Log.{Log}
use Rattle.qp_plain.specs.declared.world.PlainWorld.{PlainWorld}
use Rattle.qp_plain.specs.Book.{lists_of, logs_of}
use Rattle.qp_plain.specs.World.{no_codes}
use Rattle.qp_plain.specs.WorldView.{world_view}

-- the one list of records with their lanes, in the order of the calls
abbrev pub log_in : PlainWorld → List Placed
log_in w = log_of (lists_of w.book) w.book.order.items

abbrev pub lanes_in : PlainWorld → ℕ
lanes_in w = length w.book.others.items

abbrev pub chosen : PlainWorld → ℕ
chosen w = w.book.at

-- the lane neither handed in a code nor found one
abbrev pub is_silent : Log → Bool
is_silent g = no_codes g.stops.list && no_codes (codes_in g.answered.list)

-- A world for the system with so many lanes, in which nothing has happened. The stop word is 0, and no lane has handed in a code or found
-- one.
pub record IsNewWorld (sys : System) (n : ℕ) (w : PlainWorld) : Type 0 where
  pub sys_is : w.sys.now ≡ sys
  pub view : IsNew (world_view w)
  pub log : log_in w ≡ []
  pub lanes : lanes_in w ≡ n
  pub first : chosen w ≡ 0
  pub stop_is : w.stop ≡ 0
  pub silent : list_all is_silent (logs_of w.book) ≡ true

-- another lane is chosen, and nothing else changes: neither of any lane, nor the stop word
pub record GoesTo (lane : ℕ) (old new : PlainWorld) : Type 0 where
  pub sys_is : new.sys.now ≡ old.sys.now
  pub logs : logs_of new.book ≡ logs_of old.book
  pub order : new.book.order.items ≡ old.book.order.items
  pub log : log_in new ≡ log_in old
  pub lanes : lanes_in new ≡ lanes_in old
  pub by_is : new.by ≡ old.by
  pub stop_is : new.stop ≡ old.stop
  pub at : chosen new ≡ lane
