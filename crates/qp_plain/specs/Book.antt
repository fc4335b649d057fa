-- What contracts see of a book.
use Rattle.std.specs.Prelude.{◌≡◌, ℕ, ◌+◌, ◌<◌, ◌≤◌, List, [], ◌∷◌, map, length, slice_set}
use Rattle.qp_model.specs.declared.record.Rec.{Rec}
use Rattle.qp_calls.specs.declared.answers.RoomFault.{RoomFault}
use Rattle.qp_calls.specs.declared.answers.RoomFault.TheVariants as fault
use Rattle.qp_calls.specs.LaneView.{Purse, codes_in}
use Rattle.qp_plain_sound.specs.Step.{Grown}
use Rattle.qp_calls_log.specs.declared.log.Log.{Log}
use Rattle.qp_plain.specs.declared.book.Book.{Book}
use Rattle.qp_plain.specs.Books.{log_recs, all_logs}

abbrev pub logs_of : Book → List Log
logs_of b = all_logs b.others.items b.at b.here

abbrev pub lists_of : Book → List (List Rec)
lists_of b = map log_recs (logs_of b)

abbrev pub purse_of : Log → Purse
purse_of g = record { spare = g.spare; stops = g.stops.list; answered = codes_in g.answered.list }

abbrev pub no_purse : Purse
no_purse = record { spare = 0; stops = []; answered = [] }

-- those of the lanes beside the one chosen
abbrev pub purses_of : Book → List Purse
purses_of b = slice_set (map purse_of (logs_of b)) b.at no_purse

-- the lane chosen stays chosen, and nothing changes of the codes and of the other lanes
pub record BookStays (old new : Book) : Type 0 where
  pub others : new.others.items ≡ old.others.items
  pub at : new.at ≡ old.at
  pub stops : new.here.stops.list ≡ old.here.stops.list
  pub answered : new.here.answered.list ≡ old.here.answered.list

-- the record comes to the end of the lane chosen
pub record BookGains (r : Rec) (old new : Book) : Type 0 where
  pub grown : Grown (lists_of old) old.order.items old.at r (lists_of new) new.order.items
  pub stays : BookStays old new

-- no record comes
pub record BookKeeps (old new : Book) : Type 0 where
  pub lists : lists_of new ≡ lists_of old
  pub order : new.order.items ≡ old.order.items
  pub stays : BookStays old new

-- why there is no room: the lane is full, or else memory was refused
abbrev pub IsRoomFault : Book → RoomFault → Type 0
IsRoomFault b fault.Memory = length b.here.recs.items + 8 ≤ 1000000
IsRoomFault b (fault.LaneFull len) = (len ≡ length b.here.recs.items) × (1000000 < len + 8)

-- a code is handed to `stop`, or found by `stopped`
pub record Hands (code : ℕ) (old new : Book) : Type 0 where
  pub lists : lists_of new ≡ lists_of old
  pub order : new.order.items ≡ old.order.items
  pub others : new.others.items ≡ old.others.items
  pub at : new.at ≡ old.at
  pub spare : new.here.spare ≡ old.here.spare
  pub stops : new.here.stops.list ≡ code ∷ old.here.stops.list
  pub answered : new.here.answered.list ≡ old.here.answered.list

pub record BookAnswers (code : ℕ) (old new : Book) : Type 0 where
  pub lists : lists_of new ≡ lists_of old
  pub order : new.order.items ≡ old.order.items
  pub others : new.others.items ≡ old.others.items
  pub at : new.at ≡ old.at
  pub spare : new.here.spare ≡ old.here.spare
  pub stops : new.here.stops.list ≡ old.here.stops.list
  pub answered : new.here.answered.list ≡ code ∷ old.here.answered.list
