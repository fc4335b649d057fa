-- What contracts see of a seat by its view: the records that it answered, and its mark of each word.
use Rattle.std.specs.Prelude.{◌≡◌, ℕ, ◌+◌, ◌-◌, ◌≤◌, eqb, Bool, false, List, [], ◌∷◌, cond, length}
use Rattle.std.specs.Int.{bit_at}
use Rattle.std.specs.List.{list_any}
use Rattle.qp_model.specs.declared.record.Rec.{Rec}
use Rattle.qp_model.specs.declared.systems.System.{System}
use Rattle.qp_model.specs.declared.words.Word.{Word}
use Rattle.qp_model.specs.declared.words.Word.TheVariants as word
use Rattle.qp_model.specs.History.{same_word}
use Rattle.qp_model.specs.WordLaw.{is_signal, is_timer}
use Rattle.qp_table.specs.Rule.{mark_in, is_serve}
use Rattle.qp_table.specs.After.{logged}
use Rattle.qp_table.specs.declared.view.SeatLog.{SeatLog}
use Rattle.qp_side.specs.Rule.{signal_at, timer_at}
use Rattle.qp_side.specs.Told.{last_seen}
use Rattle.qp_side.specs.declared.view.SideView.{SideView}

-- the records of the first log
abbrev pub first_recs : List SeatLog → List Rec
first_recs [] = []
first_recs (g ∷ gs) = g.recs

-- the records that the seat answered
abbrev pub side_recs : SideView → List Rec
side_recs v = first_recs v.view.logs

-- the most operations of a signal's or a time event's word that the seat has seen; 0 of words that the system hasn't, and of all others
abbrev pub side_mark : System → SideView → Word → ℕ
side_mark sys v (word.Signal s) = cond (is_signal sys s) (mark_in (signal_at s) (last_seen (signal_at s) v)) 0
side_mark sys v (word.Timer t) = cond (is_timer sys t) (mark_in (timer_at t) (last_seen (timer_at t) v)) 0
side_mark sys v _ = 0

-- the mark of w becomes k, and no other mark changes
pub record SideLooks (sys : System) (w : Word) (k : ℕ) (v u : SideView) : Type 0 where
  pub here : side_mark sys u w ≡ k
  pub rise : side_mark sys v w ≤ k
  pub others : (y : Word) → same_word w y ≡ false → side_mark sys u y ≡ side_mark sys v y

-- The seat answered one record more, r, of the word w, whose mark became k. Its numbers, its objects and its codes are those before.
pub record SideAdds (sys : System) (w : Word) (k : ℕ) (r : Rec) (v u : SideView) : Type 0 where
  pub logs : u.view.logs ≡ logged r v.view.logs
  pub rest : u ≡ record v { view = record v.view { logs = u.view.logs; seen = u.view.seen } }
  pub marks : SideLooks sys w k v u

-- a seat serves an object
abbrev pub serves_object : SideView → ℕ → Bool
serves_object v o = list_any (is_serve o) v.view.serves

-- an object is in a set, which has bit o - 1 for object o
abbrev pub is_in : ℕ → ℕ → Bool
is_in set o = eqb (bit_at set (o - 1)) 1

-- how many lanes' numbers a seat has: its own, and those that it may give
abbrev pub rights : SideView → ℕ
rights v = length v.view.logs + length v.view.lane_numbers

-- the seat has the same objects, numbers and codes
pub record StaysAs (v u : SideView) : Type 0 where
  pub serves : u.view.serves ≡ v.view.serves
  pub lane_numbers : u.view.lane_numbers ≡ v.view.lane_numbers
  pub stops : u.stops ≡ v.stops
  pub answered : u.answered ≡ v.answered
