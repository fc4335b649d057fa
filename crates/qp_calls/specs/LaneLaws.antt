-- What holds of every lane.
use Rattle.std.specs.Prelude.{ℕ, ◌+◌, ◌≤◌, ◌==◌, nat_lt, Bool, not, ◌&&◌, ◌||◌, List, IsTrue}
use Rattle.std.specs.List.{count_by, list_all, list_any}
use Rattle.qp_model.specs.Ends.{is_spill}
use Rattle.qp_model.specs.Told.{ToldItem}
use Rattle.qp_calls.specs.LaneView.{LaneView}
use Rattle.qp_calls.specs.Notes.{stop_code}
use Rattle.qp_model.specs.Record.{Item}
use Rattle.qp_model.specs.Stops as stop

-- its records besides a `spill` and its spare are together at most 1,000,000
abbrev pub IsWithinLimit : LaneView → Type 0
IsWithinLimit v = count_by (λ t. not (is_spill t.told.body)) v.told + v.spare ≤ 1000000

-- each code below 7 that it handed in has its record
abbrev pub is_caused : List ToldItem → ℕ → Bool
is_caused told code = (code == stop.memory) || (nat_lt 0 code && list_any (λ t. stop_code t.told.body == code) told)

abbrev pub HasCauses : LaneView → Type 0
HasCauses v = IsTrue (list_all (λ code. is_caused v.told code) v.stops)

-- the code is 7, or that of a record
abbrev pub is_caused_in : List Item → ℕ → Bool
is_caused_in items code = (code == stop.memory) || (nat_lt 0 code && list_any (λ i. stop_code i.body == code) items)
