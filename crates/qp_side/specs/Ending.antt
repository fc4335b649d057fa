-- What the end of all seats of a side table knows.
use Rattle.std.specs.Prelude.{◌≡◌, ℕ, ◌<◌, ◌≤◌, eqb, List, [], ◌∷◌, map, length}
use Rattle.qp_model.specs.declared.systems.System.{System}
use Rattle.qp_model.specs.declared.words.Word.{Word}
use Rattle.qp_model.specs.History.{all_items, hist}
use Rattle.qp_table.specs.Counting.{Each, sum_over, many}
use Rattle.qp_table.specs.TwoTables.{SideWords}
use Rattle.qp_side.specs.Told.{both_of}
use Rattle.qp_side.specs.declared.view.SideView.{SideView}
use Rattle.qp_side.specs.Seat.{side_mark, side_recs}

-- Of all seats' views, in any order: the records keep the law of the words of signals and time events; no mark of a seat is above the word's
-- history; and the codes that were found are one code, which some seat handed in.
pub record SideEnds (sys : System) (views : List SideView) : Type 0 where
  pub law : SideWords sys (map side_recs views)
  pub marks : Each (λ (v : SideView). (w : Word) → side_mark sys v w ≤ length (hist w (all_items (map side_recs views)))) views
  pub code : ℕ
  pub codes : Each (λ (v : SideView). Each (λ c. (c ≡ code) × (0 < sum_over (λ (x : SideView). many (eqb c) x.stops) views)) v.answered) views

-- one seat takes over these, the last first
abbrev pub joined_last : SideView → List SideView → SideView
joined_last v [] = v
joined_last v (w ∷ ws) = both_of (joined_last v ws) w
