-- The last marks of words in a lane.
use Rattle.std.specs.Prelude.{ℕ, List, [], ◌∷◌}
use Rattle.std.specs.Option.{unwrap_or}
use Rattle.std.specs.BTreeMap.{get}
use Rattle.qp_model.specs.Record.{Item}
use Rattle.qp_model.specs.History.{touch}
use Rattle.qp_check_lanes.specs.Keys.{key_cmp}
use Rattle.qp_check_words.specs.Marks.{mark_number}
use Rattle.qp_check_words.specs.declared.mark_order.LastMarks.{LastMarks}

-- the mark of a key, 0 where it has none
abbrev pub mark_at : LastMarks → ℕ × ℕ × ℕ → ℕ
mark_at x k = unwrap_or (get key_cmp x.marks k) 0

-- the mark of the last of these records, or this one
abbrev pub last_mark : ℕ → List Item → ℕ
last_mark a [] = a
last_mark a (i ∷ is) = last_mark (mark_number (touch i)) is
