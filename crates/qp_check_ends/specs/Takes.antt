-- Takes counted by object.
use Rattle.std.specs.Prelude.{◌≡◌, ℕ, ◌-◌, ◌^◌, ◌<◌, min, List, slice_index}
use Rattle.qp_model.specs.declared.record.Rec.{Rec}
use Rattle.qp_model.specs.History.{all_items}
use Rattle.qp_model.specs.End.{took_count}
use Rattle.qp_check_ends.specs.declared.takes.Takes.{Takes}

-- the counts are those of these lanes; each stands still at its type's end
abbrev pub AreTakesOf : List (List Rec) → Takes → Type 0
AreTakesOf lanes t = (o : ℕ) → o < 256 → slice_index t.counts o ≡ min (took_count (all_items lanes) o) (2 ^ 64 - 1)
