-- The lanes of a world, and the lane of each record in the order of the calls.
use Rattle.std.specs.Prelude.{ℕ, ◌+◌, List, slice_set}
use Rattle.std.specs.List.{sum_by}
use Rattle.qp_model.specs.declared.record.Rec.{Rec}
use Rattle.qp_calls_log.specs.declared.log.Log.{Log}
use Rattle.qp_calls_log.specs.Lane.{spill_place}

-- how many records the lane has room for, the `spill` with them
abbrev pub places_of : Log → ℕ
places_of g = g.spare + spill_place g.spilled

abbrev pub log_recs : Log → List Rec
log_recs g = g.recs.items

-- all lanes: the one chosen stands apart
abbrev pub all_logs : List Log → ℕ → Log → List Log
all_logs others at here = slice_set others at here

abbrev pub all_places : List Log → ℕ
all_places logs = sum_by places_of logs
