-- Places by what their records draw or show: a word's key, then the mark, the lane and the place in it.
use Rattle.std.specs.Prelude.{ℕ, Bool, false}
use Rattle.std.specs.Option.{option_map_or}
use Rattle.std.specs.BTreeMap.{get}
use Rattle.std.specs.BTreeSet.{contains}
use Rattle.qp_check_lanes.specs.Keys.{key_cmp}
use Rattle.qp_replay.specs.declared.marks.Marks.{Marks}

abbrev pub has_mark : Marks → ℕ × ℕ × ℕ → ℕ × ℕ × ℕ → Bool
has_mark x key e = option_map_or (λ s. contains key_cmp s e) (get key_cmp x.marks key) false
