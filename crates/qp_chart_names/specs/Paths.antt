-- How a path is printed.
use Rattle.std.specs.Prelude.{ℕ, List, [], codes}
use Rattle.std.specs.List.{join_by}
use Rattle.std.specs.Prelude.{slice_get}
use Rattle.std.specs.Option.{unwrap_or}
use Rattle.std.specs.Fmt.{decimal}
use Rattle.qp_chart_names.specs.Keys.{key_words}
use Rattle.qp_chart_names.specs.declared.place.Part.{Part}
use Rattle.qp_chart_names.specs.declared.place.Part.TheVariants.{Key, Pos}

-- the word of a key
unfoldable pub key_word : ℕ → List ℕ
key_word k = unwrap_or (slice_get key_words k) []

-- a key is printed by its word, and a place as a number
unfoldable pub part_text : Part → List ℕ
unfolding key_word
part_text (Key k) = key_word k
part_text (Pos n) = decimal n

-- the parts, joined by dots
abbrev pub path_text : List Part → List ℕ
path_text parts = join_by part_text (codes ".") parts
