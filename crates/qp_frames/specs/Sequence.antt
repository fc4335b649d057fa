-- Sequence bytes.
use Rattle.std.specs.Prelude.{ℕ, ◌+◌, ◌%◌, List, [], ◌∷◌}
use Rattle.qp_model.specs.Output.{JournalItem}

-- the sequence byte behind the frames of these items, the first of which has this one
abbrev pub sequence_behind : ℕ → List JournalItem → ℕ
sequence_behind sequence [] = sequence
sequence_behind sequence (i ∷ items) = sequence_behind ((sequence + 1) % 256) items
