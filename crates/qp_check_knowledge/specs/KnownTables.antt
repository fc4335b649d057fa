-- What a word held before each of its operations and after the last, in tables.
use Rattle.std.specs.Prelude.{◌≡◌, ℕ, ◌-◌, min, List, [], ◌∷◌, length, get_or}
use Rattle.qp_model.specs.Record.{Item}
use Rattle.qp_model.specs.Machine.{Machine}
use Rattle.qp_model.specs.FreeBlocks.{free_blocks}
use Rattle.qp_model.specs.References.{Refs, references}
use Rattle.qp_model.specs.Subscribers.{subscribers}
use Rattle.qp_check_lanes.specs.Standing.{times_in}
use Rattle.qp_check_lanes.specs.WordTotals.{count_in}
use Rattle.qp_check_lanes.specs.declared.word_totals.CountsByNumber.{CountsByNumber}

-- a value of what the word holds, before each operation and after the last
unfoldable pub values_from : {S A : Type 0} → Machine S → (S → A) → S → List Item → List A
values_from m f s [] = f s ∷ []
values_from m f s (i ∷ is) = f s ∷ values_from m f (m.next s i) is

unfoldable pub free_counts : ℕ → List Item → List ℕ
unfolding values_from
free_counts blocks history = values_from (free_blocks blocks) (λ s. length s.free) (free_blocks blocks).first history

unfoldable pub left_counts : List Item → List ℕ
unfolding values_from
left_counts history = values_from references (λ s. length s.names) references.first history

unfoldable pub member_lists : List Item → List (List ℕ)
unfolding values_from
member_lists history = values_from subscribers (λ s. s.members) subscribers.first history

-- the value at a place, or the last one
abbrev pub value_at : {A : Type 0} → A → List A → ℕ → A
value_at d xs n = get_or xs (min n (length xs - 1)) d

-- the references that stand, counted
pub record AreReferencesCounted (s : Refs) (counts : CountsByNumber) (total : ℕ) : Type 0 where
  pub each : (k : ℕ) → count_in counts k ≡ times_in k s.names
  pub all : total ≡ length s.names
