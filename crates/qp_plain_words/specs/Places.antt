-- The ones of a number of 32 bits.
use Rattle.std.specs.Prelude.{ℕ, ◌==◌, List}
use Rattle.std.specs.List.{filter}
use Rattle.std.specs.Int.{bit_at}
use Rattle.qp_model.specs.Lists.{count_up}

-- their places, ascending
unfoldable pub bit_places : ℕ → List ℕ
bit_places bits = filter (λ b. bit_at bits b == 1) (count_up 0 32)
