-- What steps on blocks tell beyond those of the words.
use Rattle.std.specs.Prelude.{ℕ, ◌+◌, ◌%◌, ◌^◌, ◌<◌}
use Rattle.qp_model.specs.declared.systems.System.{System}
use Rattle.qp_table.specs.declared.view.View.{View}
use Rattle.qp_table.specs.Told.{BackTold, MoreTold}

-- a used block comes back, whose bit was not in the map
abbrev pub ReturnTold : System → ℕ → ℕ → ℕ → ℕ → View → ℕ → View → Type 0
ReturnTold sys o p b m v n u = BackTold sys o p b m (4294967296 + 2 ^ b) v n u × (n % 4294967296 + 2 ^ b < 4294967296)

-- another reference, where the word has room for one more
abbrev pub AnotherTold : System → ℕ → ℕ → ℕ → View → ℕ → View → Type 0
AnotherTold sys o p b v n u = MoreTold sys o p b v n u × (n % 4294967296 < 4294967295)
