-- What a lane does beside its turns.
use Rattle.std.specs.Prelude.{ℕ}
use Rattle.qp_dispatch.specs.declared.objects.Turn.{Turn}
use Rattle.qp_port.specs.declared.beside.Beside.{Beside}
use Rattle.qp_port.specs.declared.beside.Beside.TheVariants as beside

-- the one where it is told of a round, the other where a source's turn is over
abbrev pub Does : {O : Type 0} → (ℕ → O → O → Type 0) → (Turn → O → O → Type 0) → Beside → O → O → Type 0
Does Called Over (beside.Round n) a b = Called n a b
Does Called Over (beside.Over t) a b = Over t a b
