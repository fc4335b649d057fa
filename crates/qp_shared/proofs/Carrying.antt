-- A journal that was sealed carries it.
use Rattle.std.proofs.Common.{ℕ, ◌<◌, List, length, arith, sym, subst}
use Rattle.atomic_table.specs.Seated.{TableId}
use Rattle.qp_model.specs.declared.journals.Journal.{Journal}
use Rattle.qp_calls.specs.LaneView.{LaneView}
use Rattle.qp_port_law.specs.Sealed.{SealsLanes}
use Rattle.qp_shared_lane.specs.Lane.{world_of}
use Rattle.qp_shared.specs.declared.shared.Shared.{Shared}
use Rattle.qp_shared.specs.Ending.{AreAll}
use Rattle.qp_shared.specs.Starting.{world_name}
use Rattle.qp_shared.specs.WasSealed.{AreOfOneTable, WasSealed, WasSealedFor}

-- a table has a name
named : (table side : TableId) (n : ℕ) → 0 < length (world_of table side n)
unfolding world_of
named table side n = omega arith

pub was-sealed-for : (s : Shared) (kernel budget : ℕ) (vs : List LaneView) (j : Journal) → AreAll s vs → SealsLanes s.sys.now kernel budget vs j → WasSealedFor s.sys.now j
was-sealed-for s kernel budget vs j all seals =
    let one : AreOfOneTable vs = record { world = world_name s (length vs); named = named s.words.shared.table_id s.side.shared.table_id (length vs); are = all.worlds } in
    ∣ (vs, one, subst (λ b. SealsLanes s.sys.now j.kernel b vs j) (sym seals.budget_is) (subst (λ k. SealsLanes s.sys.now k budget vs j) (sym seals.kernel_is) seals)) ∣₁

pub was-sealed : (s : Shared) (kernel budget : ℕ) (vs : List LaneView) (j : Journal) → AreAll s vs → SealsLanes s.sys.now kernel budget vs j → WasSealed j
was-sealed s kernel budget vs j all seals = ∣ (s.sys.now, was-sealed-for s kernel budget vs j all seals) ∣₁
