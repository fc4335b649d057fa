-- What wakes each object, and the first pass on its parker.
use Rattle.std.specs.Prelude.{◌≡◌, ℕ, ◌==◌, List, [], ◌∷◌, map, IfSome, ⊤, if◌then◌else◌, Some, None}
use Rattle.std.specs.declared.option.Option.{Option}
use Rattle.std.specs.Arc.{arc_value}
use Rattle.atomic_table.specs.Seated.{TableId}
use Rattle.qp_wait_rings.specs.declared.cord.Cord.{Cord}
use Rattle.qp_wait.specs.declared.hanging.Waking.{Waking}
use Rattle.qp_wait.specs.declared.hanging.Rope.{Rope}
use Rattle.qp_wait.specs.declared.perch.Perch.{Perch}

-- the name of the parker that it wakes
abbrev pub wakes : Waking → TableId
wakes w = (arc_value w.waker.state).shared.table_id

-- the pass is one on the parker that this wakes, and so is the parker where it is still there
pub record IsRopeOf (w : Waking) (r : Rope) : Type 0 where
  pub pass : r.pass.table_id ≡ (arc_value w.waker.state).shared.table_id
  pub bell : IfSome r.bell (λ b. (arc_value b.unparker.state).shared.table_id ≡ (arc_value w.waker.state).shared.table_id)

abbrev pub AreRopes : List Waking → List Rope → Type 0
AreRopes [] [] = ⊤
AreRopes (w ∷ ws) (r ∷ rs) = IsRopeOf w r × AreRopes ws rs
AreRopes [] (r ∷ rs) = ⊥
AreRopes (w ∷ ws) [] = ⊥

-- for each cord the parker to which it gives its notes
abbrev pub parkers_of : List Cord → List TableId
parkers_of cs = map (λ c. c.pass.table_id) cs

-- the parker of object `me`
abbrev pub parker_of : ℕ → List Waking → Option TableId
parker_of me [] = None
parker_of me (w ∷ ws) = if w.object == me then Some (wakes w) else parker_of me ws

-- who parks here parks on the parker of its object, by the number
abbrev pub IsPerchAt : List Waking → Perch → Type 0
IsPerchAt ws p = parker_of p.object ws ≡ Some p.pass.table_id
