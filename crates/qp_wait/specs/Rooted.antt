-- The bells of a system, and their root.
use Rattle.std.specs.Prelude.{◌≡◌, true, List, map, IfSome}
use Rattle.qp_model.specs.declared.systems.System.{System}
use Rattle.qp_model.specs.Sources.{priorities}
use Rattle.qp_wait_rings.specs.declared.cord.Cord.{Cord}
use Rattle.qp_wait_rings.specs.Cords.{are_unpulled}
use Rattle.qp_wait.specs.declared.bells.Bells.{Bells}
use Rattle.qp_wait.specs.declared.bells.BellRoot.{BellRoot}
use Rattle.qp_wait.specs.declared.lane.BellLane.{BellLane}
use Rattle.qp_wait.specs.Ropes.{AreRopes, IsPerchAt, parkers_of, wakes}

-- they wake the objects of the system
abbrev pub AreBellsOf : System → Bells → Type 0
AreBellsOf sys b = map (λ w. w.object) b.wakers.items ≡ priorities sys

-- the root of these bells
pub record IsBellRootOf (b : Bells) (r : BellRoot) : Type 0 where
  pub seat : r.seat.table_id ≡ b.count.shared.table_id
  pub ropes : AreRopes b.wakers.items r.ropes.items

-- cords to these bells, by which no note was given
pub record AreLooseFor (b : Bells) (cords : List Cord) : Type 0 where
  pub objects : map (λ c. c.object) cords ≡ map (λ w. w.object) b.wakers.items
  pub parkers : parkers_of cords ≡ map wakes b.wakers.items
  pub none : are_unpulled cords ≡ true

-- What a lane has of these bells: each of its notes for an object goes to the parker of that object, and where it parks it parks on that of its own.
pub record HangsOn (b : Bells) (l : BellLane) : Type 0 where
  pub objects : map (λ c. c.object) l.ringing.cords.items ≡ map (λ w. w.object) b.wakers.items
  pub posts : parkers_of l.ringing.cords.items ≡ map wakes b.wakers.items
  pub same : map (λ c. c.object) l.farewells.cords.items ≡ map (λ w. w.object) b.wakers.items
  pub farewells : parkers_of l.farewells.cords.items ≡ map wakes b.wakers.items
  pub perch : IfSome l.perch (IsPerchAt b.wakers.items)
