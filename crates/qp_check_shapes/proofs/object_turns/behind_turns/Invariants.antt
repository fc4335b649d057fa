use Rattle.std.proofs.Common.{length}
use Rattle.qp_model.specs.Shapes.{Drops}
use Rattle.qp_check_shapes.specs.ShapeAction.{IsWhole}
use Rattle.qp_check_shapes.specs.ObjectRead.{IsTurnOf}
use Rattle.qp_check_shapes.proofs.GroupsLoopLemmas.{ReadsSome}
use Rattle.qp_check_shapes.proofs.object_turns.behind_turns.Given as goal

abbrev pub invariant-loop-rest : goal.invariant-loop-rest
invariant-loop-rest l = ReadsSome (IsTurnOf (IsWhole l.scene.sys.now l.scene.o) Drops l.nils) l.told l.left

abbrev pub decreases-loop-rest : goal.decreases-loop-rest
decreases-loop-rest l = length l.left
