use Rattle.std.proofs.Common.{length}
use Rattle.qp_check_shapes.specs.ShapeAction.{IsWhole}
use Rattle.qp_check_shapes.specs.GroupsRead.{IsElement}
use Rattle.qp_check_shapes.proofs.GroupsLoopLemmas.{ReadsSome}
use Rattle.qp_check_shapes.proofs.groups.behind_groups.Given as goal

abbrev pub invariant-loop-rest : goal.invariant-loop-rest
invariant-loop-rest l = ReadsSome (IsElement (IsWhole l.scene.sys.now l.scene.o l.now)) l.told l.left

abbrev pub decreases-loop-rest : goal.decreases-loop-rest
decreases-loop-rest l = length l.left
