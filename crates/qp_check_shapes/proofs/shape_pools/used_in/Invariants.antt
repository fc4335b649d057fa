use Rattle.std.proofs.Common.{◌≡◌, drop, map}
use Rattle.qp_check_shapes.specs.ShapeUnit.{is_used, used_on}
use Rattle.qp_check_shapes.proofs.shape_pools.used_in.Given as goal

abbrev pub invariant-loop-d : goal.invariant-loop-d
invariant-loop-d l = is_used (map (λ d. d.size) l.pools) l.p ≡ used_on l.low (map (λ d. d.size) (drop l.d-index l.pools)) l.left
