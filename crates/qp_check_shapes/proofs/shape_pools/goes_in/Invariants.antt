use Rattle.std.proofs.Common.{◌≡◌, drop, map}
use Rattle.qp_check_shapes.specs.ShapeUnit.{goes_to}
use Rattle.qp_check_shapes.proofs.shape_pools.goes_in.Given as goal

abbrev pub invariant-loop-d : goal.invariant-loop-d
invariant-loop-d l = goes_to (map (λ d. d.size) l.pools) l.n l.p ≡ goes_to (map (λ d. d.size) (drop l.d-index l.pools)) l.n l.left
