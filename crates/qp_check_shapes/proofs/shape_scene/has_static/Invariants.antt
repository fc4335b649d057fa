use Rattle.std.proofs.Common.{◌≡◌, drop}
use Rattle.std.specs.List.{list_any}
use Rattle.qp_check_shapes.proofs.shape_scene.has_static.Given as goal

abbrev pub invariant-loop-d : goal.invariant-loop-d
invariant-loop-d l = list_any (λ d. d.fixed) l.sys.signals ≡ list_any (λ d. d.fixed) (drop l.d-index l.sys.signals)
