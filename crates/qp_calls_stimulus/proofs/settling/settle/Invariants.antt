use Rattle.std.proofs.Common.{map, take}
use Rattle.qp_calls_stimulus.specs.Settling.{SeesNone}
use Rattle.qp_calls_stimulus.proofs.settling.settle.Given as goal

-- the objects so far
abbrev pub invariant-loop-d : goal.invariant-loop-d
invariant-loop-d g l = SeesNone (map (λ x. x.priority) (take l.d-index l.sys.objects)) (g.O.Ops.lane l.fn.ops) (g.O.Ops.lane l.ops)
