use Rattle.std.proofs.Common.{◌≡◌, ◌==◌, drop}
use Rattle.std.specs.List.{find}
use Rattle.std.specs.Option.{option_map_or}
use Rattle.qp_model.specs.KernelLane.{threshold_of}
use Rattle.qp_check_kernel.proofs.lane_state.threshold.Given as goal

abbrev pub invariant-loop-d : goal.invariant-loop-d
invariant-loop-d l = option_map_or (λ d. d.threshold) (find (λ d. d.priority == l.o) (drop l.d-index l.sys.objects)) 0 ≡ threshold_of l.sys l.o
