use Rattle.std.proofs.Common.{◌≡◌, ◌==◌, drop}
use Rattle.std.specs.List.{list_all}
use Rattle.qp_check_lanes.specs.WordTotals.{count_in}
use Rattle.qp_check_kernel.proofs.source_turn.Progress.all_empty.Given as goal

abbrev pub invariant-loop-d : goal.invariant-loop-d
invariant-loop-d l =
    list_all (λ d. count_in l.self.entered d.priority == count_in l.self.left d.priority) (drop l.d-index l.sys.objects)
    ≡ list_all (λ d. count_in l.self.entered d.priority == count_in l.self.left d.priority) l.sys.objects
