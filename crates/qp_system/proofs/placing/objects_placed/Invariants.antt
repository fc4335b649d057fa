use Rattle.std.proofs.Common.{◌≡◌, ◌≤◌, take}
use Rattle.std.specs.List.{sum_by}
use Rattle.qp_system.specs.Between.{placing_fault, timer_count_of}
use Rattle.qp_system.proofs.PassLemmas.{Clear}
use Rattle.qp_system.proofs.placing.objects_placed.Given as goal

abbrev pub invariant-loop-i : goal.invariant-loop-i
invariant-loop-i l = record {
  clear : Clear (placing_fault l.charts) l.objects l.i;
  total : l.timers ≡ sum_by (timer_count_of l.charts) (take l.i l.objects);
  few : l.timers ≤ 64;
}
