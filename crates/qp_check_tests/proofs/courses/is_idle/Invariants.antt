use Rattle.std.proofs.Common.{◌≡◌, true, take}
use Rattle.std.specs.List.{list_all}
use Rattle.qp_model.specs.declared.systems.System.{System}
use Rattle.qp_model.specs.Able.{state_able}
use Rattle.qp_check_tests.proofs.courses.is_idle.Given as goal

abbrev pub invariant-loop-s : goal.invariant-loop-s
invariant-loop-s l = (sys : System) → list_all (state_able sys) (take l.s-index l.chart.state) ≡ true
