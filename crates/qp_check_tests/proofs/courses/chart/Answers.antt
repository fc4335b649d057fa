use Rattle.std.proofs.Common.{length, ap}
use Rattle.qp_check_tests.proofs.courses.chart.Goals as goal

pub check-requires : goal.check-requires
check-requires c = c.in-Ok.ensures _ (ap length c.new.ensures.items) (ap length c.new-2.ensures.items)
