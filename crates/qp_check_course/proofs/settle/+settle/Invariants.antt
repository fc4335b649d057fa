use Rattle.std.proofs.Common.{◌+◌, ◌*◌, length}
use Rattle.qp_check_course.proofs.settle.+settle.Given as goal

abbrev pub decreases-done : goal.decreases-done
decreases-done l = 5 * length l.left.tasks.items + 1

abbrev pub decreases-resume : goal.decreases-resume
decreases-resume l = 5 * length l.left.tasks.items + 2

abbrev pub decreases-act : goal.decreases-act
decreases-act l = 5 * length l.left.tasks.items + 3

abbrev pub decreases-begin : goal.decreases-begin
decreases-begin l = 5 * length l.left.tasks.items + 4

abbrev pub decreases-settle : goal.decreases-settle
decreases-settle l = 5 * length l.left.tasks.items
