use Rattle.std.proofs.Common.{◌∙◌, sym}
use Rattle.qp_check.proofs.RunPartLemmas.{kernel-read, kernel-unread}
use Rattle.qp_check.proofs.run_parts.kernel_holds.Goals as goal

pub returns-then-not-branch : goal.returns-then-not-branch
returns-then-not-branch c = kernel-unread c.args.sys.now c.args.j.now (sym c.if-not-branch.true ∙ c.in_ok-is_kernel_lane.ensures)

pub returns : goal.returns
returns c = kernel-read c.args.sys.now c.args.j.now (sym c.if-not-branch.false ∙ c.in_ok-is_kernel_lane.ensures) c.in_ok-stand.stand c.in_ok-stand.ensures
