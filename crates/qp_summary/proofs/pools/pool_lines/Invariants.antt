use Rattle.std.proofs.Common.{◌≡◌, take}
use Rattle.qp_model.specs.History.{all_items}
use Rattle.qp_model.specs.OutputSummary.{pool_lines}
use Rattle.qp_summary.proofs.pools.pool_lines.Given as goal

abbrev pub invariant-loop-i : goal.invariant-loop-i
invariant-loop-i l = l.lines ≡ pool_lines (all_items l.j.lanes) 1 (take l.i l.sys.pools)
