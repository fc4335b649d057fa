use Rattle.std.proofs.Common.{take}
use Rattle.qp_core.specs.Runs.{LeadsTo}
use Rattle.qp_core.proofs.runs.run.Given as goal

abbrev pub invariant-loop-place : goal.invariant-loop-place
invariant-loop-place l = LeadsTo l.sys l.lanes (take l.place l.schedule) l.s
