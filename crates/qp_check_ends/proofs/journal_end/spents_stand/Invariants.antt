use Rattle.std.proofs.Common.{◌≡◌, drop}
use Rattle.qp_model.specs.End.{spents_hold}
use Rattle.qp_check_ends.proofs.journal_end.spents_stand.Given as goal

abbrev pub invariant-loop-n : goal.invariant-loop-n
invariant-loop-n l = spents_hold l.sys l.j l.n (drop l.n l.lane-items) ≡ spents_hold l.sys l.j 0 l.lane-items
