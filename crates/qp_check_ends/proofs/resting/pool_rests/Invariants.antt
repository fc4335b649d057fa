use Rattle.std.proofs.Common.{◌≡◌, true}
use Rattle.qp_model.specs.End.{block_rests}
use Rattle.qp_model.specs.History.{all_items}
use Rattle.qp_model.specs.Lists.{all_below}
use Rattle.qp_check_ends.proofs.resting.pool_rests.Given as goal

abbrev pub invariant-loop-b : goal.invariant-loop-b
invariant-loop-b l = all_below l.b (block_rests l.sys (all_items l.records) l.deferred l.p) ≡ true
