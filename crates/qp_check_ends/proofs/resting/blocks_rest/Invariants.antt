use Rattle.std.proofs.Common.{◌≡◌, suc, true}
use Rattle.qp_model.specs.End.{block_rests}
use Rattle.qp_model.specs.History.{all_items}
use Rattle.qp_model.specs.Lists.{all_below}
use Rattle.qp_model.specs.Sites.{blocks_of}
use Rattle.qp_check_ends.proofs.resting.blocks_rest.Given as goal

abbrev pub invariant-loop-k : goal.invariant-loop-k
invariant-loop-k l = all_below l.k (λ k. all_below (blocks_of l.sys (suc k)) (block_rests l.sys (all_items l.records) l.deferred (suc k))) ≡ true
