use Rattle.std.proofs.Common.{◌≡◌, ◌++◌, ◌+◌, ℕ, map, drop}
use Rattle.qp_model.specs.History.{lane_items}
use Rattle.qp_model.specs.OneOrder.{parts_of_look}
use Rattle.qp_check_kernel.specs.StimulusIndex.{parts_at}
use Rattle.qp_check_kernel.proofs.stimulus_index.Index.of.Given as goal

abbrev pub invariant-loop-n : goal.invariant-loop-n
invariant-loop-n l =
    (k : ℕ) → parts_at l.index k ++ parts_of_look (l.n + 1) k l.cuts (map (λ lane. lane_items lane) (drop l.n l.sources))
    ≡ parts_of_look 1 k l.cuts (map (λ lane. lane_items lane) l.sources)
