use Rattle.std.proofs.Common.{rules}
use Rattle.std.proofs.lemmas.List.Sorted.{IsNonDecreasingBy-from_sort, answers_always}
use Rattle.qp_system_tables.specs.declared.raw.RawObject.{RawObject}
use Rattle.qp_system.proofs.defs.by_priority.Goals as goal

pub returns-clause-ascend : goal.returns-clause-ascend
returns-clause-ascend c =
    IsNonDecreasingBy-from_sort (λ (o : RawObject). o.priority) _
    (c.sort_unstable_by_key.ensures.sorted (λ (o : RawObject). o.priority) (answers_always _ _ _ (λ f a r g h. search rules)))
