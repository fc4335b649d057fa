use Rattle.std.proofs.Common.{◌≡◌, nat_le, drop}
use Rattle.std.specs.List.{list_all}
use Rattle.qp_model.specs.History.{all_items}
use Rattle.qp_model.specs.End.{took_count}
use Rattle.qp_check_ends.proofs.journal_end.budgets_are_kept.Given as goal

abbrev pub invariant-loop-d : goal.invariant-loop-d
invariant-loop-d l =
    list_all (λ d. nat_le (took_count (all_items l.j.lanes) d.priority) l.j.budget) (drop l.d-index l.d-items)
    ≡ list_all (λ d. nat_le (took_count (all_items l.j.lanes) d.priority) l.j.budget) l.d-items
