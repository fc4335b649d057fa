use Rattle.std.proofs.Common.{◌≡◌, ◌+◌, ◌-◌, ◌≤◌}
use Rattle.qp_text.specs.LineItem.{id_from}
use Rattle.qp_text.proofs.items.id_of.Given as goal

abbrev pub invariant-loop-id : goal.invariant-loop-id
invariant-loop-id l = record {
  so_far : id_from (l.last + 1 - l.id) l.id l.word ≡ id_from l.last 1 l.word;
  first : 1 ≤ l.id;
  past : l.id ≤ l.last + 1;
}
