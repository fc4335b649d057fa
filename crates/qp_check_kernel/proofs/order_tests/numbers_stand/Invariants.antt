use Rattle.std.proofs.Common.{◌≡◌, [], map, take, drop}
use Rattle.qp_model.specs.declared.words.Word.{Word}
use Rattle.qp_model.specs.History.{total}
use Rattle.qp_model.specs.Places.{in_order}
use Rattle.qp_check_kernel.specs.AsPlaced.{said_at}
use Rattle.qp_check_lanes.specs.WordTotals.{count_at}
use Rattle.qp_check_kernel.proofs.order_tests.numbers_stand.Given as goal

abbrev pub invariant-loop-x : goal.invariant-loop-x
invariant-loop-x l = record {
  totals : (w : Word) → count_at l.totals w ≡ total w (map said_at (take l.x-index l.order));
  same : in_order (map said_at (take l.x-index l.order)) (map said_at (drop l.x-index l.order)) ≡ in_order [] (map said_at l.order);
}
