use Rattle.std.proofs.Common.{◌≡◌, ◌≤◌, length}
use Rattle.qp_side.specs.Seat.{StaysAs, side_recs}
use Rattle.qp_shared_tests.proofs.sides.play.Given as goal

abbrev pub invariant-loop-made : goal.invariant-loop-made
invariant-loop-made g l = record {
  key : l.seat.words.now.shared.key ≡ l.fn.seat.words.now.shared.key;
  stays : StaysAs l.fn.seat.seat.me.0 l.seat.seat.me.0;
  few : length (side_recs l.seat.seat.me.0) ≤ l.made-index;
  good : l.good ≤ l.made-index;
}
