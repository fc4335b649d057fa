use Rattle.std.proofs.Common.{◌≡◌, ◌≤◌, take}
use Rattle.qp_check_words.specs.Marks.{draw_count}
use Rattle.qp_check_words.proofs.histories.draw_count.Given as goal

abbrev pub invariant-loop-r : goal.invariant-loop-r
invariant-loop-r l = record { counted : l.count ≡ draw_count (take l.r-index l.touched); within : l.count ≤ l.r-index }
