use Rattle.qp_packed.specs.Packing.{numbers_in, words_behind}
use Rattle.qp_packed.specs.Reading.{HasReadNumbers}
use Rattle.qp_packed.proofs.cursor.numbers_into.Given as goal

abbrev pub invariant-loop-mark : goal.invariant-loop-mark
invariant-loop-mark l = HasReadNumbers l.nums.items l.mark l.rest (numbers_in 13 l.fn.mark l.words) (words_behind 13 l.fn.mark l.words)

abbrev pub decreases-loop-mark : goal.decreases-loop-mark
decreases-loop-mark l = l.mark
