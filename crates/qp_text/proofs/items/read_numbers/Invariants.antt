use Rattle.std.proofs.Common.{◌≡◌, ◌++◌, length}
use Rattle.std.specs.Option.{option_map}
use Rattle.qp_text.specs.Numbers.{numbers_at}
use Rattle.qp_text.proofs.PartsLemmas.{left}
use Rattle.qp_text.specs.Parts.{parts_behind}
use Rattle.qp_text.proofs.items.read_numbers.Given as goal

abbrev pub invariant-loop-more : goal.invariant-loop-more
invariant-loop-more l =
    option_map (λ rest. l.nums.items ++ rest) (numbers_at l.has_signs (length l.nums.items) (parts_behind 32 l.more)) ≡ numbers_at l.has_signs 0 (parts_behind 32 l.fn.texts)

abbrev pub decreases-loop-more : goal.decreases-loop-more
decreases-loop-more l = left l.more
