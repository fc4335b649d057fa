use Rattle.std.proofs.Common.{arith}
use Rattle.qp_text_scan.proofs.LineLemmas.{numbers-fit}
use Rattle.qp_text_scan.proofs.records.is_in_range.Goals as goal

pub returns-then-has_count-clause-bits : goal.returns-then-has_count-clause-bits
returns-then-has_count-clause-bits c = rw (← c.as_slice-nums.ensures.value) (numbers-fit c.as_slice-nums.result.now (λ i. grind arith))

pub returns-else-has_count-clause-bits : goal.returns-else-has_count-clause-bits
returns-else-has_count-clause-bits c = rw (← c.as_slice-nums.ensures.value) (numbers-fit c.as_slice-nums.result.now (λ i. grind arith))
