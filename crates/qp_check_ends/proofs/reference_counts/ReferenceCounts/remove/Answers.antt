use Rattle.std.proofs.Common.{◌-◌, ap, arith}
use Rattle.qp_check_ends.proofs.ReferenceCountLemmas.{counted-keep, counted-remove}
use Rattle.qp_check_ends.proofs.reference_counts.ReferenceCounts.remove.Goals as goal

pub returns-then-count-gt0-clause-counted : goal.returns-then-count-gt0-clause-counted
returns-then-count-gt0-clause-counted c = λ names h.
    counted-remove names c.args.self.now.counts.items c.args.self.now.total h c.args.k (omega (arith, c.at-count.ensures, c.if-count-gt0.true)) _ _
    (ap (λ n. n - 1) c.at-count.ensures) c.saturating_sub-self.ensures

pub returns-else-count-gt0-clause-counted : goal.returns-else-count-gt0-clause-counted
returns-else-count-gt0-clause-counted c = λ names h.
    counted-keep names c.args.self.now.counts.items c.args.self.now.total h c.args.k (omega (arith, c.at-count.ensures, c.if-count-gt0.false))
