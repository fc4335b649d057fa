use Rattle.std.proofs.Common.{◌<◌, length, arith}
use Rattle.qp_check_ends.proofs.ReferenceCountLemmas.{get-any, not-marked, only-marked}
use Rattle.qp_check_ends.proofs.reference_counts.ReferenceCounts.has_only.Goals as goal

pub returns-then-not-marks-k : goal.returns-then-not-marks-k
returns-then-not-marks-k c = λ names others h marked.
    let counts = c.args.self.now.counts.items in
    let inside : c.loop-k.k < length counts = omega (arith, c.requires, c.loop-k-test.true) in
    let some : 0 < c.index.result.now = c.if-index-gt0.true in
    not-marked names c.args.self.now.counts.items c.args.self.now.total h c.args.marks.now others marked c.loop-k.k (omega (arith, c.index.ensures, some, get-any counts c.loop-k.k c.index.result.now inside)) c.if-not-marks-k.true

pub returns : goal.returns
returns c = λ names others h marked.
    only-marked names c.args.self.now.counts.items c.args.self.now.total h c.args.marks.now others marked
    (λ k lt some. c.loop-k.invariant k (omega (arith, c.requires, c.loop-k-test.false, lt)) some)
