use Rattle.std.proofs.Common.{◌≤◌, get_or, arith}
use Rattle.qp_check_ends.proofs.ReferenceCountLemmas.{count-le, get-any}
use Rattle.qp_check_ends.proofs.reference_counts.ReferenceCounts.add.Goals as goal

pub overflow_add-index_mut : goal.overflow_add-index_mut
overflow_add-index_mut c =
    let counts = c.args.self.now.counts.items in
    let some : get_or counts c.args.k 0 ≤ c.args.self.now.total = count-le c.requires.counts.0 counts c.args.self.now.total c.requires.counts.1 c.args.k in
    omega (arith, some, get-any counts c.args.k c.index_mut.result.now c.requires.inside, c.index_mut.ensures.value, c.requires.room)
