use Rattle.std.proofs.Common.{◌≡◌, ◌∙◌, ◌+◌, ap, arith}
use Rattle.std.specs.BTreeSet.{insert_key}
use Rattle.std.specs.Ordering.{nat_cmp}
use Rattle.qp_check_lanes.proofs.FreeSetLemmas.{count-inserted}
use Rattle.qp_check_lanes.proofs.pools.FreeBlocks.new.Goals as goal

pub loop-b-preserved : goal.loop-b-preserved
loop-b-preserved c =
    let e : c.from.result ≡ 0 + c.loop-b.b = c.from.ensures ∙ omega arith in
    c.in_ok-insert.ensures.keys ∙ ap (λ ks. insert_key nat_cmp ks c.from.result) c.loop-b.invariant ∙ count-inserted 0 c.loop-b.b c.from.result e
