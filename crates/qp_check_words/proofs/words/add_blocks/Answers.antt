use Rattle.std.proofs.Common.{◌≡◌, ◌∙◌, ◌+◌, ap, arith}
use Rattle.qp_check_words.specs.SystemWords.{words_of_pool}
use Rattle.qp_check_lanes.proofs.ShortListLemmas.{flat_map-more}
use Rattle.qp_check_words.proofs.words.add_blocks.Goals as goal

pub loop-k-preserved : goal.loop-k-preserved
loop-k-preserved c =
    let next : c.loop-k.k + 1 ≡ 1 + c.loop-k.k = omega arith in
    c.in_ok-add_blocks_of.ensures ∙ flat_map-more (words_of_pool c.args.sys.now) c.args.words.now.items 1 c.loop-k.k (words_of_pool c.args.sys.now (c.loop-k.k + 1)) c.loop-k.words.items c.loop-k.invariant (ap (words_of_pool c.args.sys.now) next)
