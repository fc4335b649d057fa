use Rattle.std.proofs.Common.{◌≡◌, ◌∙◌, ◌+◌, ap, arith}
use Rattle.qp_model.specs.declared.words.Word.TheVariants as word
use Rattle.qp_check_lanes.proofs.ShortListLemmas.{map-more}
use Rattle.qp_check_words.proofs.words.add_blocks_of.Goals as goal

pub loop-b-preserved : goal.loop-b-preserved
loop-b-preserved c =
    let next : c.loop-b.b ≡ 0 + c.loop-b.b = omega arith in
    c.in_ok-push.ensures.items ∙ map-more (λ n. word.Block c.args.p n) c.args.words.now.items 0 c.loop-b.b (word.Block c.args.p c.loop-b.b) c.loop-b.words.items c.loop-b.invariant (ap (λ n. word.Block c.args.p n) next)
