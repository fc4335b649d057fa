use Rattle.std.proofs.Common.{◌≡◌, ◌∙◌, ◌+◌, ap, arith}
use Rattle.qp_model.specs.declared.words.Word.TheVariants as word
use Rattle.qp_check_lanes.proofs.ShortListLemmas.{map-more}
use Rattle.qp_check_words.proofs.words.add_timers.Goals as goal

pub loop-k-preserved : goal.loop-k-preserved
loop-k-preserved c =
    let next : c.loop-k.k + 1 ≡ 1 + c.loop-k.k = omega arith in
    c.in_ok-push.ensures.items ∙ map-more (λ n. word.Timer n) c.args.words.now.items 1 c.loop-k.k (word.Timer (c.loop-k.k + 1)) c.loop-k.words.items c.loop-k.invariant (ap (λ n. word.Timer n) next)
