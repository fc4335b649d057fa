use Rattle.std.proofs.Common.{◌≡◌, ◌∙◌, ◌+◌, ap, arith}
use Rattle.qp_model.specs.declared.words.Word.TheVariants as word
use Rattle.qp_check_lanes.proofs.ShortListLemmas.{map-more}
use Rattle.qp_check_words.proofs.words.add_signals.Goals as goal

pub loop-k-preserved : goal.loop-k-preserved
loop-k-preserved c =
    let next : c.loop-k.k + 4 ≡ 4 + c.loop-k.k = omega arith in
    c.in_ok-push.ensures.items ∙ map-more (λ n. word.Signal n) c.args.words.now.items 4 c.loop-k.k (word.Signal (c.loop-k.k + 4)) c.loop-k.words.items c.loop-k.invariant (ap (λ n. word.Signal n) next)
