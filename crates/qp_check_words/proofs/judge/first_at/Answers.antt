use Rattle.std.proofs.Common.{◌∙◌, ◌+◌, ap, sym, drop}
use Rattle.std.proofs.lemmas.List.{drop_all}
use Rattle.qp_check_words.specs.Judging.{rule_test}
use Rattle.qp_check_words.specs.WordRules.{first_broken, tries_at}
use Rattle.qp_check_words.proofs.BrokenLemmas.{at-fails, at-next}
use Rattle.qp_check_lanes.proofs.WalkLemmas.{rest_get}
use Rattle.qp_check_words.proofs.judge.first_at.Goals as goal

pub returns-then-branch : goal.returns-then-branch
returns-then-branch c =
    let h = rule_test c.args.sys.now c.args.records.now in
    rw (c.number.ensures, c.site_of.ensures)
    (sym (c.loop-word.invariant
    ∙ ap (λ ws. first_broken (tries_at h c.args.rule ws)) (rest_get c.args.words.now c.loop-word.word-index _ c.loop-word-test.true)
    ∙ at-fails h c.args.rule _ (drop (c.loop-word.word-index + 1) c.args.words.now) (sym c.in_ok-fails.ensures ∙ c.if-branch.true)))

pub loop-word-preserved : goal.loop-word-preserved
loop-word-preserved c =
    let h = rule_test c.args.sys.now c.args.records.now in
    c.loop-word.invariant
    ∙ ap (λ ws. first_broken (tries_at h c.args.rule ws)) (rest_get c.args.words.now c.loop-word.word-index _ c.loop-word-test.true)
    ∙ at-next h c.args.rule _ (drop (c.loop-word.word-index + 1) c.args.words.now) (sym c.in_ok-fails.ensures ∙ c.if-branch.false)

pub returns : goal.returns
unfolding first_broken
returns c =
    let h = rule_test c.args.sys.now c.args.records.now in
    sym (c.loop-word.invariant ∙ ap (λ ws. first_broken (tries_at h c.args.rule ws)) (drop_all c.loop-word.word-index c.args.words.now c.loop-word-test.false))
