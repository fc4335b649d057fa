use Rattle.std.proofs.Common.{◌∙◌, ◌+◌, ap, sym, drop}
use Rattle.std.proofs.lemmas.List.{drop_all}
use Rattle.qp_check_words.specs.Judging.{rule_test}
use Rattle.qp_check_words.specs.WordRules.{first_broken, tries_by}
use Rattle.qp_check_words.proofs.BrokenLemmas.{broken-some, broken-none}
use Rattle.qp_check_lanes.proofs.WalkLemmas.{rest_get}
use Rattle.qp_check_words.proofs.judge.first_by.Goals as goal

pub returns-in-Some : goal.returns-in-Some
returns-in-Some c =
    let h = rule_test c.args.sys.now c.args.records.now in
    let words = c.args.words.now in
    sym (c.loop-rule.invariant
    ∙ ap (λ rs. first_broken (tries_by h rs words)) (rest_get c.args.rules.now c.loop-rule.rule-index _ c.loop-rule-test.true)
    ∙ broken-some _ (tries_by h (drop (c.loop-rule.rule-index + 1) c.args.rules.now) words) c.in-Some.broken (sym c.in_ok-broken.ensures ∙ c.in-Some.is))

pub loop-rule-preserved : goal.loop-rule-preserved
loop-rule-preserved c =
    let h = rule_test c.args.sys.now c.args.records.now in
    let words = c.args.words.now in
    c.loop-rule.invariant
    ∙ ap (λ rs. first_broken (tries_by h rs words)) (rest_get c.args.rules.now c.loop-rule.rule-index _ c.loop-rule-test.true)
    ∙ broken-none _ (tries_by h (drop (c.loop-rule.rule-index + 1) c.args.rules.now) words) (sym c.in_ok-broken.ensures ∙ c.in-None.is)

pub returns : goal.returns
unfolding first_broken
returns c =
    let h = rule_test c.args.sys.now c.args.records.now in
    sym (c.loop-rule.invariant ∙ ap (λ rs. first_broken (tries_by h rs c.args.words.now)) (drop_all c.loop-rule.rule-index c.args.rules.now c.loop-rule-test.false))
