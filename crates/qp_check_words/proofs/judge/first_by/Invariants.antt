use Rattle.std.proofs.Common.{◌≡◌, drop}
use Rattle.qp_check_words.specs.Judging.{rule_test}
use Rattle.qp_check_words.specs.WordRules.{first_broken, tries_by}
use Rattle.qp_check_words.proofs.judge.first_by.Given as goal

abbrev pub invariant-loop-rule : goal.invariant-loop-rule
invariant-loop-rule l =
    first_broken (tries_by (rule_test l.sys l.records) l.rules l.words)
    ≡ first_broken (tries_by (rule_test l.sys l.records) (drop l.rule-index l.rules) l.words)
