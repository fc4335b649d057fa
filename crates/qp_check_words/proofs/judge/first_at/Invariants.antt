use Rattle.std.proofs.Common.{◌≡◌, drop}
use Rattle.qp_check_words.specs.Judging.{rule_test}
use Rattle.qp_check_words.specs.WordRules.{first_broken, tries_at}
use Rattle.qp_check_words.proofs.judge.first_at.Given as goal

abbrev pub invariant-loop-word : goal.invariant-loop-word
invariant-loop-word l =
    first_broken (tries_at (rule_test l.sys l.records) l.rule l.words)
    ≡ first_broken (tries_at (rule_test l.sys l.records) l.rule (drop l.word-index l.words))
