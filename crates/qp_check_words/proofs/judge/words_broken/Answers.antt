use Rattle.std.proofs.Common.{◌∙◌}
use Rattle.qp_check_words.proofs.BrokenLemmas.{broken-all}
use Rattle.qp_check_words.proofs.judge.words_broken.Goals as goal

pub returns : goal.returns
returns c = broken-all c.args.sys.now c.args.records.now c.deref.result.now c.in_ok-broken.broken (c.deref.ensures.value ∙ c.in_ok-words.ensures) c.in_ok-broken.ensures
