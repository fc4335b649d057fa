use Rattle.std.proofs.Common.{arith}
use Rattle.qp_chart_names.specs.Keys.{key_words}
use Rattle.qp_chart_names.specs.Paths.{key_word}
use Rattle.qp_chart_names.proofs.PathLemmas.{now-get_or, unwrap_or-past}
use Rattle.qp_chart_names.proofs.key.word.Goals as goal

pub returns-then-key-gt-THRESHOLD : goal.returns-then-key-gt-THRESHOLD
unfolding key_word
returns-then-key-gt-THRESHOLD c = unwrap_or-past key_words c.args.key (omega arith)

pub returns : goal.returns
unfolding key_word
returns c = rw now-get_or
