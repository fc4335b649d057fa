use Rattle.std.proofs.Common.{◌∙◌}
use Rattle.qp_packed.proofs.SkipLemmas.{words-of}
use Rattle.qp_packed.proofs.cursor.words_of.Goals as goal

pub returns : goal.returns
returns c = λ xs few is. c.saturating_sub.ensures ∙ words-of c.args.mark xs few is
