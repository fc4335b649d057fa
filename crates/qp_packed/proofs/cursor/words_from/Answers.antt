use Rattle.qp_packed.proofs.SkipLemmas.{take-rest}
use Rattle.qp_packed.proofs.cursor.words_from.Goals as goal

pub returns : goal.returns
returns c = take-rest c.args.words.now c.args.at
