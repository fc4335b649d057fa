use Rattle.std.proofs.Common.{arith}
use Rattle.qp_plain_words.proofs.SetLemmas.{clear-takes}
use Rattle.qp_plain_words.proofs.signal.SignalWord.take.Goals as goal

pub returns-clause-set : goal.returns-clause-set
returns-clause-set c = clear-takes c.args.self.now.set c.args.o c.requires.some c.requires.within c.requires.present (omega arith)
