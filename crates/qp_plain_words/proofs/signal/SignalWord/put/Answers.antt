use Rattle.qp_plain_words.proofs.SetLemmas.{set-adds}
use Rattle.qp_plain_words.proofs.signal.SignalWord.put.Goals as goal

pub returns-clause-set : goal.returns-clause-set
returns-clause-set c = set-adds c.args.self.now.set c.args.o c.requires.some c.requires.within c.requires.out
