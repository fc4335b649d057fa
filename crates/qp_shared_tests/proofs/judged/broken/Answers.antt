use Rattle.qp_shared_tests.proofs.JudgeLemmas.{sound-judgeable}
use Rattle.qp_shared_tests.proofs.judged.broken.Goals as goal

pub check-requires-clause-judgeable : goal.check-requires-clause-judgeable
check-requires-clause-judgeable c = sound-judgeable c.args.sys.now c.requires.sound
