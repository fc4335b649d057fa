use Rattle.std.proofs.Common.{subst}
use Rattle.qp_summary.specs.Counting.{took_of, IsCountAt}
use Rattle.qp_summary.proofs.CountLemmas.{told-of}
use Rattle.qp_summary.proofs.turns.TurnCounts.taken.Goals as goal

pub returns : goal.returns
returns c = λ items are. told-of 33 took_of c.args.self.now.taken items are.taken c.args.p c.at.result (subst (λ k. IsCountAt c.args.self.now.taken k c.at.result) c.from.ensures c.at.ensures)
