use Rattle.std.proofs.Common.{subst}
use Rattle.qp_summary.specs.Counting.{done_of, IsCountAt}
use Rattle.qp_summary.proofs.CountLemmas.{told-of}
use Rattle.qp_summary.proofs.turns.TurnCounts.done.Goals as goal

pub returns : goal.returns
returns c = λ items are. told-of 33 done_of c.args.self.now.done items are.done c.args.p c.at.result (subst (λ k. IsCountAt c.args.self.now.done k c.at.result) c.from.ensures c.at.ensures)
