use Rattle.qp_summary.specs.Counting.{pool_gives}
use Rattle.qp_summary.proofs.CountLemmas.{told-of}
use Rattle.qp_summary.proofs.blocks.Blocks.given.Goals as goal

pub returns : goal.returns
returns c = λ size items are. told-of size pool_gives c.args.self.now.given items are.given c.args.p c.at.result c.at.ensures
