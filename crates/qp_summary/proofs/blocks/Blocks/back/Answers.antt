use Rattle.qp_summary.specs.Counting.{pool_gets_back}
use Rattle.qp_summary.proofs.CountLemmas.{told-of}
use Rattle.qp_summary.proofs.blocks.Blocks.back.Goals as goal

pub returns : goal.returns
returns c = λ size items are. told-of size pool_gets_back c.args.self.now.back items are.back c.args.p c.at.result c.at.ensures
