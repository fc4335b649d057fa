use Rattle.std.proofs.Common.{◌+◌}
use Rattle.qp_base.proofs.GatheringLemmas.{begun}
use Rattle.qp_base.proofs.gathered.Gathered.inner.Goals as goal

pub returns-clause-begun : goal.returns-clause-begun
returns-clause-begun g c = begun c.args.self.now.course (g.B.Beginning.first_length + c.args.self.now.gone) c.args.self.now.held.items (g.S.Sink.written c.args.self.now.inner) c.args.self.now.goes
